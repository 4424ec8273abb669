-- A name with parentheses.
use Rattle.std.proofs.Common.{◌∙◌}
use Rattle.f66_tree.proofs.Rows.{item_seen}
use Rattle.f66_names.specs.DeclarationViews.{context_in}
use Rattle.unit_rules.specs.Types.{fits}
use Rattle.unit_rules.proofs.types.+fits.Goals as goal

pub fits-returns-in-Item : goal.fits-returns-in-Item
fits-returns-in-Item t c =
    c.fits_item.ensures
    ∙ item_seen (λ a. fits (context_in c.args.declarations.now) a c.args.kind) c.args.e.now c.in-Item.item c.deref.result.now c.deref-in-Item.result.now c.in-Item.is c.deref.ensures c.deref-in-Item.ensures.value
