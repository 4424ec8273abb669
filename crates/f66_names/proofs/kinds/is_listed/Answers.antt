-- A name with parentheses.
use Rattle.std.proofs.Common.{◌∙◌}
use Rattle.f66_names.specs.Kinds.{is_listed}
use Rattle.f66_names.specs.DeclarationViews.{context_in}
use Rattle.f66_tree.proofs.Rows.{item_seen}
use Rattle.f66_names.proofs.kinds.is_listed.Goals as goal

pub returns-in-Item : goal.returns-in-Item
returns-in-Item c =
    c.is_listed_element.ensures
    ∙ item_seen (is_listed c.args.way (context_in c.args.declarations.now)) c.args.e.now c.in-Item.item c.deref.result.now c.deref-in-Item.result.now c.in-Item.is c.deref.ensures c.deref-in-Item.ensures.value
