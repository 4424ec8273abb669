-- A name with parentheses.
use Rattle.std.proofs.Common.{◌∙◌}
use Rattle.f66_names.specs.Kinds.{takes_kind}
use Rattle.f66_names.specs.DeclarationViews.{context_in}
use Rattle.f66_tree.proofs.Rows.{item_seen}
use Rattle.f66_names.proofs.kinds.takes_kind.Goals as goal

pub returns-in-Item : goal.returns-in-Item
returns-in-Item c =
    c.takes_element.ensures
    ∙ item_seen (λ a. takes_kind (context_in c.args.declarations.now) a c.args.kind) c.args.target.now c.in-Item.item c.deref.result.now c.deref-in-Item.result.now c.in-Item.is c.deref.ensures c.deref-in-Item.ensures.value
