-- A name with parentheses.
use Rattle.std.proofs.Common.{◌∙◌}
use Rattle.f66_tree.proofs.Rows.{item_seen}
use Rattle.f66_names.specs.DeclarationViews.{context_in}
use Rattle.unit_rules.specs.Storage.{has_odd_subscript}
use Rattle.unit_rules.proofs.shapes.has_odd_subscript.Goals as goal

pub returns-in-Item : goal.returns-in-Item
returns-in-Item c =
    c.is_odd_element.ensures ∙ item_seen (has_odd_subscript (context_in c.args.declarations.now)) c.args.e.now c.in-Item.item c.deref.result.now c.deref-in-Item.result.now c.in-Item.is c.deref.ensures c.deref-in-Item.ensures.value
