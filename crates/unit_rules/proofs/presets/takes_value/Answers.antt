-- A name with parentheses.
use Rattle.std.proofs.Common.{◌∙◌}
use Rattle.f66_tree.proofs.Rows.{item_seen}
use Rattle.f66_names.specs.DeclarationViews.{context_in, acts_in}
use Rattle.unit_rules.specs.Storage.{takes_value}
use Rattle.unit_rules.proofs.presets.takes_value.Goals as goal

pub returns-in-Item : goal.returns-in-Item
returns-in-Item c =
    c.is_fit_element.ensures ∙ item_seen (takes_value (context_in c.args.names.now.declarations) (acts_in c.args.names.now.declarations)) c.args.e.now c.in-Item.item c.deref.result.now c.deref-in-Item.result.now c.in-Item.is c.deref.ensures c.deref-in-Item.ensures.value
