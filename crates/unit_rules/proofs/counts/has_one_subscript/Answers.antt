-- A name with parentheses.
use Rattle.std.proofs.Common.{◌∙◌}
use Rattle.f66_tree.proofs.Rows.{item_seen}
use Rattle.unit_rules.specs.Storage.{has_one_subscript}
use Rattle.unit_rules.proofs.counts.has_one_subscript.Goals as goal

pub returns-in-Item : goal.returns-in-Item
returns-in-Item c =
    c.is_one.ensures c.deref.result.now.0 ∙ item_seen has_one_subscript c.args.e.now c.in-Item.item c.deref.result.now c.deref-in-Item.result.now c.in-Item.is c.deref.ensures c.deref-in-Item.ensures.value
