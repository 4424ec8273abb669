-- An implied DO, and that it has an item.
use Rattle.std.proofs.Common.{◌∙◌, arith}
use Rattle.f66_names.specs.Shapes.{is_item}
use Rattle.f66_names.proofs.EntryLemmas.{many_seen, some_items}
use Rattle.f66_names.proofs.shapes.+are_items.Goals as goal

pub is_item-returns-in-Many : goal.is_item-returns-in-Many
is_item-returns-in-Many t c =
    c.are_counted.ensures
    ∙ many_seen is_item c.args.entry.now c.in-Many.list c.in-Many.variable c.in-Many.first c.in-Many.last c.in-Many.step c.deref.result.now c.in-Many.is c.deref.ensures.value

pub are_some_items-returns-then-not-is_empty : goal.are_some_items-returns-then-not-is_empty
are_some_items-returns-then-not-is_empty t c = c.are_items.ensures ∙ some_items c.args.list.now (grind arith)
