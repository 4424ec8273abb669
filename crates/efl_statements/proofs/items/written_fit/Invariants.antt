-- Whether those behind fit into the room that is left.
use Rattle.std.proofs.Common.{◌≡◌, drop, map, Some}
use Rattle.efl_tree.specs.Views.{write_item_of}
use Rattle.efl_types.specs.Statements.{written_width}
use Rattle.efl_statements.specs.Widths.{fit_into}
use Rattle.efl_statements.proofs.items.written_fit.Given as goal

abbrev pub invariant-loop-item : goal.invariant-loop-item
invariant-loop-item l = fit_into written_width l.room (map write_item_of (drop l.item-index l.list)) ≡ fit_into written_width (Some 132) (map write_item_of l.list)
