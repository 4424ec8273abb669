-- So far the texts before have had their room.
use Rattle.std.proofs.Common.{drop, ◌+◌, ◌≤◌}
use Rattle.f66_tree.specs.Views.{formulas_of}
use Rattle.rat_check.specs.LongTexts.{texts_size}
use Rattle.rat_check.proofs.short_texts.+room.Given as goal

abbrev pub invariant-room_behind_list-loop-e : goal.invariant-room_behind_list-loop-e
invariant-room_behind_list-loop-e l = texts_size (formulas_of l.list) + l.room ≤ l.fn.room + texts_size (formulas_of (drop l.e-index l.list))
