-- The loops behind are noted.
use Rattle.std.proofs.Common.{drop}
use Rattle.f66_tree.specs.Views.{lines_of}
use Rattle.code_emit.specs.Turns.{AreNoted}
use Rattle.code_emit.proofs.labels.turns_by_label.Given as goal

abbrev pub invariant-loop-index : goal.invariant-loop-index
invariant-loop-index l = AreNoted l.table l.index (lines_of (drop l.index l.statements))
