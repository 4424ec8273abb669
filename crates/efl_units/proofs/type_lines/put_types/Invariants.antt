-- So far the statements of the names before are put; fewer names are left.
use Rattle.std.proofs.Common.{◌≡◌, ◌++◌, length}
use Rattle.f66_tree.specs.Views.{lines_of}
use Rattle.efl_units.proofs.TypeLines.{all_lines}
use Rattle.efl_units.proofs.type_lines.put_types.Given as goal

abbrev pub invariant-loop-left : goal.invariant-loop-left
invariant-loop-left l = lines_of l.lines.items ++ all_lines l.place l.word l.left ≡ lines_of l.initial.lines.items ++ all_lines l.place l.word l.names

abbrev pub decreases-loop-left : goal.decreases-loop-left
decreases-loop-left l = length l.left
