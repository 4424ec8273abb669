-- The loops and switches around a part in memory, as a list.
use Rattle.std.specs.Prelude.{List, [], ◌∷◌}
use Rattle.efl_tree.specs.declared.statement.LoopKind.{LoopKind}
use Rattle.efl_scope.specs.declared.loops.Loops.{Loops}
use Rattle.efl_scope.specs.declared.loops.Loops.TheBlock.{Outside, Inside'}

abbrev pub loops_of : Loops → List LoopKind
loops_of Outside = []
loops_of (Inside' k p outside) = k ∷ loops_of outside
