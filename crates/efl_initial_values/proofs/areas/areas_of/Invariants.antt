-- The declarations before have come.
use Rattle.std.proofs.Common.{[], drop}
use Rattle.efl_tree.specs.Views.{decls_of}
use Rattle.efl_scope.specs.Scopes.{Blocks, declared_in}
use Rattle.efl_initial_values.proofs.AreaLemmas.{DeclarationsLeft}
use Rattle.efl_initial_values.proofs.areas.areas_of.Given as goal

abbrev pub invariant-loop-declaration : goal.invariant-loop-declaration
invariant-loop-declaration l = (bs : Blocks) → DeclarationsLeft (declared_in [] bs (decls_of l.declarations)) (decls_of (drop l.declaration-index l.declarations)) l.members l.areas
