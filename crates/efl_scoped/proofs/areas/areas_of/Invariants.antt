-- Of the procedures before all is told.
use Rattle.std.proofs.Common.{map, take}
use Rattle.efl_tree.specs.Views.{procedure_of}
use Rattle.efl_scoped.specs.Seen.{table_of}
use Rattle.efl_scoped.proofs.AreaLemmas.{AllTold}
use Rattle.efl_scoped.proofs.areas.areas_of.Given as goal

abbrev pub invariant-loop-procedure : goal.invariant-loop-procedure
invariant-loop-procedure l = AllTold (table_of l.numbers) (map procedure_of (take l.procedure-index l.procedures)) l.areas.lists.items l.areas.firsts
