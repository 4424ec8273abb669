-- The bounds before are told.
use Rattle.std.proofs.Common.{drop}
use Rattle.efl_scoped.specs.Seen.{table_of}
use Rattle.efl_scoped.proofs.WordLemmas.{BoundsLeft}
use Rattle.efl_scoped.proofs.summaries.array_number.Given as goal

abbrev pub invariant-loop-bound : goal.invariant-loop-bound
invariant-loop-bound l = BoundsLeft (table_of l.fn.numbers) l.element l.bounds (table_of l.numbers) (drop l.bound-index l.bounds) l.number
