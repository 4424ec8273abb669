-- There are numbers above those so far; after each pass more is left out of the greatest sum no more.
use Rattle.std.proofs.Common.{◌*◌, ◌-◌, length, sum}
use Rattle.code_layout.specs.Ranks.{CanRise}
use Rattle.code_layout.proofs.ranks.lift_all.Given as goal

abbrev pub invariant-loop : goal.invariant-loop
invariant-loop l = CanRise l.edges l.ranks

abbrev pub decreases-loop : goal.decreases-loop
decreases-loop l = length l.ranks * length l.ranks - sum l.ranks
