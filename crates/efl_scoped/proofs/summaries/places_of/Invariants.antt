-- The bounds before are counted.
use Rattle.std.proofs.Common.{◌≡◌, ◌*◌, ◌≤◌, drop}
use Rattle.efl_scope.specs.DataTypes.{elements}
use Rattle.efl_scoped.specs.Told.{capped}
use Rattle.efl_scoped.proofs.summaries.places_of.Given as goal

abbrev pub invariant-loop-bound : goal.invariant-loop-bound
invariant-loop-bound l = record {
  counted : capped (elements (drop l.bound-index l.bounds) * l.places) ≡ capped (elements l.bounds * l.element);
  small : l.places ≤ 32768;
}
