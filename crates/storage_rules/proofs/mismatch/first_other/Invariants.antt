-- No unit before names a block of another size, and their blocks have their first sizes.
use Rattle.std.proofs.Common.{map}
use Rattle.std.specs.HashMap.{get_by}
use Rattle.std.specs.Str.{bytes_eq}
use Rattle.f66_tree.specs.Views.{routine_of}
use Rattle.storage_rules.specs.Mismatch.{AreClearBefore, AreFirstSizes}
use Rattle.storage_rules.proofs.mismatch.first_other.Given as goal

abbrev pub invariant-loop-unit : goal.invariant-loop-unit
invariant-loop-unit l = record {
  clear : AreClearBefore (map routine_of l.units) l.unit-index;
  firsts : AreFirstSizes (map routine_of l.units) l.unit-index (λ q. get_by (λ k. bytes_eq q k.now) l.firsts);
}
