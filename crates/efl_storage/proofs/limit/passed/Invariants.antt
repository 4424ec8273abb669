-- The procedures before do not pass the limit.
use Rattle.std.proofs.Common.{◌≡◌, drop, map}
use Rattle.efl_tree.specs.Views.{procedure_of}
use Rattle.efl_storage.specs.Counted.{passed_by}
use Rattle.efl_storage.proofs.limit.passed.Given as goal

abbrev pub invariant-loop-unit : goal.invariant-loop-unit
invariant-loop-unit l = passed_by l.places l.unit l.sum (map procedure_of (drop l.unit l.procedures)) ≡ passed_by l.places 0 0 (map procedure_of l.procedures)
