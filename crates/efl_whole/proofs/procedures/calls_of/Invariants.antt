-- The procedures before have given their calls.
use Rattle.std.proofs.Common.{◌≡◌, drop, map}
use Rattle.efl_tree.specs.Views.{procedure_of}
use Rattle.efl_whole.specs.Calls.{no_calls, procedures_calls}
use Rattle.efl_whole.specs.CallViews.{calls_of, numbers_of}
use Rattle.efl_whole.proofs.procedures.calls_of.Given as goal

abbrev pub invariant-loop-unit : goal.invariant-loop-unit
invariant-loop-unit l =
    procedures_calls (numbers_of l.numbers) l.unit (map procedure_of (drop l.unit l.procedures)) (calls_of l.calls)
    ≡ procedures_calls (numbers_of l.numbers) 0 (map procedure_of l.procedures) no_calls
