-- The steps of the subscripts before are counted.
use Rattle.std.proofs.Common.{◌≡◌, drop}
use Rattle.std.specs.Option.{option_map}
use Rattle.efl_tree.specs.Views.{exprs_of}
use Rattle.efl_types.specs.Presets.{elements_before}
use Rattle.efl_scoped.specs.Told.{capped}
use Rattle.efl_initial_values.specs.Offsets.{on_from}
use Rattle.efl_initial_values.proofs.subscripts.elements_before.Given as goal

abbrev pub invariant-loop-number : goal.invariant-loop-number
invariant-loop-number l = on_from l.before (elements_before l.step (drop l.number l.bounds) (exprs_of (drop l.number l.subscripts))) ≡ option_map capped (elements_before 1 l.bounds (exprs_of l.subscripts))
