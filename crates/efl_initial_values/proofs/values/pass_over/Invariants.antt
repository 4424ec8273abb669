-- The values before have gone over the places before.
use Rattle.std.proofs.Common.{◌≡◌, List, [], ◌∷◌, ◌++◌, drop}
use Rattle.ground.specs.declared.value.Kind.{Kind}
use Rattle.efl_types.specs.Presets.{repeated, misfit}
use Rattle.efl_initial_values.specs.Filling.{used_up, left_from}
use Rattle.efl_initial_values.proofs.values.pass_over.Given as goal

abbrev pub invariant-loop-number : goal.invariant-loop-number
invariant-loop-number l =
    (ls : List Kind) → misfit (repeated l.count (l.kind ∷ []) ++ ls) (left_from l.values l.fn.from) ≡ misfit (repeated l.left (l.kind ∷ []) ++ ls) (used_up l.used (drop l.number l.values))
