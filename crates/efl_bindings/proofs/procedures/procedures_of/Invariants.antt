-- The procedures before have their numbers.
use Rattle.std.proofs.Common.{◌≡◌, take, map}
use Rattle.std.specs.Prelude.{option_map}
use Rattle.efl_tree.specs.Syntax.{Text}
use Rattle.efl_tree.specs.Views.{procedure_of}
use Rattle.efl_types.specs.Whole.{number_of}
use Rattle.efl_typed.specs.Typing.{value_kind}
use Rattle.efl_bindings.specs.Bindings.{procedure_in}
use Rattle.efl_bindings.proofs.procedures.procedures_of.Given as goal

abbrev pub invariant-loop-number : goal.invariant-loop-number
invariant-loop-number l =
    (x : Text) → procedure_in l.procedures x ≡ option_map (λ n. (n, value_kind (map procedure_of l.list) n)) (number_of (map procedure_of (take l.number l.list)) x)
