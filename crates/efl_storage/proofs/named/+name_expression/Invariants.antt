-- What stands before has given its names.
use Rattle.std.proofs.Common.{◌≡◌, ◌++◌, drop}
use Rattle.efl_tree.specs.Views.{exprs_of, steps_of}
use Rattle.efl_scope.specs.Uses.{uses_of_all, uses_behind}
use Rattle.efl_storage.specs.Named.{named_in, texts_of}
use Rattle.efl_storage.proofs.named.+name_expression.Given as goal

abbrev pub invariant-name_expressions-loop-e : goal.invariant-name_expressions-loop-e
invariant-name_expressions-loop-e l =
    texts_of l.names.items ++ named_in (uses_of_all (exprs_of (drop l.e-index l.list))) ≡ texts_of l.initial.names.items ++ named_in (uses_of_all (exprs_of l.list))

abbrev pub invariant-name_steps-loop-step : goal.invariant-name_steps-loop-step
invariant-name_steps-loop-step l =
    texts_of l.names.items ++ named_in (uses_behind (steps_of (drop l.step-index l.list))) ≡ texts_of l.initial.names.items ++ named_in (uses_behind (steps_of l.list))
