-- What stands before has given its calls.
use Rattle.std.proofs.Common.{◌≡◌, drop}
use Rattle.efl_tree.specs.Views.{exprs_of, steps_of}
use Rattle.efl_scope.specs.Uses.{uses_of_all, uses_behind}
use Rattle.efl_whole.specs.Calls.{using_all}
use Rattle.efl_whole.specs.CallViews.{calls_of, site_of}
use Rattle.efl_whole.proofs.expressions.+add_expression.Given as goal

abbrev pub invariant-add_expressions-loop-e : goal.invariant-add_expressions-loop-e
invariant-add_expressions-loop-e l =
    using_all (site_of l.site) l.place (uses_of_all (exprs_of (drop l.e-index l.list))) (calls_of l.calls)
    ≡ using_all (site_of l.site) l.place (uses_of_all (exprs_of l.list)) (calls_of l.initial.calls)

abbrev pub invariant-add_steps-loop-step : goal.invariant-add_steps-loop-step
invariant-add_steps-loop-step l =
    using_all (site_of l.site) l.place (uses_behind (steps_of (drop l.step-index l.list))) (calls_of l.calls)
    ≡ using_all (site_of l.site) l.place (uses_behind (steps_of l.list)) (calls_of l.initial.calls)
