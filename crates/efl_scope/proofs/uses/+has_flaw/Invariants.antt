-- Those before have no flaw.
use Rattle.std.proofs.Common.{◌≡◌, drop}
use Rattle.std.specs.List.{list_any}
use Rattle.efl_tree.specs.Views.{exprs_of, steps_of}
use Rattle.efl_scope.specs.Uses.{uses_of_all, uses_behind}
use Rattle.efl_scope.specs.BlockViews.{known_of}
use Rattle.efl_scope.specs.UseViews.{is_flawed}
use Rattle.efl_scope.proofs.uses.+has_flaw.Given as goal

abbrev pub invariant-are_some_flawed-loop-e : goal.invariant-are_some_flawed-loop-e
invariant-are_some_flawed-loop-e l =
    list_any (is_flawed l.flaw (known_of l.known)) (uses_of_all (exprs_of (drop l.e-index l.list)))
    ≡ list_any (is_flawed l.flaw (known_of l.known)) (uses_of_all (exprs_of l.list))

abbrev pub invariant-have_steps_flaw-loop-step : goal.invariant-have_steps_flaw-loop-step
invariant-have_steps_flaw-loop-step l =
    list_any (is_flawed l.flaw (known_of l.known)) (uses_behind (steps_of (drop l.step-index l.list)))
    ≡ list_any (is_flawed l.flaw (known_of l.known)) (uses_behind (steps_of l.list))
