-- The actuals before agree with their dummies.
use Rattle.std.proofs.Common.{◌≡◌, drop}
use Rattle.f66_tree.specs.Views.{formulas_of}
use Rattle.f66_program.specs.Calls.{agree_all}
use Rattle.linker.specs.TypeViews.{context_typed}
use Rattle.linker.proofs.agreement.agree_all.Given as goal

abbrev pub invariant-loop-i : goal.invariant-loop-i
invariant-loop-i l = agree_all (context_typed l.caller) (formulas_of (drop l.i l.actuals)) (context_typed l.called) (drop l.i l.dummies)
    ≡ agree_all (context_typed l.caller) (formulas_of l.actuals) (context_typed l.called) l.dummies
