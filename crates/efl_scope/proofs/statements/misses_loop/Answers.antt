-- A `next` counts loops.
use Rattle.std.proofs.Common.{not, sym, ap, ◌∙◌}
use Rattle.efl_tree.specs.Views.{kind_of}
use Rattle.efl_scope.specs.ScopeRules.{leaves_none}
use Rattle.efl_scope.specs.LoopViews.{loops_of}
use Rattle.efl_scope.proofs.statements.misses_loop.Goals as goal

pub returns-in-Next : goal.returns-in-Next
returns-in-Next c = ap not c.finds_next.ensures ∙ sym (ap (λ k. leaves_none (loops_of c.args.loops.now) (kind_of k)) c.in-Next.is)
