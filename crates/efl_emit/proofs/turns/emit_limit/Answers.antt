-- The test of a `do`.
use Rattle.std.proofs.lemmas.Result.{on_ok_weaker}
use Rattle.std.proofs.Common.{ap}
use Rattle.f66_tree.specs.Syntax.{Ref}
use Rattle.efl_emit.proofs.Forms.{limit_done}
use Rattle.efl_emit.proofs.turns.emit_limit.Goals as goal

pub returns : goal.returns
returns c = on_ok_weaker c.put_choice.result (λ h. limit_done c.args.naming.now c.args.variable c.in_ok-value.ensures (ap Ref c.in_ok-name.ensures) c.in_ok-within.ensures c.in_ok-test.ensures h c.in_ok-outside.ensures) c.put_choice.ensures
