-- The tests of the constants, and a jump past them.
use Rattle.std.proofs.lemmas.Result.{on_ok_weaker}
use Rattle.efl_emit.proofs.Forms.{cases_done}
use Rattle.efl_emit.proofs.cases.emit_cases.Goals as goal

pub returns : goal.returns
returns c = on_ok_weaker c.put_here.result (λ h. cases_done c.args.naming.now c.in_ok-found.ensures c.in_ok-put_tests.ensures c.in_ok-put_jump.ensures h) c.put_here.ensures
