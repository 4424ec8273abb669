-- Why `print` keeps its clause.
use Rattle.std.proofs.Common.{inl, inr}
use Rattle.eft_top.proofs.answer.print.Goals as goal

pub returns-in-Ok : goal.returns-in-Ok
returns-in-Ok g c = inl (record { all = c.in-Ok.ensures.all; steady = c.in-Ok.ensures.steady }, record { status = c.fixed.ensures.status; line = c.fixed.ensures.line })

pub returns-in-Err : goal.returns-in-Err
returns-in-Err g c = inr (record { some = c.in-Err.ensures.some; front = c.in-Err.ensures.front; cause = c.in-Err.ensures.cause }, record { status = c.fixed-in-Err.ensures.status; line = c.fixed-in-Err.ensures.line })
