-- Why `parse` answers as the parsing machine does.
use Rattle.std.proofs.Common.{subst, Err}
use Rattle.grammar.specs.Answers.{Answers}
use Rattle.grammar.specs.Limits.{IsAccepted}
use Rattle.rat_parse_table.specs.Limits.{meter}
use Rattle.rat_parse.specs.Ratfor.{grammar, whole}
use Rattle.rat_descent.proofs.parser.parse.Goals as goal

pub returns-in-Ok : goal.returns-in-Ok
returns-in-Ok c = subst (λ ts. IsAccepted grammar meter ts (whole c.in-Ok.program)) c.deref.ensures.value c.in-Ok.ensures

pub returns-in-Err : goal.returns-in-Err
returns-in-Err c = subst (λ ts. Answers grammar meter whole ts (Err c.refusal_of.result)) c.deref-in-Err.ensures.value c.refusal_of.ensures
