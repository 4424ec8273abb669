-- The fault of a line's tokens is that of its text.
use Rattle.std.proofs.Common.{◌≡◌, Err, sym, subst, rules}
use Rattle.std.specs.Prelude.{IfErr}
use Rattle.stmt_reader.specs.Lexing.{tokens_of}
use Rattle.stmt_lines.specs.Answers.{IsRefusal, tokens_answer}
use Rattle.stmt_lines.proofs.lines.read_statement.Goals as goal

pub returns-in_err-kind-clause-refused : goal.returns-in_err-kind-clause-refused
returns-in_err-kind-clause-refused c =
    let said : c.deref.result.now ≡ tokens_of c.args.line.now.text = search rules in
    let gone : c.from_residual-in_err-kind.result ≡ Err c.in_err-kind.field-0.0 = search rules in
    subst (λ r. IfErr r (IsRefusal (tokens_answer (tokens_of c.args.line.now.text)) c.args.line.now.place)) (sym gone)
    (subst (λ ts. IsRefusal (tokens_answer ts) c.args.line.now.place c.in_err-kind.field-0.0) said c.in_err-kind.ensures.refused)
