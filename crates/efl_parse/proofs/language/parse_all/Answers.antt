-- Why `parse_all` keeps its clauses.
use Rattle.std.proofs.Common.{◌≡◌, ap, sym, subst, ◌∙◌}
use Rattle.grammar.specs.Answers.{Answers}
use Rattle.grammar.specs.Limits.{IsAccepted}
use Rattle.efl_parse_values.specs.Values.{value, program}
use Rattle.efl_parse_table.specs.Limits.{meter}
use Rattle.efl_parse.specs.Efl.{grammar}
use Rattle.efl_parse.proofs.WholeLemmas.{whole_again}
use Rattle.efl_parse.proofs.language.parse_all.Goals as goal

pub returns-in-Ok : goal.returns-in-Ok
returns-in-Ok c =
    let ts = c.args.tokens.now in
    let accepted : IsAccepted grammar meter ts (value c.in-Ok.part) = subst (λ r. Answers grammar meter value ts r) c.in-Ok.is c.parse.ensures in
    subst (λ v. IsAccepted grammar meter ts v) (sym (ap program c.into_program.ensures ∙ whole_again ts (value c.in-Ok.part) accepted)) accepted
