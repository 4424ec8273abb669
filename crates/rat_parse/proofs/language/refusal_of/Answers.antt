-- Why `refusal_of` tells the first fault.
use Rattle.std.proofs.Common.{subst}
use Rattle.grammar.specs.Answers.{Answers}
use Rattle.rat_parse_table.specs.Limits.{meter}
use Rattle.rat_parse.specs.Ratfor.{shape}
use Rattle.rat_parse.proofs.ShapeLemmas.{refusal_told}
use Rattle.rat_parse.proofs.language.refusal_of.Goals as goal

pub returns-in-Err : goal.returns-in-Err
returns-in-Err c = refusal_told c.args.tokens.now c.in-Err.refusal (subst (λ r. Answers shape meter (λ u. u) c.args.tokens.now r) c.in-Err.is c.parse.ensures)
