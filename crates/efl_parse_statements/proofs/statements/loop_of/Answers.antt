-- A token is one of these words.
use Rattle.std.proofs.Common.{◌≡◌, ◌∙◌, Some, ap, sym, refl, subst}
use Rattle.efl_parse_values.specs.Values.{value}
use Rattle.efl_parse_statements.specs.Statements.{loop_named, loop_of}
use Rattle.efl_parse_statements.proofs.statements.loop_of.Goals as goal

pub returns-in-Token : goal.returns-in-Token
returns-in-Token c = ap Some c.loop_named.ensures ∙ subst (λ p. Some (loop_named (value p)) ≡ loop_of (value p)) (sym c.in-Token.is) refl
