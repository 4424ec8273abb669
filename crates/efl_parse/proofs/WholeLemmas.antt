-- What a whole text gives.
use Rattle.std.proofs.Common.{◌≡◌, List, refl, sym, ap, ◌∙◌}
use Rattle.ground.specs.declared.token.Token.{Token}
use Rattle.grammar.specs.Limits.{IsAccepted}
use Rattle.efl_parse_values.specs.Values.{Val, program}
use Rattle.efl_parse_values.specs.Parts.{as_program}
use Rattle.efl_parse_table.specs.Limits.{meter}
use Rattle.efl_parse.specs.Efl.{grammar}

-- what a whole text gives is a program
pub whole_again : (ts : List Token) (v : Val) → IsAccepted grammar meter ts v → program (as_program v) ≡ v
unfolding Rattle.efl_parse.specs.Build.build
whole_again ts v accepted =
    let found = (accepted.value v).1 refl in
    ap (λ u. program (as_program u)) (sym found.1) ∙ found.1
