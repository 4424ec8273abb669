-- Why `unnumbered` reads its nonterminal.
use Rattle.std.proofs.Common.{rules, ◌≡◌, refl, sym, ap, ◌∙◌, of_z, to_z, w64}
use Rattle.f66_tree.specs.Syntax.{Int, Truth, Letter}
use Rattle.rat_parse_table.specs.declared.table.Production.TheVariants as productions
use Rattle.rat_parse_values.specs.Values.{formula, tok}
use Rattle.rat_parse_values.specs.Parts.{kind_integer, is_true}
use Rattle.descent.specs.Reading.{done, next}
use Rattle.rat_parse_values.specs.Phrases.{signed}
use Rattle.rat_descent.proofs.Productions.{production, as_value}
use Rattle.rat_descent.proofs.aliases.unnumbered.Goals as goal

pub returns-in_ok-token-in-Truth : goal.returns-in_ok-token-in-Truth
returns-in_ok-token-in-Truth c =
    as_value (ap (λ z. formula (Truth (is_true z))) (sym c.sign_of_kind.ensures) ∙ ap (λ b. formula (Truth b)) (sym c.is_true.ensures))
    (production productions.TruthConstant refl refl refl refl (next c.in_ok-token-in-Truth.ensures done))

pub returns-in_ok-token-in-Letter : goal.returns-in_ok-token-in-Letter
returns-in_ok-token-in-Letter c =
    as_value (ap (λ x. formula (Letter x)) (sym c.letter_at.ensures))
    (production productions.LetterConstant refl refl refl refl (next c.in_ok-token-in-Letter.ensures done))

pub returns-in_ok-signed-in_default : goal.returns-in_ok-signed-in_default
returns-in_ok-signed-in_default c =
    let same : kind_integer c.in_ok-number-in_default.number.now.kind ≡ to_z w64 (of_z w64 c.integer_of_kind.result) = search rules in
    as_value (ap (λ z. formula (signed (tok c.in_ok-sign-in_default.sign.now) (Int z))) same ∙ ap formula (sym c.in_ok-signed-in_default.ensures))
    (production productions.SignedNumber refl refl refl refl (next c.in_ok-sign-in_default.ensures (next c.in_ok-number-in_default.ensures done)))
