-- A word of another length is none that is reserved, and so those of its length are all that count.
use Rattle.std.proofs.Common.{◌≡◌, ℕ, Bool, ap, ◌∙◌, sym, refl, true, false, true≢false, length, List, [], ◌∷◌, Some}
use Rattle.std.specs.Prelude.{◌==◌, ◌&&◌, suc, cond, if◌then◌else◌}
use Rattle.std.proofs.lemmas.Bool.{eq-eqb}
use Rattle.std.specs.Char.{to_ascii_uppercase}
use Rattle.std.proofs.Math.Bool.{and-false}
use Rattle.rat_parse_table.specs.declared.table.Terminal.{Terminal}
use Rattle.rat_parse_table.specs.WordLengths.{of_length}
use Rattle.rat_parse_table.specs.Words.{is_spelled, terminal_in}

pub unequal : (s w : List ℕ) → (length s ≡ length w → ⊥) → is_spelled s w ≡ false
unequal [] [] apart = absurd (apart refl)
unequal [] (c ∷ cs) apart = refl
unequal (s ∷ ss) [] apart = refl
unequal (s ∷ ss) (c ∷ cs) apart =
    ap (λ b. (s == to_ascii_uppercase c) && b) (unequal ss cs (λ e. apart (ap suc e))) ∙ and-false (s == to_ascii_uppercase c)

pub of_its_length : (words : List (List ℕ × Terminal)) (w : List ℕ) → terminal_in (of_length (length w) words) w ≡ terminal_in words w
of_its_length [] w = refl
of_its_length (x ∷ words) w = by_length (length x.0 == length w) refl (of_its_length words w)
  where
    by_length : (v : Bool) → (length x.0 == length w) ≡ v → terminal_in (of_length (length w) words) w ≡ terminal_in words w →
        terminal_in (cond v (x ∷ of_length (length w) words) (of_length (length w) words)) w ≡ (if is_spelled x.0 w then Some x.1 else terminal_in words w)
    by_length true e behind = ap (λ t. if is_spelled x.0 w then Some x.1 else t) behind
    by_length false e behind =
        behind ∙ sym (ap (λ b. if b then Some x.1 else terminal_in words w) (unequal x.0 w (λ same. true≢false (sym (eq-eqb (length x.0) (length w) same) ∙ e))))
