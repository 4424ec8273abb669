-- Type statements, one behind the other.
use Rattle.std.proofs.Common.{◌≡◌, ◌≤◌, ℕ, zero, suc, ◌-◌, min, List, [], ◌∷◌, ◌++◌, length, map, take, drop, refl, sym, ap, ◌∙◌, append_assoc, arith, length-drop}
use Rattle.std.proofs.lemmas.List.{append-nil}
use Rattle.ground.specs.declared.place.Place.{Place}
use Rattle.f66_tree.specs.declared.declaration.TypeWord.{TypeWord}
use Rattle.f66_tree.specs.Syntax.{Text, Line, Typed, unlabelled_line}
use Rattle.efl_lowered.specs.Lowering.{declared_scalar, typed_lines}

-- as many as there are, up to so many
take_same : {A : Type 0} (n m : ℕ) (xs : List A) → n ≡ min (length xs) m → take n xs ≡ take m xs
take_same zero zero xs is = refl
take_same zero (suc m) [] is = refl
take_same zero (suc m) (x ∷ xs) is = absurd (omega (arith, is))
take_same (suc n) zero xs is = absurd (omega (arith, is))
take_same (suc n) (suc m) [] is = absurd (omega (arith, is))
take_same (suc n) (suc m) (x ∷ xs) is = ap (λ l. x ∷ l) (take_same n m xs (omega (arith, is)))

drop_same : {A : Type 0} (n m : ℕ) (xs : List A) → n ≡ min (length xs) m → drop n xs ≡ drop m xs
drop_same zero zero xs is = refl
drop_same zero (suc m) [] is = refl
drop_same zero (suc m) (x ∷ xs) is = absurd (omega (arith, is))
drop_same (suc n) zero xs is = absurd (omega (arith, is))
drop_same (suc n) (suc m) [] is = absurd (omega (arith, is))
drop_same (suc n) (suc m) (x ∷ xs) is = drop_same n m xs (omega (arith, is))

module _ (p : Place) (t : TypeWord) where
  -- one statement
  abbrev pub line_of : List Text → Line
  line_of xs = unlabelled_line p (Typed t (map declared_scalar xs))

  abbrev pub all_lines : List Text → List Line
  all_lines xs = typed_lines (length xs) p t xs

  -- so many statements are enough
  enough : (m k : ℕ) (xs : List Text) → length xs ≤ m → length xs ≤ k → typed_lines m p t xs ≡ typed_lines k p t xs
  enough zero zero [] a b = refl
  enough zero (suc k) [] a b = refl
  enough (suc m) zero [] a b = refl
  enough (suc m) (suc k) [] a b = refl
  enough zero k (x ∷ xs) a b = absurd (omega (arith, a))
  enough (suc m) zero (x ∷ xs) a b = absurd (omega (arith, b))
  enough (suc m) (suc k) (x ∷ xs) a b =
      let l : length (drop 7 xs) ≡ length xs - 7 = length-drop 7 xs in
      let c : length xs ≤ m = omega (arith, a) in
      let d : length xs ≤ k = omega (arith, b) in
      ap (λ ls. line_of (take 8 (x ∷ xs)) ∷ ls) (enough m k (drop 7 xs) (omega (arith, c, l)) (omega (arith, d, l)))

  -- the first statement, and those of the names behind it
  first_line : (x : Text) (xs : List Text) → all_lines (x ∷ xs) ≡ line_of (take 8 (x ∷ xs)) ∷ all_lines (drop 8 (x ∷ xs))
  first_line x xs =
      let l : length (drop 7 xs) ≡ length xs - 7 = length-drop 7 xs in
      ap (λ ls. line_of (take 8 (x ∷ xs)) ∷ ls) (enough (length xs) (length (drop 7 xs)) (drop 7 xs) (omega (arith, l)) (omega arith))

  pub line_more : (lines more : List Line) (left here behind : List Text) (n : ℕ) → n ≡ min (length left) 8 → here ≡ take n left → behind ≡ drop n left → (length left ≡ 0 → ⊥) →
      more ≡ lines ++ line_of here ∷ [] → more ++ all_lines behind ≡ lines ++ all_lines left
  line_more lines more [] here behind n is h b some longer = absurd (some refl)
  line_more lines more (x ∷ xs) here behind n is h b some longer =
      let one : here ≡ take 8 (x ∷ xs) = h ∙ take_same n 8 (x ∷ xs) is in
      let two : behind ≡ drop 8 (x ∷ xs) = b ∙ drop_same n 8 (x ∷ xs) is in
      ap (λ ls. ls ++ all_lines behind) longer ∙ append_assoc lines (line_of here ∷ []) (all_lines behind) ∙ ap (λ v. lines ++ (line_of v ∷ all_lines behind)) one
      ∙ ap (λ v. lines ++ (line_of (take 8 (x ∷ xs)) ∷ all_lines v)) two ∙ ap (λ ls. lines ++ ls) (sym (first_line x xs))

  pub lines_over : (lines : List Line) (left : List Text) → length left ≡ 0 → lines ++ all_lines left ≡ lines
  lines_over lines [] none = append-nil lines
  lines_over lines (x ∷ xs) none = absurd (omega (arith, none))
