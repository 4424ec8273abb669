-- Columns one by one.
use Rattle.std.proofs.Common.{◌≡◌, ℕ, zero, suc, ◌+◌, ◌-◌, ◌≤◌, ◌<◌, List, [], ◌∷◌, ◌++◌, length, get_or, take, drop, Option, None, refl, sym, ap, ◌∙◌, arith, append_assoc, add-one}
use Rattle.std.proofs.lemmas.List.{append-nil}
use Rattle.card_reader.specs.Cards.{columns, label_after, label_of}

-- the first five
pub take_five : (cs : List ℕ) → 5 ≤ length cs → take 5 cs ≡ get_or cs 0 0 ∷ get_or cs 1 0 ∷ get_or cs 2 0 ∷ get_or cs 3 0 ∷ get_or cs 4 0 ∷ []
take_five [] h = absurd (omega (arith, h))
take_five (a ∷ []) h = absurd (omega (arith, h))
take_five (a ∷ b ∷ []) h = absurd (omega (arith, h))
take_five (a ∷ b ∷ c ∷ []) h = absurd (omega (arith, h))
take_five (a ∷ b ∷ c ∷ d ∷ []) h = absurd (omega (arith, h))
take_five (a ∷ b ∷ c ∷ d ∷ e ∷ cs) h = refl

-- a label column by column
pub label_by_columns : (cs : List ℕ) (b1 b2 b3 b4 b5 : Option ℕ) → 5 ≤ length cs
    → b1 ≡ label_after None (get_or cs 0 0 ∷ []) → b2 ≡ label_after b1 (get_or cs 1 0 ∷ []) → b3 ≡ label_after b2 (get_or cs 2 0 ∷ [])
    → b4 ≡ label_after b3 (get_or cs 3 0 ∷ []) → b5 ≡ label_after b4 (get_or cs 4 0 ∷ []) → b5 ≡ label_of cs
label_by_columns cs b1 b2 b3 b4 b5 h e1 e2 e3 e4 e5 = rw (take_five cs h, e5, e4, e3, e2, e1) refl

-- the column at a place, and those behind it
columns_at : (n i : ℕ) (line : List ℕ) → columns (suc n) (drop i line) ≡ get_or line i 32 ∷ columns n (drop (suc i) line)
unfolding columns
columns_at n zero [] = refl
columns_at n zero (c ∷ line) = refl
columns_at n (suc i) [] = refl
columns_at n (suc i) (c ∷ line) = columns_at n i line

-- one more column
pub one_column : (so_far line : List ℕ) (i x : ℕ) → i < 72 → x ≡ get_or line i 32
    → so_far ++ columns (72 - i) (drop i line) ≡ columns 72 line → (so_far ++ x ∷ []) ++ columns (72 - (i + 1)) (drop (i + 1) line) ≡ columns 72 line
one_column so_far line i x lt is told =
    let k : 72 - i ≡ suc (72 - (i + 1)) = omega arith in
    append_assoc so_far (x ∷ []) (columns (72 - (i + 1)) (drop (i + 1) line))
    ∙ ap (λ (y : ℕ). so_far ++ y ∷ columns (72 - (i + 1)) (drop (i + 1) line)) is
    ∙ ap (λ (j : ℕ). so_far ++ get_or line i 32 ∷ columns (72 - (i + 1)) (drop j line)) (add-one i)
    ∙ ap (λ (y : List ℕ). so_far ++ y) (sym (columns_at (72 - (i + 1)) i line))
    ∙ ap (λ (j : ℕ). so_far ++ columns j (drop i line)) (sym k)
    ∙ told

pub no_column : (so_far line : List ℕ) → so_far ++ columns 0 (drop 72 line) ≡ columns 72 line → so_far ≡ columns 72 line
unfolding columns
no_column so_far line told = sym (append-nil so_far) ∙ told
