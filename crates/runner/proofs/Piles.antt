-- Buffers as stacks.
use Rattle.std.proofs.Common.{◌≡◌, ℕ, zero, suc, ◌+◌, ◌-◌, ◌<◌, ◌≤◌, List, ◌∷◌, length, get_or, refl, sym, ap, ◌∙◌, arith}
use Rattle.std.specs.Prelude.{ℤ, slice_get, slice_set, pos}
use Rattle.std.proofs.lemmas.Option.{slice_get-get_or}
use Rattle.stack_code.proofs.FactsLemmas.{get_set_same, get_set_other}
use Rattle.runner.specs.declared.words.Word.{Word}
use Rattle.runner.specs.Words.{blank, with_top, pile_of}
use Rattle.runner.specs.Subscripted.{integer_word}

-- what is written at a place does not change those before it
pub set_later : {A : Type 0} (xs : List A) (i j : ℕ) (x : A) → j < i → slice_get (slice_set xs i x) j ≡ slice_get xs j
set_later xs i j x h = get_set_other xs i j x (λ e. omega arith)

-- what is written above a pile doesn't change it
pub pile_above : (xs : List Word) (i n : ℕ) (x : Word) → n ≤ i → pile_of (slice_set xs i x) n ≡ pile_of xs n
pile_above xs i zero x h = refl
pile_above xs i (suc n) x h = ap (λ o. with_top o (pile_of (slice_set xs i x) n)) (set_later xs i n x (omega arith)) ∙ ap (λ l. with_top (slice_get xs n) l) (pile_above xs i n x (omega arith))

-- one more word
pub pile_push : (xs : List Word) (n : ℕ) (x : Word) → n < length xs → pile_of (slice_set xs n x) (n + 1) ≡ x ∷ pile_of xs n
pile_push xs n x h =
    let e : n + 1 ≡ suc n = omega arith in
    ap (pile_of (slice_set xs n x)) e ∙ ap (λ o. with_top o (pile_of (slice_set xs n x) n)) (get_set_same xs n x h) ∙ ap (λ l. x ∷ l) (pile_above xs n n x (omega arith))

-- one more integer, written as its number alone where a word with nothing behind it lies
pub pile_number : (xs : List Word) (n : ℕ) (i z : ℤ) → n < length xs → i ≡ z → (get_or xs n blank).behind ≡ 0 → pile_of (slice_set xs n (record { value = i; behind = (get_or xs n blank).behind })) (n + 1) ≡ integer_word z ∷ pile_of xs n
pile_number xs n i z h v e =
    pile_push xs n (record { value = i; behind = (get_or xs n blank).behind }) h ∙ ap (λ k. record { value = k; behind = (get_or xs n blank).behind } ∷ pile_of xs n) v ∙ ap (λ b. record { value = z; behind = b } ∷ pile_of xs n) e

-- the topmost word
pub pile_top : (xs : List Word) (n : ℕ) (d : Word) → 1 ≤ n → n ≤ length xs → pile_of xs n ≡ get_or xs (n - 1) d ∷ pile_of xs (n - 1)
pile_top xs zero d h le = absurd (omega arith)
pile_top xs (suc n) d h le =
    let e : suc n - 1 ≡ n = omega arith in
    ap (λ o. with_top o (pile_of xs n)) (slice_get-get_or xs n d (omega arith)) ∙ ap (λ m. get_or xs m d ∷ pile_of xs m) (sym e)

-- the second word
pub pile_second : (xs : List Word) (n : ℕ) (x y : Word) (below : List Word) → 2 ≤ n → n ≤ length xs → pile_of xs n ≡ y ∷ x ∷ below → get_or xs (n - 2) blank ≡ x
pile_second xs zero x y below h le e = absurd (omega arith)
pile_second xs (suc zero) x y below h le e = absurd (omega arith)
pile_second xs (suc (suc m)) x y below h le e =
    let i : suc (suc m) - 2 ≡ m = omega arith in
    let top : pile_of xs (suc (suc m)) ≡ get_or xs (suc m) blank ∷ get_or xs m blank ∷ pile_of xs m =
    ap (λ o. with_top o (pile_of xs (suc m))) (slice_get-get_or xs (suc m) blank (omega arith))
    ∙ ap (λ o. get_or xs (suc m) blank ∷ with_top o (pile_of xs m)) (slice_get-get_or xs m blank (omega arith)) in
    ap (λ k. get_or xs k blank) i ∙ ap (λ l. get_or l 1 blank) (sym top ∙ e)

pub length-pile_of : (xs : List Word) (n : ℕ) → n ≤ length xs → length (pile_of xs n) ≡ n
length-pile_of xs zero h = refl
length-pile_of xs (suc n) h = ap (λ o. length (with_top o (pile_of xs n))) (slice_get-get_or xs n (record { value = pos 0; behind = 0 }) (omega arith)) ∙ ap suc (length-pile_of xs n (omega arith))
