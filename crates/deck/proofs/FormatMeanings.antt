-- Of what is written for a format, commas stand where they may, and it means the same fields.
use Rattle.std.proofs.Common.{◌≡◌, ℕ, ◌+◌, ◌-◌, ◌*◌, ◌/◌, ◌%◌, ◌≤◌, ◌<◌, Bool, true, false, cond, List, [], ◌∷◌, ◌++◌, length, Option, Some, None, refl, sym, ap, ◌∙◌, arith}
use Rattle.std.specs.Prelude.{decimal, nat_le, ◌==◌, ◌||◌, ◌&&◌}
use Rattle.std.specs.Fmt.{digits}
use Rattle.std.specs.List.{list_all}
use Rattle.std.proofs.lemmas.Bool.{le-leb, eqb-true, and_from, and_parts}
use Rattle.std.proofs.lemmas.Fmt.{decimal_by_steps}
use Rattle.std.proofs.lemmas.List.{length-append}
use Rattle.f66_tree.specs.declared.editing.EditKind.{EditKind}
use Rattle.f66_tree.specs.declared.editing.EditKind.TheVariants as edits
use Rattle.f66_tree.specs.Fields.{Step, Takes, Blanks, Chars, Slash, Fields, NoField, Single, Group}
use Rattle.stmt_text.specs.Texts.{is_slash}
use Rattle.stmt_reader.specs.Levels.{is_digit}
use Rattle.stmt_reader.specs.Formats.{Edit, Point, Items, Then, Before, Nothing, Comma, Stroke', Field, may_begin, may_end, is_separated, small, count_of, value_after, width_of, sized, with_field, grouped, field_of, fields_of}
use Rattle.deck.specs.ReadableStatements.{IsReadableStep, AreReadableFields}
use Rattle.deck.proofs.FormatTexts.{count_if, item_of, pointed, written}

-- ---- where commas stand ----

abbrev may_start : Before → Fields → Bool
may_start b NoField = may_end b
may_start b (Single n Slash rest) = true
may_start b (Single n (Takes kind w) rest) = may_begin b
may_start b (Single n (Blanks m) rest) = may_begin b
may_start b (Single n (Chars text) rest) = may_begin b
may_start b (Group n inside rest) = may_begin b

pub nothing_starts : (fs : Fields) → may_start Nothing fs ≡ true
nothing_starts NoField = refl
nothing_starts (Single n Slash rest) = refl
nothing_starts (Single n (Takes kind w) rest) = refl
nothing_starts (Single n (Blanks m) rest) = refl
nothing_starts (Single n (Chars text) rest) = refl
nothing_starts (Group n inside rest) = refl

abbrev IsInPlace : Fields → Type 0
IsInPlace fs = (b : Before) → may_start b fs ≡ true → is_separated b (written fs) ≡ true

behind_field : (rest : Fields) → IsInPlace rest → is_separated Field (pointed false rest (written rest)) ≡ true
behind_field NoField is = refl
behind_field (Single n Slash rest) is = is Field refl
behind_field (Single n (Takes kind w) rest) is = is Comma refl
behind_field (Single n (Blanks m) rest) is = is Comma refl
behind_field (Single n (Chars text) rest) is = is Comma refl
behind_field (Group n inside rest) is = is Comma refl

behind_stroke : (rest : Fields) → IsInPlace rest → is_separated Stroke' (pointed true rest (written rest)) ≡ true
behind_stroke NoField is = refl
behind_stroke (Single n Slash rest) is = is Stroke' refl
behind_stroke (Single n (Takes kind w) rest) is = is Stroke' refl
behind_stroke (Single n (Blanks m) rest) is = is Stroke' refl
behind_stroke (Single n (Chars text) rest) is = is Stroke' refl
behind_stroke (Group n inside rest) is = is Stroke' refl

pub in_place : (fs : Fields) → IsInPlace fs
in_place NoField = λ b h. h
in_place (Single n Slash rest) = λ b h. behind_stroke rest (in_place rest)
in_place (Single n (Takes kind w) rest) = λ b h. and_from (may_begin b) (is_separated Field (pointed false rest (written rest))) h (behind_field rest (in_place rest))
in_place (Single n (Blanks m) rest) = λ b h. and_from (may_begin b) (is_separated Field (pointed false rest (written rest))) h (behind_field rest (in_place rest))
in_place (Single n (Chars text) rest) = λ b h. and_from (may_begin b) (is_separated Field (pointed false rest (written rest))) h (behind_field rest (in_place rest))
in_place (Group n inside rest) = λ b h.
    and_from (may_begin b) (is_separated Nothing (written inside) && is_separated Field (pointed false rest (written rest))) h
    (and_from (is_separated Nothing (written inside)) (is_separated Field (pointed false rest (written rest))) (in_place inside Nothing (nothing_starts inside)) (behind_field rest (in_place rest)))

-- ---- what it means ----

small_is : (n : ℕ) → n ≤ 65535 → small n ≡ n
small_is n low = omega (arith, low)

count_by : (n : ℕ) (one : Bool) → (n == 1) ≡ one → n ≤ 65535 → count_of (cond one None (Some n)) ≡ n
count_by n true is low = sym (eqb-true n 1 is)
count_by n false is low = small_is n low

count_is : (n : ℕ) → n ≤ 65535 → count_of (count_if n) ≡ n
count_is n low = count_by n (n == 1) refl low

pub record IsWidth (n : ℕ) (ds : List ℕ) : Type 0 where
  pub some : 1 ≤ length ds
  pub all : list_all is_digit ds ≡ true
  pub value : value_after 0 ds ≡ n

is_digit_of : (d : ℕ) → d < 10 → is_digit (48 + d) ≡ true
is_digit_of d lt = and_from (nat_le 48 (48 + d)) (nat_le (48 + d) 57) (le-leb 48 (48 + d) (omega arith)) (le-leb (48 + d) 57 (omega (arith, lt)))

value_behind : (m : ℕ) (ds : List ℕ) (c : ℕ) → value_after m (ds ++ c ∷ []) ≡ value_after m ds * 10 + (c - 48)
value_behind m [] c = refl
value_behind m (d ∷ ds) c = value_behind (m * 10 + (d - 48)) ds c

digits_behind : (ds : List ℕ) (c : ℕ) → list_all is_digit ds ≡ true → is_digit c ≡ true → list_all is_digit (ds ++ c ∷ []) ≡ true
digits_behind [] c all is = and_from (is_digit c) true is refl
digits_behind (d ∷ ds) c all is = let b = and_parts (is_digit d) (list_all is_digit ds) all in and_from (is_digit d) (list_all is_digit (ds ++ c ∷ [])) b.0 (digits_behind ds c b.1 is)

width_one : (n : ℕ) → n < 10 → IsWidth n ((48 + n) ∷ [])
width_one n lt = record { some = omega arith; all = and_from (is_digit (48 + n)) true (is_digit_of n lt) refl; value = omega arith }

width_more : (n : ℕ) (ds : List ℕ) → 10 ≤ n → IsWidth (n / 10) ds → IsWidth n (ds ++ (48 + n % 10) ∷ [])
width_more n ds ten r =
    let long : length (ds ++ (48 + n % 10) ∷ []) ≡ length ds + 1 = length-append ds ((48 + n % 10) ∷ []) in
    record {
      some = omega (arith, long);
      all = digits_behind ds (48 + n % 10) r.all (is_digit_of (n % 10) (omega arith));
      value = value_behind 0 ds (48 + n % 10) ∙ omega (arith, r.value);
    }

pub width_digits : (w : ℕ) → w ≤ 65535 → IsWidth w (decimal w)
width_digits w low = decimal_by_steps IsWidth width_one width_more w (omega (arith, low))

width_by : (w : ℕ) (ds : List ℕ) → w ≤ 65535 → IsWidth w ds → width_of ds ≡ Some w
width_by w [] low r = absurd (omega (arith, r.some))
width_by w (c ∷ cs) low r = let all = r.all in let value = r.value in let kept = small_is w low in rw (all, value, kept) refl

width_is : (w : ℕ) → w ≤ 65535 → width_of (decimal w) ≡ Some w
width_is w low = width_by w (decimal w) low (width_digits w low)

edit_is : (n w : ℕ) (kind : EditKind) → n ≤ 65535 → w ≤ 65535 → sized (count_if n) kind (width_of (decimal w)) ≡ Some (Single n (Takes kind w))
edit_is n w kind low narrow = ap (sized (count_if n) kind) (width_is w narrow) ∙ ap (λ (m : ℕ). Some (Single m (Takes kind w))) (count_is n low)

one_digit : decimal 1 ≡ 49 ∷ []
unfolding digits
one_digit = refl

letter_by : (n w : ℕ) → w ≡ 1 → n ≤ 65535 → field_of (Edit (count_if n) (65 ∷ decimal w)) ≡ Some (Single n (Takes edits.Letter w))
letter_by n w is low =
    ap (λ (v : ℕ). field_of (Edit (count_if n) (65 ∷ decimal v))) is ∙ ap (λ (ds : List ℕ). field_of (Edit (count_if n) (65 ∷ ds))) one_digit ∙ ap (λ (m : ℕ). Some (Single m (Takes edits.Letter 1))) (count_is n low) ∙ ap (λ (v : ℕ). Some (Single n (Takes edits.Letter v))) (sym is)

once : (n : ℕ) (s : Step) → n ≡ 1 → Some (Single 1 s) ≡ Some (Single n s)
once n s is = ap (λ (m : ℕ). Some (Single m s)) (sym is)

field_is : (n : ℕ) (s : Step) → IsReadableStep n s → field_of (item_of n s) ≡ Some (Single n s)
field_is n (Takes edits.Whole w) fine = edit_is n w edits.Whole fine.0 fine.1
field_is n (Takes edits.Truth w) fine = edit_is n w edits.Truth fine.0 fine.1
field_is n (Takes edits.Letter w) fine = letter_by n w fine.1 fine.0
field_is n (Blanks m) fine = ap (λ (k : ℕ). Some (Single 1 (Blanks k))) (small_is m fine.1) ∙ once n (Blanks m) fine.0
field_is n (Chars text) fine = once n (Chars text) fine.0
field_is n Slash fine = once n Slash fine

same_fields : (o : Option Fields) → with_field (Some (λ rest. rest)) o ≡ o
same_fields None = refl
same_fields (Some fs) = refl

pointed_by : (beside : Bool) (k : Items) → fields_of (cond beside k (Then Point k)) ≡ fields_of k
pointed_by true k = refl
pointed_by false k = same_fields (fields_of k)

pointed_same : (beside : Bool) (rest : Fields) (k : Items) → fields_of (pointed beside rest k) ≡ fields_of k
pointed_same beside NoField k = refl
pointed_same beside (Single n s rest) k = pointed_by (beside || is_slash s) k
pointed_same beside (Group n inside rest) k = pointed_by beside k

pub means : (fs : Fields) → AreReadableFields fs → fields_of (written fs) ≡ Some fs
means NoField all = refl
means (Single n s rest) all =
    ap (with_field (field_of (item_of n s))) (pointed_same (is_slash s) rest (written rest) ∙ means rest all.1) ∙ ap (λ (f : Option (Fields → Fields)). with_field f (Some rest)) (field_is n s all.0)
means (Group n inside rest) all =
    ap (with_field (grouped (count_if n) (fields_of (written inside)))) (pointed_same false rest (written rest) ∙ means rest all.2)
    ∙ ap (λ (o : Option Fields). with_field (grouped (count_if n) o) (Some rest)) (means inside all.1)
    ∙ ap (λ (m : ℕ). Some (Group m inside rest)) (count_is n all.0)
