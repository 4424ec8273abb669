-- A field, column by column.
use Rattle.std.specs.Prelude.{◌≡◌, ℕ, zero, suc, ◌+◌, ◌-◌, ◌*◌, ◌<◌, ◌≤◌, true, false, List, [], ◌∷◌, Option, Some, None, Ok, Err, ℤ, length, get_or, take, drop, replicate, min, nat_eq, nat_lt, refl, if◌then◌else◌}
use Rattle.std.proofs.Common.{sym, ◌∙◌, ap, arith, length-append, length-take, drop-cons}
use Rattle.std.proofs.Math.ListN.{drop_of_length-le}
use Rattle.std.proofs.lemmas.List.{length-replicate, get_or-take, get_or-replicate, get_or_append_left, get_or-append_right}
use Rattle.std.proofs.lemmas.Bool.{ltb-true, ltb-false, lt-leb, eqb-true}
use Rattle.ground.specs.declared.trap.Trap.TheVariants.{BadField}
use Rattle.f66_tree.specs.Fielded.{field, digit, digits_from, digits_of, in_magnitude, unblanked, whole_of, truth_of, truth_at, signed, ranged, signed_value, sign_of}

pub field_length : (w : ℕ) (line : List ℕ) → length (field w line) ≡ w
field_length w line =
    length-append (take w line) (replicate (w - length line) 32) ∙ ap (λ v. length (take w line) + v) (length-replicate (w - length line) 32)
    ∙ ap (λ v. v + (w - length line)) (length-take w line) ∙ (omega arith)

default_for : (xs : List ℕ) (i d e : ℕ) → i < length xs → get_or xs i d ≡ get_or xs i e
default_for [] i d e lt = let no_way : ⊥ = omega arith in absurd no_way
default_for (x ∷ xs) zero d e lt = refl
default_for (x ∷ xs) (suc i) d e lt = default_for xs i d e (omega arith)

get_or_past : (xs : List ℕ) (i d : ℕ) → length xs ≤ i → get_or xs i d ≡ d
get_or_past [] i d le = refl
get_or_past (x ∷ xs) zero d le = let no_way : ⊥ = omega arith in absurd no_way
get_or_past (x ∷ xs) (suc i) d le = get_or_past xs i d (omega arith)

pub field_at : (w : ℕ) (line : List ℕ) (i : ℕ) → i < w → get_or (field w line) i 0 ≡ get_or line i 32
field_at w line i lt = elim (nat_lt i (length line)) as (λ b. nat_lt i (length line) ≡ b → get_or (field w line) i 0 ≡ get_or line i 32) [
  | true ↦ λ e. let less : i < length line = ltb-true i (length line) e in
      let n : length (take w line) ≡ min w (length line) = length-take w line in
      get_or_append_left (take w line) (replicate (w - length line) 32) 0 i (omega (arith, n)) ∙ get_or-take w line i 0 lt ∙ default_for line i 0 32 less
  | false ↦ λ e. let more : length line ≤ i = ltb-false i (length line) e in
      let n : length (take w line) ≡ min w (length line) = length-take w line in
      get_or-append_right (take w line) (replicate (w - length line) 32) (length line) i 0 (omega (arith, n)) more
      ∙ get_or-replicate (w - length line) (i - length line) 32 0 (omega arith) ∙ sym (get_or_past line i 32 more)
] refl

pub field_drop : (w : ℕ) (line : List ℕ) (i : ℕ) → i < w → drop i (field w line) ≡ get_or line i 32 ∷ drop (i + 1) (field w line)
field_drop w line i lt =
    let f : length (field w line) ≡ w = field_length w line in
    drop-cons (field w line) i 0 (omega (arith, f)) ∙ ap (λ v. v ∷ drop (suc i) (field w line)) (field_at w line i lt)
    ∙ ap (λ v. get_or line i 32 ∷ drop v (field w line)) (let e : suc i ≡ i + 1 = omega arith in e)

pub field_done : (w : ℕ) (line : List ℕ) → drop w (field w line) ≡ []
field_done w line = drop_of_length-le (field w line) (let f : length (field w line) ≡ w = field_length w line in omega (arith, f))

-- ---- blanks before ----

pub mark_more : (w : ℕ) (line : List ℕ) (i : ℕ) (r : List ℕ) → i < w → get_or line i 32 ≡ 32 → unblanked (drop i (field w line)) ≡ r → unblanked (drop (i + 1) (field w line)) ≡ r
mark_more w line i r lt blank e = sym (ap unblanked (field_drop w line i lt) ∙ ap (λ v. unblanked (v ∷ drop (i + 1) (field w line))) blank) ∙ e

eqb_not : (a b : ℕ) → (a ≡ b → ⊥) → nat_eq a b ≡ false
eqb_not a b other = elim (nat_eq a b) as (λ v. nat_eq a b ≡ v → v ≡ false) [ true ↦ λ e. absurd (other (eqb-true a b e)) | false ↦ λ e. refl ] refl

unblanked-other : (c : ℕ) (cs : List ℕ) → (c ≡ 32 → ⊥) → unblanked (c ∷ cs) ≡ c ∷ cs
unblanked-other c cs other = ap (λ b. if b then unblanked cs else c ∷ cs) (eqb_not c 32 other)

-- ---- digits ----

abbrev after : ℕ → List ℕ → Option ℕ → Option ℕ
after n cs None = None
after n cs (Some d) = digits_from (n * 10 + d) cs

too_great : (n : ℕ) (cs : List ℕ) → 2147483647 < n → in_magnitude (digits_from n cs) ≡ None
too_great n [] lt = ap (λ b. if b then Some n else None) (lt-leb n 2147483647 lt)
too_great n (c ∷ cs) lt = elim (digit c) as (λ o. in_magnitude (after n cs o) ≡ None) [
  | None ↦ refl
  | Some d ↦ too_great (n * 10 + d) cs (omega arith)
]

-- by the digit that comes next
digit_next : (w : ℕ) (line : List ℕ) (i n : ℕ) → i < w → digits_from n (drop i (field w line)) ≡ after n (drop (i + 1) (field w line)) (digit (get_or line i 32))
digit_next w line i n lt = ap (digits_from n) (field_drop w line i lt)

pub digit_more : (w : ℕ) (line : List ℕ) (i n d : ℕ) (r : Option ℕ) → i < w → Some d ≡ digit (get_or line i 32) → in_magnitude (digits_from n (drop i (field w line))) ≡ r
    → in_magnitude (digits_from (n * 10 + d) (drop (i + 1) (field w line))) ≡ r
digit_more w line i n d r lt is e = sym (ap in_magnitude (digit_next w line i n lt ∙ ap (after n (drop (i + 1) (field w line))) (sym is))) ∙ e

pub digit_great : (w : ℕ) (line : List ℕ) (i n d : ℕ) (r : Option ℕ) → i < w → Some d ≡ digit (get_or line i 32) → 2147483647 < n * 10 + d
    → in_magnitude (digits_from n (drop i (field w line))) ≡ r → None ≡ r
digit_great w line i n d r lt is great e = sym (too_great (n * 10 + d) (drop (i + 1) (field w line)) great) ∙ digit_more w line i n d r lt is e

pub digits_there : (w : ℕ) (line : List ℕ) (i : ℕ) → i < w → digits_of (drop i (field w line)) ≡ digits_from 0 (drop i (field w line))
digits_there w line i lt = ap digits_of (field_drop w line i lt) ∙ sym (ap (digits_from 0) (field_drop w line i lt))

-- ---- what stands behind the blanks ----

pub found_at : (w : ℕ) (line : List ℕ) (i : ℕ) → i < w → drop i (field w line) ≡ unblanked (field w line) → unblanked (field w line) ≡ get_or line i 32 ∷ drop (i + 1) (field w line)
found_at w line i lt e = sym e ∙ field_drop w line i lt

pub sign_plus : (f rest : List ℕ) (c : ℕ) → unblanked f ≡ c ∷ rest → c ≡ 43 → ranged (sign_of false) (digits_of rest) ≡ whole_of f
sign_plus f rest c e is = sym (ap signed e ∙ ap (λ v. signed (v ∷ rest)) is)

pub sign_minus : (f rest : List ℕ) (c : ℕ) → unblanked f ≡ c ∷ rest → c ≡ 45 → ranged (sign_of true) (digits_of rest) ≡ whole_of f
sign_minus f rest c e is = sym (ap signed e ∙ ap (λ v. signed (v ∷ rest)) is)

pub sign_none : (f rest : List ℕ) (c : ℕ) → unblanked f ≡ c ∷ rest → (c ≡ 43 → ⊥) → (c ≡ 45 → ⊥) → ranged (sign_of false) (digits_of (c ∷ rest)) ≡ whole_of f
sign_none f rest c e a b = sym (ap signed e
    ∙ ap (λ v. if v then ranged (sign_of false) (digits_of rest) else (if nat_eq c 45 then ranged (sign_of true) (digits_of rest) else ranged (sign_of false) (digits_of (c ∷ rest)))) (eqb_not c 43 a)
    ∙ ap (λ v. if v then ranged (sign_of true) (digits_of rest) else ranged (sign_of false) (digits_of (c ∷ rest))) (eqb_not c 45 b))

pub value_is : (sign : ℕ → ℤ) (r : ℤ) (n w : ℕ) (line : List ℕ) (i : ℕ) → r ≡ sign n → Some n ≡ in_magnitude (digits_from 0 (drop i (field w line))) → i < w → Ok r ≡ ranged sign (digits_of (drop i (field w line)))
value_is sign r n w line i is e lt = ap Ok is ∙ ap (signed_value sign) (e ∙ ap in_magnitude (sym (digits_there w line i lt)))

pub truth_bad : (f rest : List ℕ) (c : ℕ) → unblanked f ≡ c ∷ rest → (c ≡ 84 → ⊥) → (c ≡ 70 → ⊥) → Err BadField ≡ truth_of f
truth_bad f rest c e a b = sym (ap truth_at e
    ∙ ap (λ v. if v then Ok true else (if nat_eq c 70 then Ok false else Err BadField)) (eqb_not c 84 a)
    ∙ ap (λ v. if v then Ok false else Err BadField) (eqb_not c 70 b))
