-- Values that go over the kinds of places.
use Rattle.std.proofs.Common.{◌≡◌, ◌≢◌, ◌≤◌, ◌<◌, ℕ, zero, suc, ◌+◌, ◌*◌, ◌-◌, min, nat_lt, Bool, true, false, not, ◌&&◌, ◌||◌, List, [], ◌∷◌, ◌++◌, length, take, drop, get_or, Some, None, refl, sym, ap, ◌∙◌, append_assoc, arith}
use Rattle.std.specs.List.{list_any}
use Rattle.std.proofs.lemmas.List.{append-nil, drop_all, drop-drop, drop_at, length-append}
use Rattle.ground.specs.declared.value.Kind.{Kind}
use Rattle.efl_tree.specs.declared.declaration.EflConst.{EflConst}
use Rattle.efl_scope.specs.DataTypes.{DataType, Scalar, Structured, Array, NoType, Members, NoMember, AndMember, same_kind, elements, places, all_places}
use Rattle.efl_scope.proofs.TreeLemmas.{drop_next}
use Rattle.efl_types.specs.Presets.{constant_kind, repeated, kinds_of, kinds_in, misfit}
use Rattle.efl_initial_values.specs.declared.values.Next.{Next}
use Rattle.efl_initial_values.specs.declared.values.Progress.{Progress}
use Rattle.efl_initial_values.specs.Filling.{Values, used_up, left_from, PassesOver, Passes}

-- ---- so many kinds ----

pub repeated_one : (ks : List Kind) → repeated 1 ks ≡ ks
repeated_one ks = append-nil ks

pub repeated_nothing : (n : ℕ) → repeated n [] ≡ []
repeated_nothing zero = refl
repeated_nothing (suc n) = repeated_nothing n

pub repeated_more : (n m : ℕ) (ks ls : List Kind) → repeated (n + m) ks ++ ls ≡ repeated n ks ++ (repeated m ks ++ ls)
repeated_more zero m ks ls = ap (λ i. repeated i ks ++ ls) (none m)
  where
    none : (m : ℕ) → 0 + m ≡ m
    none m = omega arith
repeated_more (suc n) m ks ls =
    ap (λ i. repeated i ks ++ ls) (one n m) ∙ append_assoc ks (repeated (n + m) ks) ls ∙ ap (λ xs. ks ++ xs) (repeated_more n m ks ls)
    ∙ sym (append_assoc ks (repeated n ks) (repeated m ks ++ ls))
  where
    one : (n m : ℕ) → suc n + m ≡ suc (n + m)
    one n m = omega arith

length_repeated : (n : ℕ) (ks : List Kind) → length (repeated n ks) ≡ n * length ks
length_repeated zero ks = omega arith
length_repeated (suc n) ks = let more = length_repeated n ks in grind (arith, more, length-append ks (repeated n ks))

mutual
  pub many_kinds : (t : DataType) → length (kinds_of t) ≡ places t
  many_kinds (Scalar k) = refl
  many_kinds (Structured ms) = many_kinds_in ms
  many_kinds (Array bs t) = length_repeated (elements bs) (kinds_of t) ∙ ap (λ n. elements bs * n) (many_kinds t)
  many_kinds NoType = refl

  pub many_kinds_in : (ms : Members) → length (kinds_in ms) ≡ all_places ms
  many_kinds_in NoMember = refl
  many_kinds_in (AndMember x t ms) =
      length-append (kinds_of t) (kinds_in ms) ∙ ap (λ n. n + length (kinds_in ms)) (many_kinds t) ∙ ap (λ n. places t + n) (many_kinds_in ms)

nothing_in : {A : Type 0} (xs : List A) → length xs ≡ 0 → xs ≡ []
nothing_in [] none = refl
nothing_in (x ∷ xs) none = absurd (omega (arith, none))

pub no_kinds : (t : DataType) → places t ≡ 0 → kinds_of t ≡ []
no_kinds t none = nothing_in (kinds_of t) (many_kinds t ∙ none)

pub no_kinds_repeated : (n : ℕ) (t : DataType) → n * places t ≡ 0 → repeated n (kinds_of t) ≡ []
no_kinds_repeated zero t none = refl
no_kinds_repeated (suc n) t none = ap (repeated (suc n)) (no_kinds t (each n (places t) none)) ∙ repeated_nothing (suc n)
  where
    each : (n p : ℕ) → suc n * p ≡ 0 → p ≡ 0
    each n p none = grind (arith, none)

-- ---- one value ----

pub misfit_nothing : (cs : Values) → misfit [] cs ≡ false
misfit_nothing [] = refl
misfit_nothing (c ∷ cs) = first c.0 ∙ ap (λ ks. misfit ks cs) (nothing c.0) ∙ misfit_nothing cs
  where
    nothing : (n : ℕ) → drop {A = Kind} n [] ≡ []
    nothing zero = refl
    nothing (suc n) = refl

    first : (n : ℕ) → (list_any (λ k. not (same_kind k (constant_kind c.1))) (take n []) || misfit (drop n []) cs) ≡ misfit (drop n []) cs
    first zero = refl
    first (suc n) = refl

or_assoc : (a b c : Bool) → ((a || b) || c) ≡ (a || (b || c))
or_assoc true b c = refl
or_assoc false b c = refl

-- a place more is filled by the same value
one_more : (k : Kind) (ks : List Kind) (r : ℕ) (c : EflConst) (cs : Values) → same_kind k (constant_kind c) ≡ true → misfit (k ∷ ks) ((suc r, c) ∷ cs) ≡ misfit ks ((r, c) ∷ cs)
one_more k ks r c cs same = ap (λ b. (not b || list_any (λ j. not (same_kind j (constant_kind c))) (take r ks)) || misfit (drop r ks) cs) same

pub run_bad : (k : Kind) (n r : ℕ) (ls : List Kind) (c : EflConst) (cs : Values) → n ≢ 0 → 0 < r → same_kind k (constant_kind c) ≡ false → misfit (repeated n (k ∷ []) ++ ls) ((r, c) ∷ cs) ≡ true
run_bad k zero r ls c cs some more other = absurd (some refl)
run_bad k (suc n) zero ls c cs some more other = absurd (omega (arith, more))
run_bad k (suc n) (suc r) ls c cs some more other =
    ap (λ b. (not b || list_any (λ j. not (same_kind j (constant_kind c))) (take r (repeated n (k ∷ []) ++ ls))) || misfit (drop r (repeated n (k ∷ []) ++ ls)) cs) other

-- the value is used up
pub run_all : (k : Kind) (n r : ℕ) (ls : List Kind) (c : EflConst) (cs : Values) → r ≤ n → (0 < r → same_kind k (constant_kind c) ≡ true) →
    misfit (repeated n (k ∷ []) ++ ls) ((r, c) ∷ cs) ≡ misfit (repeated (n - r) (k ∷ []) ++ ls) cs
run_all k n zero ls c cs within same = ap (λ i. misfit (repeated i (k ∷ []) ++ ls) cs) (less n)
  where
    less : (n : ℕ) → n ≡ n - 0
    less n = omega arith
run_all k zero (suc r) ls c cs within same = absurd (omega (arith, within))
run_all k (suc n) (suc r) ls c cs within same =
    one_more k (repeated n (k ∷ []) ++ ls) r c cs (same (first r)) ∙ run_all k n r ls c cs (le n r within) (λ more. same (first r))
    ∙ ap (λ i. misfit (repeated i (k ∷ []) ++ ls) cs) (less n r)
  where
    first : (r : ℕ) → 0 < suc r
    first r = omega arith

    le : (n r : ℕ) → suc r ≤ suc n → r ≤ n
    le n r h = omega (arith, h)

    less : (n r : ℕ) → n - r ≡ suc n - suc r
    less n r = omega arith

-- the places are all filled
pub run_part : (k : Kind) (n r : ℕ) (ls : List Kind) (c : EflConst) (cs : Values) → n ≤ r → same_kind k (constant_kind c) ≡ true →
    misfit (repeated n (k ∷ []) ++ ls) ((r, c) ∷ cs) ≡ misfit ls ((r - n, c) ∷ cs)
run_part k zero r ls c cs within same = ap (λ i. misfit ls ((i, c) ∷ cs)) (less r)
  where
    less : (r : ℕ) → r ≡ r - 0
    less r = omega arith
run_part k (suc n) zero ls c cs within same = absurd (omega (arith, within))
run_part k (suc n) (suc r) ls c cs within same =
    one_more k (repeated n (k ∷ []) ++ ls) r c cs same ∙ run_part k n r ls c cs (le n r within) same ∙ ap (λ i. misfit ls ((i, c) ∷ cs)) (less n r)
  where
    le : (n r : ℕ) → suc n ≤ suc r → n ≤ r
    le n r h = omega (arith, h)

    less : (n r : ℕ) → r - n ≡ suc r - suc n
    less n r = omega arith

-- ---- places that are passed over ----

pub drop_repeated : (k : Kind) (s n : ℕ) (ls : List Kind) → drop s (repeated n (k ∷ []) ++ ls) ≡ repeated (n - min s n) (k ∷ []) ++ drop (s - min s n) ls
drop_repeated k zero n ls = ap (λ i. repeated i (k ∷ []) ++ ls) (less n) ∙ ap (λ i. repeated (n - min 0 n) (k ∷ []) ++ drop i ls) (none n)
  where
    less : (n : ℕ) → n ≡ n - min 0 n
    less n = omega arith

    none : (n : ℕ) → 0 ≡ 0 - min 0 n
    none n = omega arith
drop_repeated k (suc s) zero ls =
    ap (λ i. drop i ls) (some s) ∙ ap (λ i. repeated i (k ∷ []) ++ drop (suc s - min (suc s) 0) ls) (none s)
  where
    some : (s : ℕ) → suc s ≡ suc s - min (suc s) 0
    some s = omega arith

    none : (s : ℕ) → 0 ≡ 0 - min (suc s) 0
    none s = omega arith
drop_repeated k (suc s) (suc n) ls =
    drop_repeated k s n ls ∙ ap (λ i. repeated i (k ∷ []) ++ drop (s - min s n) ls) (one n s) ∙ ap (λ i. repeated (suc n - min (suc s) (suc n)) (k ∷ []) ++ drop i ls) (two n s)
  where
    one : (n s : ℕ) → n - min s n ≡ suc n - min (suc s) (suc n)
    one n s = omega arith

    two : (n s : ℕ) → s - min s n ≡ suc s - min (suc s) (suc n)
    two n s = omega arith

-- whole elements are passed over
pub drop_elements : (s n m p : ℕ) (ks ls : List Kind) → length ks ≡ p → m * p ≤ s → m ≤ n → drop s (repeated n ks ++ ls) ≡ drop (s - m * p) (repeated (n - m) ks ++ ls)
drop_elements s n m p ks ls is low few =
    ap (λ i. drop s (repeated i ks ++ ls)) (split n m few) ∙ ap (drop s) (repeated_more m (n - m) ks ls)
    ∙ ap (λ i. drop i (repeated m ks ++ (repeated (n - m) ks ++ ls))) (more s (m * p) low)
    ∙ sym (drop-drop (s - m * p) (m * p) (repeated m ks ++ (repeated (n - m) ks ++ ls)))
    ∙ ap (drop (s - m * p)) (drop_at (repeated m ks) (repeated (n - m) ks ++ ls) (m * p) (length_repeated m ks ∙ ap (λ l. m * l) is))
  where
    split : (n m : ℕ) → m ≤ n → n ≡ m + (n - m)
    split n m h = omega (arith, h)

    more : (s q : ℕ) → q ≤ s → s ≡ q + (s - q)
    more s q h = omega (arith, h)

-- ---- one after the other ----

pub passes_none : (cs : Values) (p : Progress) (ks : List Kind) → ks ≡ [] → Passes cs p ks (Some p)
passes_none cs p ks none = λ ls. ap (λ xs. misfit (drop p.skip (xs ++ ls)) (left_from cs p.next)) none

drop_nothing : {A : Type 0} (n : ℕ) → drop {A = A} n [] ≡ []
drop_nothing zero = refl
drop_nothing (suc n) = refl

pub passed_all : (cs : Values) (p q : Progress) (ks : List Kind) → Passes cs p ks (Some q) → misfit (drop p.skip ks) (left_from cs p.next) ≡ false
passed_all cs p q ks passes =
    sym (ap (λ xs. misfit (drop p.skip xs) (left_from cs p.next)) (append-nil ks)) ∙ passes [] ∙ ap (λ xs. misfit xs (left_from cs q.next)) (drop_nothing q.skip)
    ∙ misfit_nothing (left_from cs q.next)

pub passed_none : (cs : Values) (p : Progress) (ks : List Kind) → Passes cs p ks None → misfit (drop p.skip ks) (left_from cs p.next) ≡ true
passed_none cs p ks passes = sym (ap (λ xs. misfit (drop p.skip xs) (left_from cs p.next)) (append-nil ks)) ∙ passes []

-- ---- places of one kind ----

pub pass_none : (cs : Values) (from : Progress) (k : Kind) (count skipped left : ℕ) → skipped ≡ min from.skip count → left ≡ count - skipped → PassesOver cs from.next (repeated left (k ∷ [])) None → Passes cs from (repeated count (k ∷ [])) None
pass_none cs from k count skipped left first rest passes = λ ls.
    ap (λ xs. misfit xs (left_from cs from.next)) (drop_repeated k from.skip count ls)
    ∙ ap (λ n. misfit (repeated n (k ∷ []) ++ drop (from.skip - min from.skip count) ls) (left_from cs from.next)) (sym (rest ∙ ap (λ s. count - s) first))
    ∙ passes (drop (from.skip - min from.skip count) ls)

pub pass_some : (cs : Values) (from to : Progress) (k : Kind) (count skipped left : ℕ) (next : Next) → skipped ≡ min from.skip count → left ≡ count - skipped → to.skip ≡ from.skip - skipped → to.next ≡ next →
    PassesOver cs from.next (repeated left (k ∷ [])) (Some next) → Passes cs from (repeated count (k ∷ [])) (Some to)
pass_some cs from to k count skipped left next first rest skip is passes = λ ls.
    ap (λ xs. misfit xs (left_from cs from.next)) (drop_repeated k from.skip count ls)
    ∙ ap (λ n. misfit (repeated n (k ∷ []) ++ drop (from.skip - min from.skip count) ls) (left_from cs from.next)) (sym (rest ∙ ap (λ s. count - s) first))
    ∙ passes (drop (from.skip - min from.skip count) ls)
    ∙ ap (λ s. misfit (drop s ls) (left_from cs next)) (sym (skip ∙ ap (λ s. from.skip - s) first))
    ∙ ap (λ n. misfit (drop to.skip ls) (left_from cs n)) (sym is)

-- ---- values in memory ----

pub used_none : (cs : Values) → used_up 0 cs ≡ cs
used_none [] = refl
used_none (c ∷ cs) = ap (λ n. (n, c.1) ∷ cs) (less c.0)
  where
    less : (n : ℕ) → n - 0 ≡ n
    less n = omega arith

-- the value with this number comes next
next_value : (cs : Values) (i used run : ℕ) (v : ℕ × EflConst) → i < length cs → v ≡ get_or cs i v → run ≡ v.0 - used → used_up used (drop i cs) ≡ (run, v.1) ∷ drop (i + 1) cs
next_value cs i used run v within at is = ap (used_up used) (drop_next cs i v within at) ∙ ap (λ n. (n, v.1) ∷ drop (i + 1) cs) (sym is)

and_both : (a b : Bool) → (a && not b) ≡ true → (a ≡ true) × (b ≡ false)
and_both true true is = absurd cc
and_both true false is = (refl, refl)
and_both false b is = absurd cc

some_runs : (r : ℕ) → nat_lt 0 r ≡ true → 0 < r
some_runs r is = grind (arith, is)

pub over_misfit : (cs : Values) (i used run left : ℕ) (v : ℕ × EflConst) (k : Kind) (ls : List Kind) → i < length cs → v ≡ get_or cs i v → run ≡ v.0 - used → left ≢ 0 →
    (nat_lt 0 run && not (same_kind k (constant_kind v.1))) ≡ true → misfit (repeated left (k ∷ []) ++ ls) (used_up used (drop i cs)) ≡ true
over_misfit cs i used run left v k ls within at is some other =
    let both = and_both (nat_lt 0 run) (same_kind k (constant_kind v.1)) other in
    ap (misfit (repeated left (k ∷ []) ++ ls)) (next_value cs i used run v within at is) ∙ run_bad k left run ls v.1 (drop (i + 1) cs) some (some_runs run both.0) both.1

same_where : (r : ℕ) (b : Bool) → (nat_lt 0 r && not b) ≡ false → 0 < r → b ≡ true
same_where r true none some = refl
same_where r false none some = let yes : nat_lt 0 r ≡ true = grind (arith, some) in absurd (let d : true ≡ false = sym (ap (λ a. a && true) yes) ∙ none in cc)

pub over_all : (cs : Values) (i used run left : ℕ) (v : ℕ × EflConst) (k : Kind) (ls : List Kind) → i < length cs → v ≡ get_or cs i v → run ≡ v.0 - used → run ≤ left →
    (nat_lt 0 run && not (same_kind k (constant_kind v.1))) ≡ false →
    misfit (repeated left (k ∷ []) ++ ls) (used_up used (drop i cs)) ≡ misfit (repeated (left - run) (k ∷ []) ++ ls) (used_up 0 (drop (i + 1) cs))
over_all cs i used run left v k ls within at is few fits =
    ap (misfit (repeated left (k ∷ []) ++ ls)) (next_value cs i used run v within at is)
    ∙ run_all k left run ls v.1 (drop (i + 1) cs) few (same_where run (same_kind k (constant_kind v.1)) fits)
    ∙ ap (misfit (repeated (left - run) (k ∷ []) ++ ls)) (sym (used_none (drop (i + 1) cs)))

pub over_part : (cs : Values) (i used run left after : ℕ) (v : ℕ × EflConst) (k : Kind) (ls : List Kind) → i < length cs → v ≡ get_or cs i v → run ≡ v.0 - used → left < run → after ≡ v.0 - (run - left) →
    (nat_lt 0 run && not (same_kind k (constant_kind v.1))) ≡ false → misfit (repeated left (k ∷ []) ++ ls) (used_up used (drop i cs)) ≡ misfit ls (used_up after (drop i cs))
over_part cs i used run left after v k ls within at is few more fits =
    ap (misfit (repeated left (k ∷ []) ++ ls)) (next_value cs i used run v within at is)
    ∙ run_part k left run ls v.1 (drop (i + 1) cs) (omega (arith, few)) (same_where run (same_kind k (constant_kind v.1)) fits (omega (arith, few)))
    ∙ ap (misfit ls) (sym (next_value cs i after (run - left) v within at (omega (arith, is, few, more))))

pub over_done : (cs : Values) (i used : ℕ) (ks ls : List Kind) → length cs ≤ i → misfit ks (used_up used (drop i cs)) ≡ misfit ls (used_up 0 (drop (length cs) cs))
over_done cs i used ks ls past =
    ap (λ xs. misfit ks (used_up used xs)) (drop_all i cs past) ∙ sym (ap (λ xs. misfit ls (used_up 0 xs)) (drop_all (length cs) cs (omega arith)))
