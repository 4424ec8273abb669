-- The least of a list of rules, for any table.
use Rattle.std.proofs.Common.{◌≡◌, ◌<◌, ℕ, zero, suc, ◌||◌, MatchOption, option_map, ◌+◌, ◌≤◌, below_more, Bool, true, false, true≢false, Option, Some, None, List, [], ◌∷◌, refl, arith, ap, ◌∙◌, sym, cond, find, ◌⊎◌, inl, inr}
use Rattle.std.specs.Prelude.{⊤}
use Rattle.rule_table.specs.First.{IsLeast, IsFirst, IsClean, IsFirstFact, part_breaks, first_part}
use Rattle.std.specs.Bool.{Decides}
use Rattle.std.proofs.Math.Nat.{le_antisymm}
use Rattle.std.specs.Option.{option_or}
use Rattle.std.specs.List.{slice_get}

abbrev pub IsIn : {K : Type 0} → K → List K → Type 0
IsIn k [] = ⊥
IsIn k (x ∷ xs) = (k ≡ x) ⊎ IsIn k xs

abbrev pub IsAbove : {K : Type 0} → (K → ℕ) → ℕ → List K → Type 0
IsAbove number n [] = ⊤
IsAbove number n (x ∷ xs) = (n < number x) × IsAbove number n xs

abbrev pub IsRising : {K : Type 0} → (K → ℕ) → List K → Type 0
IsRising number [] = ⊤
IsRising number (x ∷ xs) = IsAbove number (number x) xs × IsRising number xs

abbrev IsLeastIn : {K : Type 0} → (K → ℕ) → (K → Bool) → List K → Option K → Type 0
IsLeastIn number broken ks None = (k : _) → IsIn k ks → broken k ≡ false
IsLeastIn number broken ks (Some f) = (broken f ≡ true) × ((k : _) → IsIn k ks → number k < number f → broken k ≡ false)

above : {K : Type 0} (number : K → ℕ) (n : ℕ) (xs : List K) (k : K) → IsAbove number n xs → IsIn k xs → n < number k
above number n [] k h i = absurd i
above number n (x ∷ xs) k h (inl e) = rw e h.0
above number n (x ∷ xs) k h (inr i) = above number n xs k h.1 i

step : {K : Type 0} (number : K → ℕ) (broken : K → Bool) (x : K) (xs : List K) (b : Bool) (o : Option K) →
    broken x ≡ b → IsAbove number (number x) xs → IsLeastIn number broken xs o → IsLeastIn number broken (x ∷ xs) (cond b (Some x) o)
step {K} number broken x xs true o e h rest =
    (e, λ k i l. elim i [ inl s ↦ absurd (let same : number k ≡ number x = ap number s in omega arith) | inr j ↦ absurd (let more : number x < number k = above number (number x) xs k h j in omega arith) ])
step {K} number broken x xs false None e h rest = λ k i. elim i [ inl s ↦ ap broken s ∙ e | inr j ↦ rest k j ]
step {K} number broken x xs false (Some f) e h rest = (rest.0, λ k i l. elim i [ inl s ↦ ap broken s ∙ e | inr j ↦ rest.1 k j l ])

find_least_in : {K : Type 0} (number : K → ℕ) (broken : K → Bool) (ks : List K) → IsRising number ks → IsLeastIn number broken ks (find broken ks)
find_least_in number broken [] h = λ k i. absurd i
find_least_in number broken (x ∷ xs) h = step number broken x xs (broken x) (find broken xs) refl h.0 (find_least_in number broken xs h.1)

all_in : {K : Type 0} (number : K → ℕ) (broken : K → Bool) (ks : List K) (o : Option K) → ((k : K) → IsIn k ks) → IsLeastIn number broken ks o → IsLeast number broken o
all_in number broken ks None full h = λ k. h k (full k)
all_in number broken ks (Some f) full h = (h.0, λ k l. h.1 k (full k) l)

-- of rules in the order of their numbers, with none left out, the first that is broken is the least
pub find_least : {K : Type 0} (number : K → ℕ) (broken : K → Bool) (ks : List K) → IsRising number ks → ((k : K) → IsIn k ks) → IsLeast number broken (find broken ks)
find_least number broken ks h full = all_in number broken ks (find broken ks) full (find_least_in number broken ks h)

-- the loop over the parts: a part that breaks a rule, after clean ones, is the first
pub first_at : {K : Type 0} (number : K → ℕ) (breaks : ℕ → K → Bool) (n : ℕ) (kind : K) →
    IsLeast number (breaks n) (Some kind) → ((i : ℕ) (k : K) → i < n → breaks i k ≡ false) → IsFirst number breaks n kind
first_at number breaks n kind least before = record { broken = least.0; earlier = before; smaller = least.1 }

-- a clean part after clean ones
pub more_clean : {K : Type 0} (breaks : ℕ → K → Bool) (n : ℕ) →
    ((k : K) → breaks n k ≡ false) → ((i : ℕ) (k : K) → i < n → breaks i k ≡ false) → (i : ℕ) (k : K) → i < n + 1 → breaks i k ≡ false
more_clean breaks n here before i k h = below_more (λ j. breaks j k ≡ false) n (λ j l. before j k l) (here k) i h

-- A list of parts: the first part that breaks a rule, with its least rule, is the first fault.

abbrev IsFirstPart : {X K : Type 0} → (K → ℕ) → (X → K → Bool) → List X → Option (X × K) → Type 0
IsFirstPart {X} {K} number b xs o =
    MatchOption o (IsClean (part_breaks b xs)) (λ r. (i : ℕ) × (slice_get xs i ≡ Some r.0) × IsFirst number (part_breaks b xs) i r.1)

clean_cons : {X K : Type 0} (number : K → ℕ) (b : X → K → Bool) (x : X) (xs : List X) → ((k : K) → b x k ≡ false) → IsClean (part_breaks b xs) → IsClean (part_breaks b (x ∷ xs))
clean_cons number b x xs least rest zero k = least k
clean_cons number b x xs least rest (suc i) k = rest i k

earlier_cons : {X K : Type 0} (b : X → K → Bool) (x : X) (xs : List X) (n : ℕ) → ((k : K) → b x k ≡ false) → ((i : ℕ) (k : K) → i < n → part_breaks b xs i k ≡ false) →
    (i : ℕ) (k : K) → i < suc n → part_breaks b (x ∷ xs) i k ≡ false
earlier_cons b x xs n least rest zero k h = least k
earlier_cons b x xs n least rest (suc i) k h = rest i k (omega arith)

part_step : {X K : Type 0} (number : K → ℕ) (b : X → K → Bool) (x : X) (xs : List X) (o : Option K) (a : Option (X × K)) →
    IsLeast number (b x) o → IsFirstPart number b xs a → IsFirstPart number b (x ∷ xs) (option_or (option_map (λ k. (x, k)) o) a)
part_step number b x xs (Some k) a least rest =
    (0, refl, record { broken = least.0; earlier = λ i m h. absurd (omega arith); smaller = least.1 })
part_step number b x xs None None least rest = clean_cons number b x xs least rest
part_step number b x xs None (Some r) least rest =
    (suc rest.0, rest.1, record { broken = rest.2.broken; earlier = earlier_cons b x xs rest.0 least rest.2.earlier; smaller = rest.2.smaller })

-- the first part of the list that breaks a rule, with its first rule, is the first fault
pub first_part-first : {X K : Type 0} (number : K → ℕ) (b : X → K → Bool) (ks : List K) → IsRising number ks → ((k : K) → IsIn k ks) → (xs : List X) →
    MatchOption (first_part b ks xs) (IsClean (part_breaks b xs)) (λ r. (i : ℕ) × (slice_get xs i ≡ Some r.0) × IsFirst number (part_breaks b xs) i r.1)
first_part-first number b ks rise full [] = λ i k. refl
first_part-first number b ks rise full (x ∷ xs) =
    part_step number b x xs (find (b x) ks) (first_part b ks xs) (find_least number (b x) ks rise full) (first_part-first number b ks rise full xs)

both_false : (x y : Bool) → x ≡ false → y ≡ false → (x || y) ≡ false
both_false x y e f = ap (λ z. z || y) e ∙ f

-- Two tables over one text: the earlier of their first faults is the first fault of both together.

pub first_either : {K : Type 0} (number : K → ℕ) (b c : ℕ → K → Bool) (i j : ℕ) (k l : K) → IsFirst number b i k → IsFirst number c j l →
    (i < j) ⊎ ((i ≡ j) × (number k ≤ number l)) → IsFirst number (λ n m. b n m || c n m) i k
first_either number b c i j k l first second order = record {
  broken = ap (λ x. x || c i k) first.broken;
  earlier = λ n m h. both_false _ _ (first.earlier n m h) (elim order [ inl less ↦ second.earlier n m (omega arith) | inr same ↦ second.earlier n m (omega (arith, same.0)) ]);
  smaller = λ m h. both_false _ _ (first.smaller m h)
      (elim order [ inl less ↦ second.earlier i m less | inr same ↦ rw same.0 (second.smaller m (omega (arith, same.1))) ]);
}

pub first_alone : {K : Type 0} (number : K → ℕ) (b c : ℕ → K → Bool) (i : ℕ) (k : K) → IsFirst number b i k → IsClean c →
    IsFirst number (λ n m. b n m || c n m) i k
first_alone number b c i k first clean = record {
  broken = ap (λ x. x || c i k) first.broken;
  earlier = λ n m h. both_false _ _ (first.earlier n m h) (clean n m);
  smaller = λ m h. both_false _ _ (first.smaller m h) (clean i m);
}

-- Rules as facts: a test that decides each fact gives the same first fault.
pub first_fact : {K : Type 0} (number : K → ℕ) (b : ℕ → K → Bool) (Breaks : ℕ → K → Type 0) → ((i : ℕ) (k : K) → Decides (b i k) (Breaks i k)) →
    (i : ℕ) (k : K) → IsFirst number b i k → IsFirstFact number Breaks i k
first_fact number b Breaks decides i k first = record {
  broken = (decides i k).0 first.broken;
  earlier = λ j l h fact. true≢false (sym ((decides j l).1 fact) ∙ first.earlier j l h);
  smaller = λ l h fact. true≢false (sym ((decides i l).1 fact) ∙ first.smaller l h);
}

not_lt : (a b : ℕ) → ¬ (a < b) → b ≤ a
not_lt a b h = omega arith

-- the first fault is one: two answers for one table agree, where numbers tell the rules apart
pub first_unique : {K : Type 0} (number : K → ℕ) (b : ℕ → K → Bool) (i j : ℕ) (k l : K) → IsFirst number b i k → IsFirst number b j l →
    (i ≡ j) × (number k ≡ number l)
first_unique number b i j k l first second =
    let below : ¬ (i < j) = λ h. true≢false (sym first.broken ∙ second.earlier i k h) in
    let above_ : ¬ (j < i) = λ h. true≢false (sym second.broken ∙ first.earlier j l h) in
    let same : i ≡ j = le_antisymm (not_lt j i above_) (not_lt i j below) in
    let second_here : b i l ≡ true = ap (λ n. b n l) same ∙ second.broken in
    let first_there : b j k ≡ true = ap (λ n. b n k) (sym same) ∙ first.broken in
    (same, le_antisymm (not_lt (number l) (number k) (λ h. true≢false (sym second_here ∙ first.smaller l h))) (not_lt (number k) (number l) (λ h. true≢false (sym first_there ∙ second.smaller k h))))
