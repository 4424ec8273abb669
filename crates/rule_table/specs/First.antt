-- The first fault of a text, for any table of rules: breaks i k says that the part with the number i breaks the rule k.
use Rattle.std.specs.Prelude.{◌≡◌, ◌<◌, ℕ, Bool, true, false, Option, Some, None, List, find, option_map}
use Rattle.std.specs.List.{slice_get}
use Rattle.rule_table.specs.Words.{is_some_and, find_map}

-- kind at place is the first fault: no earlier part breaks a rule, and this one breaks none of a smaller number
pub record IsFirst {K : Type 0} (number : K → ℕ) (breaks : ℕ → K → Bool) (place : ℕ) (kind : K) : Type 0 where
  pub broken : breaks place kind ≡ true
  pub earlier : (i : ℕ) (k : K) → i < place → breaks i k ≡ false
  pub smaller : (k : K) → number k < number kind → breaks place k ≡ false

-- no part breaks a rule
abbrev pub IsClean : {K : Type 0} → (ℕ → K → Bool) → Type 0
IsClean {K} breaks = (i : ℕ) (k : K) → breaks i k ≡ false

-- kind is the broken rule with the smallest number, or None where none is broken
abbrev pub IsLeast : {K : Type 0} → (K → ℕ) → (K → Bool) → Option K → Type 0
IsLeast {K} number broken None = (k : K) → broken k ≡ false
IsLeast {K} number broken (Some kind) = (broken kind ≡ true) × ((k : K) → number k < number kind → broken k ≡ false)

-- The same for a list of parts in reading order, where b p k says that the part p breaks the rule k.

abbrev pub part_breaks : {X K : Type 0} → (X → K → Bool) → List X → ℕ → K → Bool
part_breaks b xs i k = is_some_and (λ p. b p k) (slice_get xs i)

-- the first part that breaks a rule, with the first such rule of the list ks
abbrev pub first_part : {X K : Type 0} → (X → K → Bool) → List K → List X → Option (X × K)
first_part b ks xs = find_map (λ p. option_map (λ k. (p, k)) (find (b p) ks)) xs

-- The same for rules that are facts and no tests, as "there is no walk of calls from a unit to itself".
pub record IsFirstFact {K : Type 0} (number : K → ℕ) (Breaks : ℕ → K → Type 0) (place : ℕ) (kind : K) : Type 0 where
  pub broken : Breaks place kind
  pub earlier : (i : ℕ) (k : K) → i < place → ¬ Breaks i k
  pub smaller : (k : K) → number k < number kind → ¬ Breaks place k
