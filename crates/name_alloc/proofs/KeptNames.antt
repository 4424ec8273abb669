-- The name that is made behind kept names is none of them.
use Rattle.std.proofs.Common.{◌≡◌, ℕ, ◌+◌, ◌<◌, ◌≤◌, true, false, List, [], ◌∷◌, ◌++◌, length, Option, Some, None, refl, sym, ap, ◌∙◌, arith}
use Rattle.std.specs.Str.{bytes_eq}
use Rattle.std.specs.List.{list_any}
use Rattle.std.proofs.lemmas.Bool.{or_parts}
use Rattle.std.proofs.lemmas.List.{append-nil, append_assoc}
use Rattle.name_alloc.specs.Numbers.{Numbering, is_in, above, behind, free_number, next_number}
use Rattle.name_alloc.specs.MadeNames.{Used, number_of, is_used, next_name, covers, taking_if, keeping, unused, keeping_all}
use Rattle.name_alloc.proofs.Free.{above-length, free_from-free, free_from-above}
use Rattle.name_alloc.proofs.Made.{made_fresh, keeps}

-- names are kept, and none is made
pub record Keeping (s : Used) : Type 0 where
  pub covered : covers s.letter s.numbers.taken s.kept ≡ true
  pub few : length s.numbers.taken ≤ length s.kept
  pub first : s.numbers.first ≡ 1
  pub none : s.numbers.made ≡ []

none_made : (s : Numbering) (o : Option ℕ) → s.made ≡ [] → (taking_if s o).made ≡ []
none_made s None e = e
none_made s (Some n) e = e

one_more : (s : Used) (x : List ℕ) → Keeping s → Keeping (keeping s x)
one_more s x h =
    let k = keeps s.letter s.numbers (taking_if s.numbers (number_of s.letter x)) s.kept (s.kept ++ x ∷ []) x h.covered h.few refl refl in
    record { covered = k.0; few = k.1; first = k.2 ∙ h.first; none = none_made s.numbers (number_of s.letter x) h.none }

all_more : (xs : List (List ℕ)) (s : Used) → Keeping s → Keeping (keeping_all xs s)
all_more [] s h = h
all_more (x ∷ xs) s h = all_more xs (keeping s x) (one_more s x h)

pub kept_names : (xs : List (List ℕ)) (s : Used) → (keeping_all xs s).kept ≡ s.kept ++ xs
kept_names [] s = sym (append-nil s.kept)
kept_names (x ∷ xs) s = kept_names xs (keeping s x) ∙ append_assoc s.kept (x ∷ []) xs

pub kept_none_made : (xs : List (List ℕ)) (s : Used) → Keeping s → (keeping_all xs s).numbers.made ≡ []
kept_none_made xs s h = (all_more xs s h).none

pub kept_labels : (xs : List (List ℕ)) (s : Used) → (keeping_all xs s).labels ≡ s.labels
kept_labels [] s = refl
kept_labels (x ∷ xs) s = kept_labels xs (keeping s x)

pub kept_letter : (xs : List (List ℕ)) (s : Used) → (keeping_all xs s).letter ≡ s.letter
kept_letter [] s = refl
kept_letter (x ∷ xs) s = kept_letter xs (keeping s x)

pub none_yet : Keeping unused
none_yet = record { covered = refl; few = omega arith; first = refl; none = refl }

-- the number of the next name is one that no kept name has
next_is : (s : Used) → Keeping s → length s.kept < 99999 → (next_number s.numbers < 100000) × (is_used s (next_name s) ≡ false)
next_is s h room =
    let taken = s.numbers.taken in
    let start = behind s.numbers.first s.numbers.made in
    let n = free_number taken start in
    let at : start ≡ 1 = ap (behind s.numbers.first) h.none ∙ h.first in
    let low : n + above n taken ≤ start + above start taken = (free_from-above (length taken) taken start).1 in
    let below : n < 100000 = omega (arith, at, low, above-length start taken, h.few, room) in
    (below, made_fresh s n below h.covered (free_from-free (length taken) taken start (above-length start taken)) (ap (λ ms. is_in ms n) h.none))

abbrev pub after : List (List ℕ) → Used
after xs = keeping_all xs unused

room_behind : (xs : List (List ℕ)) → length xs < 99999 → length (after xs).kept < 99999
room_behind xs room = omega (arith, ap length (kept_names xs unused), room)

pub next_apart : (xs : List (List ℕ)) → length xs < 99999 → list_any (bytes_eq (next_name (after xs))) xs ≡ false
next_apart xs room =
    let k = next_is (after xs) (all_more xs unused none_yet) (room_behind xs room) in
    ap (list_any (bytes_eq (next_name (after xs)))) (sym (kept_names xs unused)) ∙ (or_parts (list_any (bytes_eq (next_name (after xs))) (after xs).kept) _ k.1).0

pub next_low : (xs : List (List ℕ)) → length xs < 99999 → next_number (after xs).numbers < 100000
next_low xs room = (next_is (after xs) (all_more xs unused none_yet) (room_behind xs room)).0
