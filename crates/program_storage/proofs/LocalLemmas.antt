-- Units that come behind tie no places of the units before, where none is bad: a way from place to place goes within a unit, or
-- through one block from one unit into another.
use Rattle.std.proofs.Common.{◌≡◌, ◌<◌, ◌+◌, ℕ, zero, suc, ℤ, List, [], ◌∷◌, ◌++◌, length, Option, None, Some, refl, sym, subst, arith, inl, inr}
use Rattle.std.proofs.lemmas.List.Elements.{All-nil, All-contains, Contains-append_cases, Contains-append_left, Contains-append_right}
use Rattle.std.specs.List.{All, Contains, slice_get}
use Rattle.f66_tree.specs.Syntax.{Text, Routine}
use Rattle.f66_program.specs.Mentions.{context_of}
use Rattle.f66_program.specs.Association.{Row, Own, Tie, IsSame, by_tie, itself, back, onward, AreBad, IsBadUnit, not_filled, unit_ties, ties_from, ties_of}
use Rattle.f66_program.proofs.TieLemmas.{IsOwnTie, own_lines, bad_unit}
use Rattle.f66_program.proofs.WholeLemmas.{IsOwned, Way, way_of}
use Rattle.f66_program.proofs.WholeLemmas as whole
use Rattle.storage_assoc.proofs.TableLemmas.{no_ties}
use Rattle.linker.proofs.PartLemmas.{contains_got}
use Rattle.program_storage.proofs.StepLemmas.{got_before}

-- the ties of the unit with a number, where there is one

abbrev ties_by : ℕ → Option Routine → List Tie
ties_by u None = []
ties_by u (Some r) = unit_ties u r

abbrev ties_at : List Routine → ℕ → List Tie
ties_at rs u = ties_by u (slice_get rs u)

parts_from : (s : ℕ) (rs : List Routine) (t : Tie) → Contains (ties_from s rs) t → (u : ℕ) × Contains (ties_by (s + u) (slice_get rs u)) t
parts_from s [] t c = absurd (omega (arith, c.1))
parts_from s (r ∷ rs) t c = elim (Contains-append_cases (unit_ties s r) (ties_from (suc s) rs) t c) [
  | inl h ↦ (let e : s ≡ s + 0 = omega arith in (0, subst (λ n. Contains (unit_ties n r) t) e h))
  | inr h ↦ (let w = parts_from (suc s) rs t h in let e : suc s + w.0 ≡ s + suc w.0 = omega arith in (suc w.0, subst (λ n. Contains (ties_by n (slice_get rs w.0)) t) e w.1))
]

into_from : (s : ℕ) (rs : List Routine) (u : ℕ) (t : Tie) → Contains (ties_by (s + u) (slice_get rs u)) t → Contains (ties_from s rs) t
into_from s [] u t c = absurd (omega (arith, c.1))
into_from s (r ∷ rs) zero t c = (let e : s + 0 ≡ s = omega arith in Contains-append_left (unit_ties s r) (ties_from (suc s) rs) t (subst (λ n. Contains (unit_ties n r) t) e c))
into_from s (r ∷ rs) (suc u) t c =
    let e : s + suc u ≡ suc s + u = omega arith in
    Contains-append_right (unit_ties s r) (ties_from (suc s) rs) t (into_from (suc s) rs u t (subst (λ n. Contains (ties_by n (slice_get rs u)) t) e c))

parts : (rs : List Routine) (t : Tie) → Contains (ties_of rs) t → (u : ℕ) × Contains (ties_at rs u) t
parts rs t c = (let w = parts_from 0 rs t c in let e : 0 + w.0 ≡ w.0 = omega arith in (w.0, subst (λ n. Contains (ties_by n (slice_get rs w.0)) t) e w.1))

into : (rs : List Routine) (u : ℕ) (t : Tie) → Contains (ties_at rs u) t → Contains (ties_of rs) t
into rs u t c = (let e : u ≡ 0 + u = omega arith in into_from 0 rs u t (subst (λ n. Contains (ties_by n (slice_get rs u)) t) e c))

owned_by : (u : ℕ) (o : Option Routine) → All (IsOwnTie u) (ties_by u o)
owned_by u None = All-nil (IsOwnTie u)
owned_by u (Some r) = own_lines u (context_of r) not_filled r.lines

good_by : (rs : List Routine) → All (λ r. ¬ IsBadUnit r) rs → (u : ℕ) (o : Option Routine) → slice_get rs u ≡ o → ¬ AreBad (ties_by u o)
good_by rs well u None e b = no_ties b
good_by rs well u (Some r) e b = All-contains (λ r. ¬ IsBadUnit r) rs r well (contains_got rs u r e) (bad_unit u r b)

way : (rs : List Routine) → All (λ r. ¬ IsBadUnit r) rs → {a b : Row} {d : ℤ} → IsSame (ties_of rs) a b d → Way (ties_at rs) a b d
way rs well h =
    way_of (ties_at rs) (λ u. good_by rs well u (slice_get rs u) refl) (ties_of rs) (λ u t c. All-contains (IsOwnTie u) (ties_at rs u) t (owned_by u (slice_get rs u)) c) (parts rs) h

wider : (ts us : List Tie) → ((t : Tie) → Contains ts t → Contains us t) → {a b : Row} {d : ℤ} → IsSame ts a b d → IsSame us a b d
wider ts us f (by_tie t c) = by_tie t (f t c)
wider ts us f (itself a) = itself a
wider ts us f (back h) = back (wider ts us f h)
wider ts us f (onward h k) = onward (wider ts us f h) (wider ts us f k)

module _ (rs more : List Routine) where
  -- what the ties of a unit say, the units up to it say
  kept : (u : ℕ) → u < length rs → {a b : Row} {d : ℤ} → IsSame (ties_at (rs ++ more) u) a b d → IsSame (ties_of rs) a b d
  kept u lt {a} {b} {d} h = wider (ties_at rs u) (ties_of rs) (into rs u) (subst (λ o. IsSame (ties_by u o) a b d) (got_before rs more u lt) h)

  local_way : (u v : ℕ) (x y : Text) (d : ℤ) → u < length rs → v < length rs → Way (ties_at (rs ++ more)) (Own u x) (Own v y) d → IsSame (ties_of rs) (Own u x) (Own v y) d
  local_way u v x y d u_in v_in (whole.none e z) = subst (λ b. IsSame (ties_of rs) (Own u x) b d) e (subst (λ f. IsSame (ties_of rs) (Own u x) (Own u x) f) (sym z) (itself (Own u x)))
  local_way u v x y d u_in v_in (whole.within w oa ob h) = kept w (subst (λ n. n < length rs) oa u_in) h
  local_way u v x y d u_in v_in (whole.across w w' z d1 d2 oa ob h k e) =
      subst (λ f. IsSame (ties_of rs) (Own u x) (Own v y) f) (sym e) (onward (kept w (subst (λ n. n < length rs) oa u_in) h) (kept w' (subst (λ n. n < length rs) ob v_in) k))

  pub local : All (λ r. ¬ IsBadUnit r) (rs ++ more) → (u v : ℕ) (x y : Text) (d : ℤ) → u < length rs → v < length rs → IsSame (ties_of (rs ++ more)) (Own u x) (Own v y) d → IsSame (ties_of rs) (Own u x) (Own v y) d
  local well u v x y d u_in v_in h = local_way u v x y d u_in v_in (way (rs ++ more) well h)
