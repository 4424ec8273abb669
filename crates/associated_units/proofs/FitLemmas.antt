-- Units of a text in memory that are fit.
use Rattle.std.proofs.Common.{◌≡◌, ◌<◌, ◌+◌, ◌∙◌, inl, inr, ℕ, zero, suc, List, [], ◌∷◌, length, map, slice_index_or, Some, sym, ap, subst, arith}
use Rattle.std.specs.List.{slice_get}
use Rattle.std.proofs.lemmas.Bool.{cases_lt}
use Rattle.ground.specs.declared.fault.Refusal.{Refusal}
use Rattle.ground.specs.declared.fault.Refusal.TheVariants as refusals
use Rattle.f66_tree.specs.Syntax.{Text, Routine}
use Rattle.storage_assoc.specs.Associating.{IsAssociated, IsRightRefusal, number_in_unit}
use Rattle.associated_units.specs.Fit.{IsFit, IsUnfitRefusal}

pub unit_at : {X Y : Type 0} (f : X → Y) (xs : List X) (i : ℕ) (x y : X) → i < length xs → x ≡ slice_index_or xs i y → slice_get (map f xs) i ≡ Some (f x)
unit_at f [] i x y lt e = absurd (omega (arith, lt))
unit_at f (z ∷ xs) zero x y lt e = ap (λ z. Some (f z)) (sym e)
unit_at f (z ∷ xs) (suc i) x y lt e = unit_at f xs i x y (omega (arith, lt)) e

pub fit : (r : Routine) (number : Text → ℕ → _) (total : ℕ) → IsAssociated r number total → IsFit r
fit r number total a = record { well = a.well; total = total; has = (number_in_unit number, a.numbering); few = a.few }

module _ (rs : List Routine) (i : ℕ) (r : Routine) (here : slice_get rs i ≡ Some r) (before : (v : ℕ) (s : Routine) → v < i → slice_get rs v ≡ Some s → IsFit s) where
  pub one_more : IsFit r → (v : ℕ) (s : Routine) → v < i + 1 → slice_get rs v ≡ Some s → IsFit s
  one_more f v s lt there = elim (cases_lt v i) [
    | inl l ↦ before v s l there
    | inr l ↦
        let at : i ≡ v = omega (arith, lt, l) in
        let e : Some r ≡ Some s = sym here ∙ ap (slice_get rs) at ∙ there in
        let same : r ≡ s = cc in
        subst IsFit same f
  ]

  pub refused : (e : Refusal) → IsRightRefusal r e → IsUnfitRefusal rs e
  refused (refusals.Fault f) h = record { number = i; unit = r; here = here; fault = h; earlier = before }
  refused refusals.Memory h = tt
