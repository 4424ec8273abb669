-- The first unit with a fault, behind units without.
use Rattle.std.proofs.Common.{◌≡◌, ◌<◌, ℕ, zero, suc, List, [], ◌∷◌, ◌++◌, length, map, Some, inl, inr, refl, sym, ap, ◌∙◌, subst, arith}
use Rattle.std.specs.List.{AllByRecursion, slice_get}
use Rattle.std.proofs.lemmas.List.{map-append}
use Rattle.ground.specs.declared.fault.Refusal.{Refusal}
use Rattle.ground.specs.declared.fault.Refusal.TheVariants as refusals
use Rattle.f66_tree.specs.declared.unit.Unit.{Unit as AUnit}
use Rattle.f66_tree.specs.Syntax.{Routine}
use Rattle.f66_tree.specs.Views.{routine_of}
use Rattle.f66_soundness.proofs.KindLemmas.{some_same}
use Rattle.f66_check.specs.Answers as rules
use Rattle.f66_check.specs.Answers.{IsSoundUnit}
use Rattle.storage_assoc.specs.Associating as storage
use Rattle.deck_link.specs.Units.{IsClean, IsRefusedUnit, AreRefusedUnits}

-- ---- one unit ----

pub rules_refused : (r : Routine) (e : Refusal) → rules.IsRightRefusal r e → IsRefusedUnit r e
rules_refused r (refusals.Fault f) h = inl (record { unsound = h.1; part = h.0.0; first = h.0.1 })
rules_refused r refusals.Memory h = tt

pub storage_refused : (r : Routine) → IsSoundUnit r → (e : Refusal) → storage.IsRightRefusal r e → IsRefusedUnit r e
storage_refused r sound (refusals.Fault f) h = inr (sound, h)
storage_refused r sound refusals.Memory h = tt

-- ---- units ----

here_at : (before behind : List Routine) (r : Routine) (i : ℕ) → i ≡ length before → slice_get (before ++ r ∷ behind) i ≡ Some r
here_at [] behind r zero e = refl
here_at [] behind r (suc i) e = absurd (omega (arith, e))
here_at (x ∷ before) behind r zero e = absurd (omega (arith, e))
here_at (x ∷ before) behind r (suc i) e = here_at before behind r i (omega (arith, e))

clean_before : (before behind : List Routine) (r : Routine) → AllByRecursion IsClean before → (v : ℕ) (s : Routine) → v < length before → slice_get (before ++ r ∷ behind) v ≡ Some s → IsClean s
clean_before [] behind r clean v s lt e = absurd (omega (arith, lt))
clean_before (x ∷ before) behind r clean zero s lt e = subst IsClean (some_same e) clean.0
clean_before (x ∷ before) behind r clean (suc v) s lt e = clean_before before behind r clean.1 v s (omega (arith, lt)) e

first_in : (before behind : List Routine) (r : Routine) → AllByRecursion IsClean before → (e : Refusal) → IsRefusedUnit r e → AreRefusedUnits (before ++ r ∷ behind) e
first_in before behind r clean (refusals.Fault f) h = record {
  number = length before;
  unit = r;
  here = here_at before behind r (length before) refl;
  fault = h;
  earlier = clean_before before behind r clean;
}
first_in before behind r clean refusals.Memory h = tt

pub first_refused : (units before behind : List AUnit) (unit : AUnit) → units ≡ before ++ unit ∷ behind → AllByRecursion IsClean (map routine_of before) → (e : Refusal) → IsRefusedUnit (routine_of unit) e →
    AreRefusedUnits (map routine_of units) e
first_refused units before behind unit splits clean e h =
    subst (λ rs. AreRefusedUnits rs e) (sym (ap (map routine_of) splits ∙ map-append routine_of before (unit ∷ behind))) (first_in (map routine_of before) (map routine_of behind) (routine_of unit) clean e h)
