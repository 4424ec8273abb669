-- One unit more: its room, the faults of those that are left, and what serves for those so far.
use Rattle.std.proofs.Common.{◌≡◌, ◌+◌, ◌<◌, ℕ, zero, suc, arith, add-one, List, [], ◌∷◌, ◌++◌, append_assoc, append-nil, length, get_or, drop, map, Option, Some, None, refl, sym, ap, ◌∙◌, subst}
use Rattle.std.specs.Prelude.{Err}
use Rattle.ground.specs.declared.place.Place.{Place}
use Rattle.ground.specs.declared.fault.Fault.{Fault}
use Rattle.ground.specs.declared.fault.Refusal.{Refusal}
use Rattle.ground.specs.declared.fault.Refusal.TheVariants.{Fault as Faulty, Memory}
use Rattle.f66_tree.specs.declared.unit.Unit.{Unit as AUnit}
use Rattle.rat_tree.specs.declared.program.RatUnit.{RatUnit}
use Rattle.rat_tree.specs.Views.{rat_routine_of}
use Rattle.rat_check.specs.FirstFault.{or_else, unit_fault, first_fault_of, Tells}
use Rattle.rat_lower.specs.Lowered.{HasRoom, AllHaveRoom}
use Rattle.rat_lower.specs.Served.{Serves, AllServe}

fault_behind : (us : List RatUnit) (i : ℕ) (u : RatUnit) → i < length us → u ≡ get_or us i u → unit_fault (rat_routine_of u) ≡ None → first_fault_of (map rat_routine_of (drop i us)) ≡ first_fault_of (map rat_routine_of (drop (suc i) us))
fault_behind [] i u within here none = absurd (omega arith)
fault_behind (v ∷ us) zero u within here none = ap (λ o. or_else o (first_fault_of (map rat_routine_of us))) (subst (λ (w : RatUnit). unit_fault (rat_routine_of w) ≡ None) here none)
fault_behind (v ∷ us) (suc i) u within here none = fault_behind us i u (omega arith) here none

pub fault_after : (us : List RatUnit) (i : ℕ) (u : RatUnit) → i < length us → u ≡ get_or us i u → unit_fault (rat_routine_of u) ≡ None → first_fault_of (map rat_routine_of (drop i us)) ≡ first_fault_of (map rat_routine_of (drop (i + 1) us))
fault_after us i u within here none = subst (λ (n : ℕ). first_fault_of (map rat_routine_of (drop i us)) ≡ first_fault_of (map rat_routine_of (drop n us))) (sym (add-one i)) (fault_behind us i u within here none)

-- the first fault of those left is that of the first of them, where it has one
fault_behind_all : (us : List RatUnit) (i : ℕ) (u : RatUnit) (f : Fault) → i < length us → u ≡ get_or us i u → unit_fault (rat_routine_of u) ≡ Some f → first_fault_of (map rat_routine_of (drop i us)) ≡ Some f
fault_behind_all [] i u f within here told = absurd (omega arith)
fault_behind_all (v ∷ us) zero u f within here told = ap (λ o. or_else o (first_fault_of (map rat_routine_of us))) (subst (λ (w : RatUnit). unit_fault (rat_routine_of w) ≡ Some f) here told)
fault_behind_all (v ∷ us) (suc i) u f within here told = fault_behind_all us i u f (omega arith) here told

pub fault_told : (A B : Type 0) (us : List RatUnit) (i : ℕ) (u : RatUnit) (r : Refusal) → i < length us → u ≡ get_or us i u → Tells {A = A} (Err r) (unit_fault (rat_routine_of u)) → Tells {A = B} (Err r) (first_fault_of (map rat_routine_of (drop i us)))
fault_told A B us i u (Faulty f) within here told = fault_behind_all us i u f within here told
fault_told A B us i u Memory within here told = tt

-- a refusal tells the same of any result
pub told_as : (A B : Type 0) (r : Refusal) (o : Option Fault) → Tells {A = A} (Err r) o → Tells {A = B} (Err r) o
told_as A B (Faulty f) o told = told
told_as A B Memory o told = tt

-- where neither is a fault, the first is none, and the second
first_none : (o p : Option Fault) → or_else o p ≡ None → o ≡ None
first_none None p none = refl
first_none (Some f) p none = cc

other_none : (o p : Option Fault) → or_else o p ≡ None → p ≡ None
other_none None p none = none
other_none (Some f) p none = cc

-- ---- units one after another ----

-- some units are done and served, and some are left
pub record UnitsSoFar (all left : List RatUnit) (finish : Place) (made : List AUnit) : Type 0 where
  pub done : List RatUnit
  pub is : all ≡ done ++ left
  pub served : AllServe (map rat_routine_of done) finish made

pub units_begin : (all left : List RatUnit) (finish : Place) → left ≡ all → UnitsSoFar all left finish []
units_begin all left finish same = record { done = []; is = sym same; served = tt }

unit_at : (done : List RatUnit) (u : RatUnit) (left : List RatUnit) → AllHaveRoom (map rat_routine_of (done ++ u ∷ left)) → HasRoom (rat_routine_of u)
unit_at [] u left room = room 0 (rat_routine_of u) (omega arith)
unit_at (v ∷ done) u left room = unit_at done u left (λ i d lt. room (suc i) d (omega (arith, lt)))

pub next_room : (all : List RatUnit) (u : RatUnit) (left : List RatUnit) (finish : Place) (made : List AUnit) → UnitsSoFar all (u ∷ left) finish made → AllHaveRoom (map rat_routine_of all) → HasRoom (rat_routine_of u)
next_room all u left finish made h room = unit_at h.done u left (subst (λ (us : List RatUnit). AllHaveRoom (map rat_routine_of us)) h.is room)

accepted_at : (done : List RatUnit) (u : RatUnit) (left : List RatUnit) → first_fault_of (map rat_routine_of (done ++ u ∷ left)) ≡ None → unit_fault (rat_routine_of u) ≡ None
accepted_at [] u left none = first_none _ _ none
accepted_at (v ∷ done) u left none = accepted_at done u left (other_none _ _ none)

pub next_accepted : (all : List RatUnit) (u : RatUnit) (left : List RatUnit) (finish : Place) (made : List AUnit) → UnitsSoFar all (u ∷ left) finish made → first_fault_of (map rat_routine_of all) ≡ None → unit_fault (rat_routine_of u) ≡ None
next_accepted all u left finish made h none = accepted_at h.done u left (subst (λ (us : List RatUnit). first_fault_of (map rat_routine_of us) ≡ None) h.is none)

serves_more : (done : List RatUnit) (finish : Place) (made : List AUnit) (u : RatUnit) (unit : AUnit) → AllServe (map rat_routine_of done) finish made → Serves (rat_routine_of u) finish unit → AllServe (map rat_routine_of (done ++ u ∷ [])) finish (made ++ unit ∷ [])
serves_more [] finish [] u unit so_far serves = (serves, tt)
serves_more [] finish (m ∷ made) u unit so_far serves = absurd so_far
serves_more (v ∷ done) finish [] u unit so_far serves = absurd so_far
serves_more (v ∷ done) finish (m ∷ made) u unit so_far serves = (so_far.0, serves_more done finish made u unit so_far.1 serves)

pub units_more : (all : List RatUnit) (u : RatUnit) (left : List RatUnit) (finish : Place) (made : List AUnit) (unit : AUnit) (more : List AUnit) → UnitsSoFar all (u ∷ left) finish made → Serves (rat_routine_of u) finish unit → more ≡ made ++ unit ∷ [] → UnitsSoFar all left finish more
units_more all u left finish made unit more h serves pushed = record {
  done = h.done ++ u ∷ [];
  is = h.is ∙ sym (append_assoc h.done (u ∷ []) left);
  served = subst (λ (made : List AUnit). AllServe (map rat_routine_of (h.done ++ u ∷ [])) finish made) (sym pushed) (serves_more h.done finish made u unit h.served serves);
}

pub units_over : (all left : List RatUnit) (finish : Place) (made : List AUnit) → UnitsSoFar all left finish made → left ≡ [] → AllServe (map rat_routine_of all) finish made
units_over all left finish made h none =
    subst (λ (us : List RatUnit). AllServe (map rat_routine_of us) finish made) (sym (h.is ∙ ap (λ l. h.done ++ l) none ∙ append-nil h.done)) h.served
