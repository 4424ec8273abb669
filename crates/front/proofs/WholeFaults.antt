-- A whole EFL program has at most one first fault.
use Rattle.std.proofs.Common.{◌≡◌, ℕ, List, Option, Some, None, inl, inr, refl, sym, ◌∙◌, ap, subst}
use Rattle.std.specs.Prelude.{option_map}
use Rattle.std.specs.List.{slice_get}
use Rattle.ground.specs.declared.fault.Fault.{Fault}
use Rattle.ground.specs.declared.fault.FaultKind.TheVariants.{Recursion}
use Rattle.ground.specs.declared.place.Place.{Place}
use Rattle.ground.specs.Faults.{fault_at}
use Rattle.call_cycles.specs.declared.edge.Edge.{Edge}
use Rattle.call_cycles.specs.Cycles.{IsFirstOnCycle}
use Rattle.efl_tree.specs.Syntax.{EflProgram}
use Rattle.efl_types.specs.Whole.{program_calls, count_fault, TellsCalls, TellsWhole}
use Rattle.efl_built.specs.Unbuilt.{first_unbuilt}
use Rattle.front.specs.Checked.{Checked}
use Rattle.front.specs.Efl.{IsBuilt, IsWhole, IsTyped}
use Rattle.front.proofs.FirstFaults.{compare}

one_number : (edges : List Edge) (i j : ℕ) → IsFirstOnCycle edges i → IsFirstOnCycle edges j → i ≡ j
one_number edges i j h k = elim (compare i j) [
  | inl less ↦ absurd (k.earlier i less h.on)
  | inr other ↦ elim other [ inl same ↦ same | inr more ↦ absurd (h.earlier j more k.on) ]
]

one_calls : (p : EflProgram) (a b : Option Fault) → TellsCalls p a → TellsCalls p b → a ≡ b
one_calls p None None h k = refl
one_calls p None (Some g) h k = absurd (h k.number k.first.inside k.first.on)
one_calls p (Some f) None h k = absurd (k h.number h.first.inside h.first.on)
one_calls p (Some f) (Some g) h k =
    let told : ℕ → Option Fault = λ n. option_map (λ c. fault_at c.place Recursion) (slice_get (program_calls p) n) in
    sym h.tells ∙ (ap told (one_number _ h.number k.number h.first k.first) ∙ k.tells)

one_whole : (p : EflProgram) (a b : Option Fault) → TellsWhole p a → TellsWhole p b → a ≡ b
one_whole p a b h k = by (count_fault p) refl
  where
    by : (o : Option Fault) → count_fault p ≡ o → a ≡ b
    by None e = one_calls p a b (rw e at h) (rw e at k)
    by (Some f) e = (rw e at h) ∙ sym (rw e at k)

one_built : (p : EflProgram) (o : Option Place) (a b : Checked) → IsBuilt p o a → IsBuilt p o b → a ≡ b
one_built p (Some place) a b h k = h ∙ sym k
one_built p None a b h k = h ∙ sym k

one_behind : (p : EflProgram) (o : Option Fault) (a b : Checked) → IsWhole p o a → IsWhole p o b → a ≡ b
one_behind p (Some f) a b h k = h ∙ sym k
one_behind p None a b h k = one_built p (first_unbuilt p) a b h k

pub one_typed : (p : EflProgram) (o : Option Fault) (a b : Checked) → IsTyped p o a → IsTyped p o b → a ≡ b
one_typed p (Some f) a b h k = h ∙ sym k
one_typed p None a b h k = one_behind p k.0 a b (subst (λ o. IsWhole p o a) (one_whole p h.0 k.0 h.1 k.1) h.2) k.2
