-- Rules that are asked one behind the other.
use Rattle.std.proofs.Common.{◌≡◌, ◌<◌, ◌∙◌, inl, inr, ℕ, zero, suc, refl, sym, ap, subst, arith}
use Rattle.std.proofs.lemmas.Bool.{cases_lt}
use Rattle.ground.specs.declared.fault.Fault.{Fault}
use Rattle.ground.specs.declared.fault.FaultKind.{FaultKind}
use Rattle.ground.specs.declared.fault.FaultKind.TheVariants.{DuplicateUnit, MainCount, MissingUnit, TypeClash, WrongCount, Recursion, CommonMismatch, InitialTwice, Limit}
use Rattle.f66_program.specs.Linking.{Program, Breaks, IsFirstFault, rank, limit_number}
use Rattle.linker.specs.Order.{AreKeptBelow, IsCallFault}
use Rattle.linker.specs.Rules.{IsFirstBroken, IsKept}

-- the rule of a rank below the last
abbrev ranked : ℕ → FaultKind
ranked zero = DuplicateUnit
ranked (suc zero) = MainCount
ranked (suc (suc zero)) = MissingUnit
ranked (suc (suc (suc zero))) = TypeClash
ranked (suc (suc (suc (suc zero)))) = WrongCount
ranked (suc (suc (suc (suc (suc zero))))) = Recursion
ranked (suc (suc (suc (suc (suc (suc zero)))))) = CommonMismatch
ranked (suc (suc (suc (suc (suc (suc (suc zero))))))) = InitialTwice
ranked _ = Limit

ranked_by : (k : FaultKind) → rank k < 8 → ranked (rank k) ≡ k
ranked_by DuplicateUnit lt = refl
ranked_by MainCount lt = refl
ranked_by MissingUnit lt = refl
ranked_by TypeClash lt = refl
ranked_by WrongCount lt = refl
ranked_by Recursion lt = refl
ranked_by CommonMismatch lt = refl
ranked_by InitialTwice lt = refl
ranked_by _ lt = absurd (omega (arith, lt))

module _ (p : Program) where
  pub kept_none : AreKeptBelow 0 p
  kept_none k lt = absurd (omega (arith, lt))

  -- one rule more is kept
  pub kept_more : (k : FaultKind) → rank k < 8 → AreKeptBelow (rank k) p → IsKept k p → AreKeptBelow (suc (rank k)) p
  kept_more k last before kept j lt = elim (cases_lt (rank j) (rank k)) [
    | inl l ↦ before j l
    | inr l ↦
        let e : rank j ≡ rank k = omega (arith, lt, l) in
        let same : k ≡ j = sym (ranked_by k last) ∙ ap ranked (sym e) ∙ ranked_by j (omega (arith, e, last)) in
        subst (λ i. IsKept i p) same kept
  ]

  -- the rules on names and calls

  pub kept_one : IsKept DuplicateUnit p → AreKeptBelow 1 p
  kept_one a = kept_more DuplicateUnit (omega arith) kept_none a

  pub kept_two : IsKept DuplicateUnit p → IsKept MainCount p → AreKeptBelow 2 p
  kept_two a b = kept_more MainCount (omega arith) (kept_one a) b

  pub kept_three : IsKept DuplicateUnit p → IsKept MainCount p → IsKept MissingUnit p → AreKeptBelow 3 p
  kept_three a b d = kept_more MissingUnit (omega arith) (kept_two a b) d

  pub kept_four : IsKept DuplicateUnit p → IsKept MainCount p → IsKept MissingUnit p → IsKept TypeClash p → AreKeptBelow 4 p
  kept_four a b d e = kept_more TypeClash (omega arith) (kept_three a b d) e

  pub kept_five : IsKept DuplicateUnit p → IsKept MainCount p → IsKept MissingUnit p → IsKept TypeClash p → IsKept WrongCount p → AreKeptBelow 5 p
  kept_five a b d e f = kept_more WrongCount (omega arith) (kept_four a b d e) f

  pub kept_six : IsKept DuplicateUnit p → IsKept MainCount p → IsKept MissingUnit p → IsKept TypeClash p → IsKept WrongCount p → IsKept Recursion p → AreKeptBelow 6 p
  kept_six a b d e f g = kept_more Recursion (omega arith) (kept_five a b d e f) g

-- where the rules before are kept, the first part that breaks the next one gives the fault

pub first_fault : (k : FaultKind) (p : Program) (f : Fault) → AreKeptBelow (rank k) p → IsFirstBroken k p f → IsFirstFault p f
first_fault k p f kept b = record {
  part = b.part;
  broken = subst (λ j. Breaks j p b.part) (sym b.kind) b.broken;
  rules = λ j q below. kept j (subst (λ i. rank j < rank i) b.kind below) q;
  parts = λ q before h. b.earlier q before (subst (λ j. Breaks j p q) b.kind h);
  place = b.place;
  limit = b.number ∙ ap limit_number (sym b.kind);
}

pub call_fault : (k : FaultKind) (p : Program) (f : Fault) → rank k < rank CommonMismatch → AreKeptBelow (rank k) p → IsFirstBroken k p f → IsCallFault p f
call_fault k p f lt kept b = record { first = first_fault k p f kept b; on_calls = subst (λ j. rank j < rank CommonMismatch) (sym b.kind) lt }
