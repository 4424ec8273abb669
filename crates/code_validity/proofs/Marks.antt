-- Code is valid where each instruction has a mark, of what holds before it and of the unit that it is of, and fits the marks of
-- those to which it leads.
use Rattle.std.proofs.Common.{◌≡◌, inl, inr, ℕ, zero, suc, ◌<◌, ◌≤◌, Bool, true, false, true≢false, List, length, Option, Some, None, sym, ap, ◌∙◌, subst, subst₂, arith, slice_get}
use Rattle.std.proofs.lemmas.Option.{same_Some}
use Rattle.stack_code.specs.declared.fact.Fact.{Fact}
use Rattle.stack_code.specs.Instructions.{Instruction, Call, Return}
use Rattle.stack_code.specs.ValidCode.{after, ways, root, IsIn, IsEntry, IsReached, is_begin, is_in_range, NeverReturns, IsValid}

pub record Mark : Type 0 where
  pub fact : Fact
  pub unit : ℕ

abbrev pub mark : Fact → ℕ → Mark
mark f u = record { fact = f; unit = u }

module _ (code : List Instruction) (marks : List Mark) (depth : ℕ → ℕ) (main : ℕ → Bool) where
  pub record IsKept (plans units pc : ℕ) (i : Instruction) (m : Mark) : Type 0 where
    pub behind : Fact
    pub gives : after i m.fact ≡ Some behind
    pub range : is_in_range code plans units pc i ≡ true
    pub there : (to : ℕ) → IsIn to (ways i pc) → slice_get marks to ≡ Some (mark behind m.unit)
    pub calls : (to n : ℕ) → i ≡ Call to n → (v : ℕ) × (slice_get marks to ≡ Some (mark (root n) v)) × (depth v < depth m.unit)
    pub returns : i ≡ Return → main m.unit ≡ false

  -- the instruction of a mark
  pub record Stands (plans units pc : ℕ) (m : Mark) : Type 0 where
    pub instruction : Instruction
    pub stands : slice_get code pc ≡ Some instruction
    pub kept : IsKept plans units pc instruction m

  pub record AreKept (plans units : ℕ) : Type 0 where
    pub begins : is_begin (slice_get code 0) ≡ true
    pub first : (u : ℕ) × (slice_get marks 0 ≡ Some (mark (root 0) u)) × (main u ≡ true)
    pub marked : (pc : ℕ) (i : Instruction) → slice_get code pc ≡ Some i → (m : Mark) × (slice_get marks pc ≡ Some m)
    pub each : (pc : ℕ) (m : Mark) → slice_get marks pc ≡ Some m → Stands plans units pc m
    pub deep : (u : ℕ) → depth u ≤ length code

  module _ (plans units : ℕ) (kept : AreKept plans units) where
    -- what is reached from an entry is marked so, as of its unit
    record HasMark (entry pc : ℕ) (f : Fact) : Type 0 where
      unit : ℕ
      first : Fact
      enters : slice_get marks entry ≡ Some (mark first unit)
      here : slice_get marks pc ≡ Some (mark f unit)

    same_instruction : (pc : ℕ) (m : Mark) (i : Instruction) (s : Stands plans units pc m) → slice_get code pc ≡ Some i → s.instruction ≡ i
    same_instruction pc m i s is = same_Some _ _ (sym s.stands ∙ is)

    entry_mark : (entry n : ℕ) → IsEntry code entry n → (u : ℕ) × (slice_get marks entry ≡ Some (mark (root n) u))
    entry_mark entry n (inl e) =
        let first = kept.first in
        (first.0, subst₂ (λ a b. slice_get marks a ≡ Some (mark (root b) first.0)) (sym e.0) (sym e.1) first.1)
    entry_mark entry n (inr c) =
        let m = kept.marked c.at _ c.calls in
        let s = kept.each c.at m.0 m.1 in
        let to = s.kept.calls entry n (same_instruction c.at m.0 _ s c.calls) in
        (to.0, to.1)

    has_mark : (entry k pc : ℕ) (f : Fact) → IsReached code entry k pc f → HasMark entry pc f
    has_mark entry zero pc f r =
        let e = entry_mark entry r.count r.entry_is in
        record {
          unit = e.0;
          first = root r.count;
          enters = e.1;
          here = subst₂ (λ a g. slice_get marks a ≡ Some (mark g e.0)) (sym r.here) (sym r.is) e.1;
        }
    has_mark entry (suc k) pc f r =
        let h = has_mark entry k r.0 r.1 r.2 in
        let s = kept.each r.0 (mark r.1 h.unit) h.here in
        let same : s.instruction ≡ r.3.instruction = same_instruction r.0 _ _ s r.3.stands in
        let gives : s.kept.behind ≡ f = same_Some _ _ (sym s.kept.gives ∙ ap (λ i. after i r.1) same ∙ r.3.gives) in
        let to = s.kept.there pc (subst (λ i. IsIn pc (ways i r.0)) (sym same) r.3.goes) in
        record { unit = h.unit; first = h.first; enters = h.enters; here = subst (λ g. slice_get marks pc ≡ Some (mark g h.unit)) gives to }

    stands_at : (entry k pc : ℕ) (f : Fact) (r : IsReached code entry k pc f) → Stands plans units pc (mark f (has_mark entry k pc f r).unit)
    stands_at entry k pc f r = kept.each pc _ (has_mark entry k pc f r).here

    abbrev depth_of : Option Mark → ℕ
    depth_of None = 0
    depth_of (Some m) = depth m.unit

    within : (o : Option Mark) → depth_of o ≤ length code
    within None = omega arith
    within (Some m) = kept.deep m.unit

    calls_deeper : (entry k pc : ℕ) (f : Fact) (to n : ℕ) → IsReached code entry k pc f → slice_get code pc ≡ Some (Call to n) → depth_of (slice_get marks to) < depth_of (slice_get marks entry)
    calls_deeper entry k pc f to n r is =
        let h = has_mark entry k pc f r in
        let s = stands_at entry k pc f r in
        let c = s.kept.calls to n (same_instruction pc _ _ s is) in
        subst₂ (λ a b. depth_of a < depth_of b) (sym c.1) (sym h.enters) c.2

    never_returns : NeverReturns code
    never_returns k pc f r is =
        let h = has_mark 0 k pc f r in
        let s = stands_at 0 k pc f r in
        let first = kept.first in
        let same : first.0 ≡ h.unit = ap (λ m. m.unit) (same_Some _ _ (sym first.1 ∙ h.enters)) in
        true≢false (sym first.2 ∙ ap main same ∙ s.kept.returns (same_instruction pc _ _ s is))

    in_range : (pc : ℕ) (i : Instruction) → slice_get code pc ≡ Some i → is_in_range code plans units pc i ≡ true
    in_range pc i is =
        let m = kept.marked pc i is in
        let s = kept.each pc m.0 m.1 in
        subst (λ j. is_in_range code plans units pc j ≡ true) (same_instruction pc m.0 i s is) s.kept.range

    one_fact : (entry other k j pc : ℕ) (f g : Fact) → IsReached code entry k pc f → IsReached code other j pc g → f ≡ g
    one_fact entry other k j pc f g r q =
        ap (λ m. m.fact) (same_Some _ _ (sym (has_mark entry k pc f r).here ∙ (has_mark other j pc g q).here))

    pub is_valid : IsValid code plans units
    is_valid = record {
      begins = kept.begins;
      ranges = in_range;
      finds = λ entry k pc f r. let s = stands_at entry k pc f r in record { instruction = s.instruction; stands = s.stands; behind = s.kept.behind; gives = s.kept.gives };
      one = one_fact;
      returns = never_returns;
      depth = λ entry. depth_of (slice_get marks entry);
      depths = record { within = λ entry. within (slice_get marks entry); falls = calls_deeper };
    }
