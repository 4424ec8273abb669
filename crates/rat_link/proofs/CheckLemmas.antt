-- Units without a fault so far, and refusals.
use Rattle.std.proofs.Common.{◌≡◌, ◌<◌, ◌≤◌, ◌+◌, ◌++◌, take, inl, inr, ℕ, true, false, true≢false, List, [], ◌∷◌, length, map, get_or, Some, sym, ap, ◌∙◌, subst, arith}
use Rattle.std.specs.List.{All, slice_get}
use Rattle.std.proofs.lemmas.Bool.{cases_lt}
use Rattle.std.proofs.lemmas.List.{get_or-map, length-map, map-append, take_more}
use Rattle.std.proofs.lemmas.List.Elements.{All-map}
use Rattle.std.proofs.lemmas.Option.{slice_get-get_or}
use Rattle.ground.specs.declared.fault.Refusal.{Refusal}
use Rattle.ground.specs.declared.fault.Refusal.TheVariants as refusals
use Rattle.f66_tree.specs.declared.unit.Unit.{Unit as AUnit}
use Rattle.f66_tree.specs.Syntax.{Routine}
use Rattle.f66_tree.specs.Views.{routine_of}
use Rattle.f66_program.specs.Association.{IsBadUnit}
use Rattle.f66_program.specs.Linking.{Program}
use Rattle.storage_assoc.specs.Associating.{IsBadFault, IsRightRefusal}
use Rattle.storage_assoc.specs.Naming.{IsReady}
use Rattle.whole_program.specs.Linked.{IsLinkRefusal}
use Rattle.rat_tree.specs.declared.program.RatUnit.{RatUnit}
use Rattle.rat_tree.specs.Syntax.{RatRoutine, RatProgram}
use Rattle.rat_tree.specs.Views.{rat_routine_of}
use Rattle.rat_said.specs.Said.{said_routine, said_program}
use Rattle.program_storage.specs.Limits.{HaveAtMost}
use Rattle.rat_link.specs.Linking.{IsClean, IsUnitFault, IsFirstUnitFault, AreClean, IsLinkFault, IsFirstFaultOf, IsRefusalBy, IsTextLimit, is_limit_kind, is_limit_refusal, most_of_text}
use Rattle.rat_link.proofs.ReadyLemmas.{said_is_ready}

-- ---- one unit ----

pub limit_well : (r : Routine) (e : Refusal) → IsRightRefusal r e → is_limit_refusal e ≡ true → ¬ IsBadUnit r
limit_well r (refusals.Fault f) (inl b) k = absurd (true≢false (sym k ∙ ap is_limit_kind b.kind))
limit_well r (refusals.Fault f) (inr l) k = l.well
limit_well r refusals.Memory h k = absurd (true≢false (sym k))

pub bad_refusal : (r : Routine) (e : Refusal) → IsRightRefusal r e → is_limit_refusal e ≡ false → IsRefusalBy (IsBadFault r) e
bad_refusal r (refusals.Fault f) (inl b) k = b
bad_refusal r (refusals.Fault f) (inr l) k = absurd (true≢false (sym (ap is_limit_kind l.kind) ∙ k))
bad_refusal r refusals.Memory h k = tt

-- ---- units ----

module _ (us : List RatRoutine) (i : ℕ) (u : RatRoutine) (here : slice_get us i ≡ Some u) (before : (v : ℕ) (w : RatRoutine) → v < i → slice_get us v ≡ Some w → IsClean w) where
  pub one_more : IsClean u → (v : ℕ) (w : RatRoutine) → v < i + 1 → slice_get us v ≡ Some w → IsClean w
  one_more f v w lt there = elim (cases_lt v i) [
    | inl l ↦ before v w l there
    | inr l ↦
        let at : i ≡ v = omega (arith, lt, l) in
        let e : Some u ≡ Some w = sym here ∙ ap (slice_get us) at ∙ there in
        let same : u ≡ w = cc in
        subst IsClean same f
  ]

  pub first_refusal : (e : Refusal) → IsRefusalBy (IsUnitFault u) e → IsRefusalBy (IsFirstUnitFault us) e
  first_refusal (refusals.Fault f) h = record { number = i; unit = u; here = here; fault = h; earlier = before }
  first_refusal refusals.Memory h = tt

pub all_clean : (us : List RatRoutine) (n : ℕ) → length us ≤ n → ((v : ℕ) (w : RatRoutine) → v < n → slice_get us v ≡ Some w → IsClean w) → AreClean us
all_clean us n e h = λ k d lt. h k (get_or us k d) (omega (arith, e, lt)) (slice_get-get_or us k d lt)

-- what one unit more says
pub said_more : (units : List RatUnit) (i : ℕ) (u : RatUnit) → i < length units → u ≡ get_or units i u →
    map said_routine (map rat_routine_of (take (i + 1) units)) ≡ map said_routine (map rat_routine_of (take i units)) ++ said_routine (rat_routine_of u) ∷ []
said_more units i u lt is =
    ap (map said_routine) (ap (map rat_routine_of) (take_more units i u lt ∙ ap (λ y. take i units ++ y ∷ []) (sym is)) ∙ map-append rat_routine_of (take i units) (u ∷ []))
    ∙ map-append said_routine (map rat_routine_of (take i units)) (rat_routine_of u ∷ [])

pub one_said : (said : List AUnit) (one : AUnit) (units : List RatUnit) (i : ℕ) (u : RatUnit) → i < length units → u ≡ get_or units i u → map routine_of said ≡ map said_routine (map rat_routine_of (take i units)) →
    routine_of one ≡ said_routine (rat_routine_of u) → map routine_of (said ++ one ∷ []) ≡ map said_routine (map rat_routine_of (take (i + 1) units))
one_said said one units i u lt is e f =
    map-append routine_of said (one ∷ []) ∙ ap (λ rs. rs ++ routine_of one ∷ []) e ∙ ap (λ r. map said_routine (map rat_routine_of (take i units)) ++ r ∷ []) f
    ∙ sym (said_more units i u lt is)

-- ---- a program ----

pub unmapped : {X Y : Type 0} (P : Y → Type 0) (f : X → Y) (xs : List X) → All P (map f xs) → All (λ x. P (f x)) xs
unmapped P f xs h = λ k d lt. (let many = length-map xs f in subst P (get_or-map f xs k d (f d) lt) (h k (f d) (omega (arith, lt, many))))

module _ (said : List AUnit) (us : List RatRoutine) (e : map routine_of said ≡ map said_routine us) (clean : AreClean us) where
  each : (P : Routine → Type 0) → ((u : RatRoutine) → IsClean u → P (said_routine u)) → All (λ s. P (routine_of s)) said
  each P f = unmapped P routine_of said (subst (All P) (sym e) (All-map P said_routine us (λ k d lt. f (get_or us k d) (clean k d lt))))

  pub ready_units : All (λ s. IsReady (routine_of s)) said
  ready_units = each IsReady (λ u c. said_is_ready u c.rules)

  pub well_units : All (λ s. ¬ IsBadUnit (routine_of s)) said
  well_units = each (λ r. ¬ IsBadUnit r) (λ u c. c.well)

-- ---- linking ----

pub limit_refusal : (p : Program) (e : Refusal) → IsRefusalBy (IsTextLimit p) e → IsRefusalBy (IsLinkFault p) e
limit_refusal p (refusals.Fault f) h = inl h
limit_refusal p refusals.Memory h = tt

pub link_refusal : (p : Program) → HaveAtMost most_of_text p.units → (e : Refusal) → IsLinkRefusal p e → IsRefusalBy (IsLinkFault p) e
link_refusal p few (refusals.Fault f) h = inr (few, h)
link_refusal p few refusals.Memory h = tt

-- the fault of the units of a program, or of linking them
pub units_refusal : (p : RatProgram) (e : Refusal) → IsRefusalBy (IsFirstUnitFault p.routines) e → IsRefusalBy (IsFirstFaultOf p) e
units_refusal p (refusals.Fault f) h = inl h
units_refusal p refusals.Memory h = tt

pub program_refusal : (p : RatProgram) → AreClean p.routines → (e : Refusal) → IsRefusalBy (IsLinkFault (said_program p)) e → IsRefusalBy (IsFirstFaultOf p) e
program_refusal p clean (refusals.Fault f) h = inr (clean, h)
program_refusal p clean refusals.Memory h = tt
