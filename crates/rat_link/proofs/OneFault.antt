-- A program of Ratfor has at most one first fault, and none where it is accepted.
use Rattle.std.proofs.Common.{◌≡◌, inl, inr, suc, List, length, take, map, sym, ap, ◌∙◌, subst, arith}
use Rattle.std.specs.List.{All, slice_get}
use Rattle.std.proofs.lemmas.List.{take_all}
use Rattle.std.proofs.lemmas.List.Elements.{All-map}
use Rattle.std.proofs.lemmas.Option.{none-some, slice_get_within, get_or_from_slice_get}
use Rattle.ground.specs.declared.fault.Fault.{Fault}
use Rattle.f66_soundness.proofs.KindLemmas.{some_same}
use Rattle.f66_program.specs.Association.{IsBadUnit}
use Rattle.f66_program.specs.Linking.{Program, first_of, place_of_part}
use Rattle.one_fault.proofs.SameFaults.{one_number, same_fault}
use Rattle.one_fault.proofs.BadFaults.{one_bad_fault, bad_is_whole}
use Rattle.one_fault.proofs.LinkFaults as linking
use Rattle.rat_tree.specs.Syntax.{RatRoutine, RatProgram}
use Rattle.rat_said.specs.Said.{said_routine, said_program}
use Rattle.program_storage.specs.Limits.{HaveAtMost}
use Rattle.rat_link.specs.Linking.{IsClean, IsUnitFault, IsFirstUnitFault, most_of_text, IsTextLimit, IsLinkFault, AreClean, IsFirstFaultOf, IsAccepted}
use Rattle.program_storage.proofs.LimitLemmas.{small_earlier}

-- ---- the units one by one ----

one_unit_fault : (u : RatRoutine) (f g : Fault) → IsUnitFault u f → IsUnitFault u g → f ≡ g
one_unit_fault u f g (inl a) (inl b) = some_same (sym a ∙ b)
one_unit_fault u f g (inl a) (inr b) = absurd (none-some f (sym b.0 ∙ a))
one_unit_fault u f g (inr a) (inl b) = absurd (none-some g (sym a.0 ∙ b))
one_unit_fault u f g (inr a) (inr b) = one_bad_fault (said_routine u) f g a.1 b.1

none_of_clean : (u : RatRoutine) (f : Fault) → IsClean u → IsUnitFault u f → ⊥
none_of_clean u f clean (inl a) = none-some f (sym clean.rules ∙ a)
none_of_clean u f clean (inr a) = clean.well (bad_is_whole (said_routine u) f a.1)

module _ (us : List RatRoutine) (f g : Fault) (a : IsFirstUnitFault us f) (b : IsFirstUnitFault us g) where
  one_unit : a.number ≡ b.number
  one_unit = one_number a.number b.number (λ lt. none_of_clean a.unit f (b.earlier a.number a.unit lt a.here) a.fault) (λ lt. none_of_clean b.unit g (a.earlier b.number b.unit lt b.here) b.fault)

  one_of_units : f ≡ g
  one_of_units =
      let same : a.unit ≡ b.unit = some_same (sym a.here ∙ ap (slice_get us) one_unit ∙ b.here) in
      one_unit_fault b.unit f g (subst (λ u. IsUnitFault u f) same a.fault) b.fault

none_of_units : (us : List RatRoutine) (f : Fault) → AreClean us → IsFirstUnitFault us f → ⊥
none_of_units us f clean a =
    none_of_clean a.unit f (subst IsClean (get_or_from_slice_get us a.number a.unit a.unit a.here) (clean a.number a.unit (slice_get_within us a.number a.unit a.here))) a.fault

-- ---- the limit ----

module _ (p : Program) (well : All (λ r. ¬ IsBadUnit r) p.units) where
  none_of_few : HaveAtMost most_of_text p.units → (f : Fault) → IsTextLimit p f → ⊥
  none_of_few few f a =
      let n = length p.units in
      let inside = a.first.inside in
      let all : take (suc n) p.units ≡ p.units = take_all (suc n) p.units (omega arith) in
      small_earlier most_of_text p.units well a.unit n (omega (arith, inside)) (subst (HaveAtMost most_of_text) (sym all) few) a.first.large

  one_limit : (f g : Fault) → IsTextLimit p f → IsTextLimit p g → f ≡ g
  one_limit f g a b =
      let unit : a.unit ≡ b.unit = one_number a.unit b.unit (λ lt. b.first.earlier a.unit lt a.first.large) (λ lt. a.first.earlier b.unit lt b.first.large) in
      let routine : a.routine ≡ b.routine = some_same (sym a.here ∙ ap (slice_get p.units) unit ∙ b.here) in
      same_fault f g (a.kind ∙ sym b.kind) (some_same (sym a.place ∙ ap (λ r. place_of_part r (first_of r)) routine ∙ b.place)) (a.number ∙ sym b.number)

-- ---- linking ----

one_link_fault : (p : Program) → All (λ r. ¬ IsBadUnit r) p.units → (f g : Fault) → IsLinkFault p f → IsLinkFault p g → f ≡ g
one_link_fault p well f g (inl a) (inl b) = one_limit p well f g a b
one_link_fault p well f g (inl a) (inr b) = absurd (none_of_few p well b.0 f a)
one_link_fault p well f g (inr a) (inl b) = absurd (none_of_few p well a.0 g b)
one_link_fault p well f g (inr a) (inr b) = linking.one_link_fault p f g a.1 b.1

-- ---- a program ----

well_said : (us : List RatRoutine) → AreClean us → All (λ r. ¬ IsBadUnit r) (map said_routine us)
well_said us clean = All-map (λ r. ¬ IsBadUnit r) said_routine us (λ i d lt. (clean i d lt).well)

pub one_first_fault : (p : RatProgram) (f g : Fault) → IsFirstFaultOf p f → IsFirstFaultOf p g → f ≡ g
one_first_fault p f g (inl a) (inl b) = one_of_units p.routines f g a b
one_first_fault p f g (inl a) (inr b) = absurd (none_of_units p.routines f b.0 a)
one_first_fault p f g (inr a) (inl b) = absurd (none_of_units p.routines g a.0 b)
one_first_fault p f g (inr a) (inr b) = one_link_fault (said_program p) (well_said p.routines a.0) f g a.1 b.1

pub accepted_has_none : (p : RatProgram) (f : Fault) → IsAccepted p → IsFirstFaultOf p f → ⊥
accepted_has_none p f accepted (inl a) = none_of_units p.routines f accepted.units a
accepted_has_none p f accepted (inr (clean, inl a)) = none_of_few (said_program p) (well_said p.routines clean) accepted.linked.few f a
accepted_has_none p f accepted (inr (clean, inr a)) = accepted.linked.whole.clean f.kind a.1.part a.1.broken
