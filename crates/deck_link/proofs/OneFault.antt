-- A deck has at most one first fault, and units that link have none.
use Rattle.std.proofs.Common.{◌≡◌, ℕ, zero, suc, List, [], ◌∷◌, Option, Some, Ok, Err, inl, inr, refl, sym, ap, ◌∙◌, subst, arith}
use Rattle.std.specs.Prelude.{◌==◌, find}
use Rattle.std.specs.List.{slice_get}
use Rattle.ground.specs.declared.fault.Fault.{Fault}
use Rattle.rule_table.specs.declared.rule.Rule.{Rule}
use Rattle.rule_table.specs.declared.rule.Rule.TheVariants.{Syntax, NameTooLong, OutOfProfileType, TypeClash, WrongCount, DuplicateName, BadLabel, BadBreak, DuplicateCase, BadConstant, DoNesting, BadFormat, NotAssignable, LargeArray, LongText, Unbuilt}
use Rattle.rule_table.specs.FaultRules.{rule_number, rules, fault_of}
use Rattle.rule_table.proofs.FirstLemmas.{first_unique}
use Rattle.f66_tree.specs.Syntax.{Routine}
use Rattle.f66_flow.specs.declared.scope.Scope.TheVariants.{Whole}
use Rattle.f66_soundness.proofs.KindLemmas.{some_same}
use Rattle.f66_check.specs.Answers.{place_at}
use Rattle.f66_check.specs.UnitChecks.{breaks_unit}
use Rattle.f66_program.specs.Association.{HasUnits}
use Rattle.f66_program.specs.Linking.{Program}
use Rattle.f66_program.proofs.CountLemmas.{one_count}
use Rattle.storage_assoc.specs.Associating.{IsLimitFault}
use Rattle.one_fault.proofs.SameFaults.{one_number, same_fault}
use Rattle.one_fault.proofs.BadFaults.{one_bad_fault, bad_is_whole}
use Rattle.one_fault.proofs.LinkFaults.{one_link_fault}
use Rattle.associated_units.specs.Fit.{IsFit}
use Rattle.deck_reader.specs.Units.{Units}
use Rattle.deck_link.specs.Units.{IsClean, IsRuleFault, IsUnitFault, IsFirstUnitFault}
use Rattle.deck_link.specs.Linking.{AreClean, IsFirstFaultOf}
use Rattle.deck_link.specs.Laws.{AcceptedHasNone, OneFirstFault}

-- ---- the rules of one unit ----

-- the rule of each number
abbrev numbered : ℕ → Option Rule
numbered n = find (λ r. rule_number r == n) rules

rule_numbered : (r : Rule) → numbered (rule_number r) ≡ Some r
rule_numbered Syntax = refl
rule_numbered NameTooLong = refl
rule_numbered OutOfProfileType = refl
rule_numbered TypeClash = refl
rule_numbered WrongCount = refl
rule_numbered DuplicateName = refl
rule_numbered BadLabel = refl
rule_numbered BadBreak = refl
rule_numbered DuplicateCase = refl
rule_numbered BadConstant = refl
rule_numbered DoNesting = refl
rule_numbered BadFormat = refl
rule_numbered NotAssignable = refl
rule_numbered LargeArray = refl
rule_numbered LongText = refl
rule_numbered Unbuilt = refl

one_rule : (k l : Rule) → rule_number k ≡ rule_number l → k ≡ l
one_rule k l e = some_same (sym (rule_numbered k) ∙ ap numbered e ∙ rule_numbered l)

one_rule_fault : (r : Routine) (f g : Fault) → IsRuleFault r f → IsRuleFault r g → f ≡ g
one_rule_fault r f g a b =
    let first = a.first.first in
    let other = b.first.first in
    let one = first_unique rule_number (breaks_unit Whole r) a.part b.part first.0 other.0 first.1 other.1 in
    let place : f.place ≡ g.place = some_same (sym a.first.place ∙ ap (place_at r) one.0 ∙ b.first.place) in
    first.2 ∙ ap (λ p. fault_of p first.0) place ∙ ap (fault_of g.place) (one_rule first.0 other.0 one.1) ∙ sym other.2

-- ---- one unit ----

same_total : (r : Routine) (m n : ℕ) → HasUnits (r ∷ []) m → HasUnits (r ∷ []) n → m ≡ n
same_total r m n h k = one_count (r ∷ []) h.0 k.0 m n h.1 k.1

not_large : (r : Routine) (f : Fault) → IsFit r → IsLimitFault r f → ⊥
not_large r f fit limit =
    let one = same_total r fit.total limit.total fit.has limit.has in
    let few = fit.few in
    let large = limit.large in
    omega (arith, one, few, large)

one_limit_fault : (r : Routine) (f g : Fault) → IsLimitFault r f → IsLimitFault r g → f ≡ g
one_limit_fault r f g a b = same_fault f g (a.kind ∙ sym b.kind) (some_same (sym a.place ∙ b.place)) (a.number ∙ sym b.number)

one_unit_fault : (r : Routine) (f g : Fault) → IsUnitFault r f → IsUnitFault r g → f ≡ g
one_unit_fault r f g (inl a) (inl b) = one_rule_fault r f g a b
one_unit_fault r f g (inl a) (inr (sound, b)) = absurd (a.unsound sound)
one_unit_fault r f g (inr (sound, a)) (inl b) = absurd (b.unsound sound)
one_unit_fault r f g (inr (sound, inl a)) (inr (other, inl b)) = one_bad_fault r f g a b
one_unit_fault r f g (inr (sound, inl a)) (inr (other, inr b)) = absurd (b.well (bad_is_whole r f a))
one_unit_fault r f g (inr (sound, inr a)) (inr (other, inl b)) = absurd (a.well (bad_is_whole r g b))
one_unit_fault r f g (inr (sound, inr a)) (inr (other, inr b)) = one_limit_fault r f g a b

clean_has_none : (r : Routine) (f : Fault) → IsClean r → IsUnitFault r f → ⊥
clean_has_none r f clean (inl rule) = rule.unsound clean.sound
clean_has_none r f clean (inr (sound, inl bad)) = clean.fit.well (bad_is_whole r f bad)
clean_has_none r f clean (inr (sound, inr limit)) = not_large r f clean.fit limit

-- ---- units ----

clean_at : (rs : List Routine) (i : ℕ) (r : Routine) → AreClean rs → slice_get rs i ≡ Some r → IsClean r
clean_at [] i r clean e = absurd (let q = e in cc)
clean_at (s ∷ rs) zero r clean e = subst IsClean (some_same e) clean.0
clean_at (s ∷ rs) (suc i) r clean e = clean_at rs i r clean.1 e

clean_have_none : (rs : List Routine) (f : Fault) → AreClean rs → IsFirstUnitFault rs f → ⊥
clean_have_none rs f clean first = clean_has_none first.unit f (clean_at rs first.number first.unit clean first.here) first.fault

module _ (rs : List Routine) (f g : Fault) (a : IsFirstUnitFault rs f) (b : IsFirstUnitFault rs g) where
  one_unit : a.number ≡ b.number
  one_unit = one_number a.number b.number (λ lt. clean_has_none a.unit f (b.earlier a.number a.unit lt a.here) a.fault) (λ lt. clean_has_none b.unit g (a.earlier b.number b.unit lt b.here) b.fault)

  one_of_units : f ≡ g
  one_of_units =
      let same : a.unit ≡ b.unit = some_same (sym a.here ∙ ap (slice_get rs) one_unit ∙ b.here) in
      one_unit_fault b.unit f g (subst (λ r. IsUnitFault r f) same a.fault) b.fault

one_of_program : (p : Program) (f g : Fault) → IsFirstFaultOf p f → IsFirstFaultOf p g → f ≡ g
one_of_program p f g (inl a) (inl b) = one_of_units p.units f g a b
one_of_program p f g (inl a) (inr b) = absurd (clean_have_none p.units f b.0 a)
one_of_program p f g (inr a) (inl b) = absurd (clean_have_none p.units g a.0 b)
one_of_program p f g (inr a) (inr b) = one_link_fault p f g a.1 b.1

pub one_first_fault : OneFirstFault
one_first_fault (Err told) finish f g a b = sym a ∙ b
one_first_fault (Ok units) finish f g a b = one_of_program (record { units = units; finish = finish }) f g a b

pub accepted_has_none : AcceptedHasNone
accepted_has_none p f accepted (inl first) = clean_have_none p.units f accepted.units first
accepted_has_none p f accepted (inr link) = accepted.whole.clean f.kind link.1.part link.1.broken
