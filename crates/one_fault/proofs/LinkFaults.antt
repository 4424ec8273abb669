-- Units have one first fault of linking: one rule that goes before all others that are broken, and one part that breaks it first.
use Rattle.std.proofs.Common.{◌≡◌, inl, inr, ℕ, zero, suc, refl, sym, ap, ◌∙◌, subst}
use Rattle.ground.specs.declared.fault.Fault.{Fault}
use Rattle.ground.specs.declared.fault.FaultKind.{FaultKind}
use Rattle.ground.specs.declared.fault.FaultKind.TheVariants.{DuplicateUnit, MainCount, MissingUnit, TypeClash, WrongCount, Recursion, CommonMismatch, InitialTwice, Limit}
use Rattle.f66_soundness.proofs.KindLemmas.{some_same}
use Rattle.f66_program.specs.Linking.{Program, Part, IsEarlier, place_in, Breaks, rank, limit_number, IsFirstFault}
use Rattle.one_fault.specs.Laws.{OneLinkFault}
use Rattle.one_fault.proofs.SameFaults.{one_number, same_fault}

-- the rule of each rank
abbrev ranked : ℕ → FaultKind
ranked zero = DuplicateUnit
ranked (suc zero) = MainCount
ranked (suc (suc zero)) = MissingUnit
ranked (suc (suc (suc zero))) = TypeClash
ranked (suc (suc (suc (suc zero)))) = WrongCount
ranked (suc (suc (suc (suc (suc zero))))) = Recursion
ranked (suc (suc (suc (suc (suc (suc zero)))))) = CommonMismatch
ranked (suc (suc (suc (suc (suc (suc (suc zero))))))) = InitialTwice
ranked _ = Limit

ranked_broken : (k : FaultKind) (p : Program) (q : Part) → Breaks k p q → ranked (rank k) ≡ k
ranked_broken DuplicateUnit p q h = refl
ranked_broken MainCount p q h = refl
ranked_broken MissingUnit p q h = refl
ranked_broken TypeClash p q h = refl
ranked_broken WrongCount p q h = refl
ranked_broken Recursion p q h = refl
ranked_broken CommonMismatch p q h = refl
ranked_broken InitialTwice p q h = refl
ranked_broken Limit p q h = refl
ranked_broken _ p q h = absurd h

one_part : (p q : Part) → ¬ IsEarlier p q → ¬ IsEarlier q p → p ≡ q
one_part p q below above =
    let unit : p.unit ≡ q.unit = one_number p.unit q.unit (λ lt. below (inl lt)) (λ lt. above (inl lt)) in
    let part : p.part ≡ q.part = one_number p.part q.part (λ lt. below (inr (unit, lt))) (λ lt. above (inr (sym unit, lt))) in
    λ i. record { unit = unit i; part = part i }

module _ (p : Program) (f g : Fault) (a : IsFirstFault p f) (b : IsFirstFault p g) where
  one_rank : rank f.kind ≡ rank g.kind
  one_rank = one_number (rank f.kind) (rank g.kind) (λ lt. b.rules f.kind a.part lt a.broken) (λ lt. a.rules g.kind b.part lt b.broken)

  one_kind : f.kind ≡ g.kind
  one_kind = sym (ranked_broken f.kind p a.part a.broken) ∙ ap ranked one_rank ∙ ranked_broken g.kind p b.part b.broken

  one_place : a.part ≡ b.part
  one_place =
      one_part a.part b.part (λ e. b.parts a.part e (subst (λ k. Breaks k p a.part) one_kind a.broken)) (λ e. a.parts b.part e (subst (λ k. Breaks k p b.part) (sym one_kind) b.broken))

  one_of_rules : f ≡ g
  one_of_rules = same_fault f g one_kind (some_same (sym a.place ∙ ap (place_in p) one_place ∙ b.place)) (a.limit ∙ ap limit_number one_kind ∙ sym b.limit)

pub one_link_fault : OneLinkFault
one_link_fault = one_of_rules
