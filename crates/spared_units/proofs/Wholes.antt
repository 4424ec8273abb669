-- A program of units with spare variables is whole where the other is, and there is room for the spare variables.
use Rattle.std.proofs.Common.{inl, inr, suc, get_or, subst, arith}
use Rattle.std.specs.List.{All}
use Rattle.std.proofs.lemmas.List.Elements.{All-map}
use Rattle.ground.specs.declared.fault.FaultKind.{FaultKind}
use Rattle.f66_program.specs.Association.{AreBad, IsBadUnit}
use Rattle.f66_program.specs.Linking.{Part, Breaks, IsTooLarge}
use Rattle.spared_units.specs.Spared.{made_units}
use Rattle.spared_units.specs.Laws.{SparedIsWell, SparedIsWhole}
use Rattle.spared_units.proofs.Units.{same_ties}
use Rattle.spared_units.proofs.Rules.{broken}
use Rattle.spared_units.proofs.Limit.{few_units}

pub spared_is_well : SparedIsWell
spared_is_well p good bad = good (subst AreBad (same_ties p.spare p.said p.made p.spared 0) bad)

pub spared_is_whole : SparedIsWhole
spared_is_whole ps finish total good has room whole = record { clean = clean }
  where
    well : All (λ r. ¬ IsBadUnit r) (made_units ps)
    well = All-map (λ r. ¬ IsBadUnit r) (λ p. p.made) ps (λ i d lt. spared_is_well (get_or ps i d) (good i d lt))

    small : (q : Part) → IsTooLarge (record { units = made_units ps; finish = finish }) q → ⊥
    small q l =
        let few = few_units ps well (suc q.unit) l.total total l.has.0 has.0 l.has.1 has.1 in
        let more = l.large in
        omega (arith, few, more, room)

    clean : (k : FaultKind) (q : Part) → ¬ Breaks k (record { units = made_units ps; finish = finish }) q
    clean k q h = elim (broken ps finish k q h) [
      | inl b ↦ whole.clean k b.0 b.1
      | inr e ↦ small q (subst (λ j. Breaks j (record { units = made_units ps; finish = finish }) q) e h)
    ]
