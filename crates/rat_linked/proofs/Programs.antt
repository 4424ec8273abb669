-- All units of a program.
use Rattle.std.proofs.Common.{◌≡◌, ◌≤◌, ◌+◌, ℕ, suc, List, [], ◌∷◌, length, map, get_or, refl, sym, ap, subst, arith}
use Rattle.std.specs.List.{All, AllZip}
use Rattle.std.proofs.lemmas.List.Elements.{All-map, All-nil, All-cons, All-head, All-tail}
use Rattle.ground.specs.declared.place.Place.{Place}
use Rattle.f66_tree.specs.Syntax.{Routine}
use Rattle.f66_program.specs.Association.{IsBadUnit, HasUnits}
use Rattle.f66_program.specs.Linking.{IsWhole}
use Rattle.rat_tree.specs.Syntax.{RatRoutine}
use Rattle.rat_said.specs.Said.{said_routine}
use Rattle.spared_units.specs.Spared.{Pair, said_units, made_units}
use Rattle.spared_units.proofs.Wholes.{spared_is_well, spared_is_whole}
use Rattle.rat_linked.specs.Made.{IsMadeOf}
use Rattle.rat_linked.specs.Laws.{MadeAreWell, MadeAreWhole}
use Rattle.rat_linked.proofs.Units.{pair}

-- each unit with the one that it became
pub record Paired (us : List RatRoutine) (rs : List Routine) : Type 0 where
  pub pairs : List Pair
  pub said : said_units pairs ≡ map said_routine us
  pub made : made_units pairs ≡ rs
  pub many : length pairs ≡ length us

unfoldable pub paired : (us : List RatRoutine) (rs : List Routine) → AllZip IsMadeOf us rs → Paired us rs
paired [] [] h = record { pairs = []; said = refl; made = refl; many = refl }
paired [] (r ∷ rs) h = absurd h
paired (u ∷ us) [] h = absurd h
paired (u ∷ us) (r ∷ rs) h =
    let k = paired us rs h.1 in
    record { pairs = pair u r h.0 ∷ k.pairs; said = ap (λ ss. said_routine u ∷ ss) k.said; made = ap (λ ss. r ∷ ss) k.made; many = ap suc k.many }

module _ (us : List RatRoutine) (rs : List Routine) (h : AllZip IsMadeOf us rs) (well : All (λ r. ¬ IsBadUnit r) (map said_routine us)) where
  abbrev k : Paired us rs
  k = paired us rs h

  each_well : (ps : List Pair) → All (λ r. ¬ IsBadUnit r) (said_units ps) → All (λ p. ¬ IsBadUnit p.said) ps
  each_well [] w = All-nil (λ p. ¬ IsBadUnit p.said)
  each_well (p ∷ ps) w = All-cons (λ p. ¬ IsBadUnit p.said) p ps (All-head (λ r. ¬ IsBadUnit r) p.said (said_units ps) w) (each_well ps (All-tail (λ r. ¬ IsBadUnit r) p.said (said_units ps) w))

  said_well : All (λ p. ¬ IsBadUnit p.said) k.pairs
  said_well = each_well k.pairs (subst (All (λ r. ¬ IsBadUnit r)) (sym k.said) well)

  all_well : All (λ r. ¬ IsBadUnit r) rs
  all_well = subst (All (λ r. ¬ IsBadUnit r)) k.made (All-map (λ r. ¬ IsBadUnit r) (λ p. p.made) k.pairs (λ i d lt. spared_is_well (get_or k.pairs i d) (said_well i d lt)))

  all_whole : (finish : Place) (total : ℕ) → HasUnits (map said_routine us) total → total + length us ≤ 2000000 → IsWhole (record { units = map said_routine us; finish = finish }) → IsWhole (record { units = rs; finish = finish })
  all_whole finish total has room whole =
      let many = k.many in
      subst (λ ss. IsWhole (record { units = ss; finish = finish })) k.made
      (spared_is_whole k.pairs finish total said_well (subst (λ ss. HasUnits ss total) (sym k.said) has) (omega (arith, room, many))
      (subst (λ ss. IsWhole (record { units = ss; finish = finish })) (sym k.said) whole))

pub made_are_well : MadeAreWell
made_are_well us rs h well = all_well us rs h well

pub made_are_whole : MadeAreWhole
made_are_whole us rs finish total h well has room whole = all_whole us rs h well finish total has room whole
