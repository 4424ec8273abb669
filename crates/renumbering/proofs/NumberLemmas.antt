-- The numbers of storage units do not matter to a run of a program of sound units of FORTRAN.
use Rattle.std.proofs.Common.{◌≡◌, ◌<◌, ℕ, suc, Bool, true, false, List, [], Some, refl, sym, ap, ◌∙◌, subst, arith}
use Rattle.std.specs.Prelude.{nat_lt, ⊤}
use Rattle.std.specs.List.{All, slice_get}
use Rattle.std.proofs.lemmas.Bool.{ltb-true, ltb-false}
use Rattle.std.proofs.lemmas.List.Elements.{All-weaker}
use Rattle.std.proofs.lemmas.Option.{slice_get_within, get_or_from_slice_get}
use Rattle.ground.specs.declared.fault.FaultKind.TheVariants.{MainCount, TypeClash}
use Rattle.f66_tree.specs.Syntax.{Routine}
use Rattle.f66_tree.specs.World.{Out, Gives, Halts, shown}
use Rattle.f66_tree.specs.Units.{is_main, Linkage}
use Rattle.f66_tree.specs.Execution.{stand, no_loops, nowhere, first_state, exec}
use Rattle.f66_check.specs.Answers.{IsSoundUnit}
use Rattle.f66_program.specs.Linking.{Program, second, at_part, first_of, IsLinkage}
use Rattle.renumbering.specs.Laws.{IsMatched, WholeIsMatched, NumbersAlone}
use Rattle.renumbering.specs.Placed.{IsPlaced}
use Rattle.renumbering.proofs.PairLemmas.{Twins, Mates, Any}
use Rattle.renumbering.proofs.RunLemmas.{exec_pairs}
use Rattle.renumbering.proofs.SoundLemmas.{sound_placed}
use Rattle.renumbering.proofs.ProgramLemmas.{twins, codes_named, first_agree}

pub shown_same : (t : Twins) (o1 o2 : Out ⊤) → Mates t Any o1 o2 → shown o1 ≡ shown o2
shown_same t (Gives a w) o2 h = ap shown (sym h.1.2)
shown_same t (Halts e w) o2 h = ap shown (sym h.1)

pub placed_at : (rs : List Routine) → All IsPlaced rs → (u : ℕ) (r : Routine) → slice_get rs u ≡ Some r → IsPlaced r
placed_at rs placed u r here = subst IsPlaced (get_or_from_slice_get rs u r r here) (placed u r (slice_get_within rs u r here))

-- sound units are placed
pub all_placed : (rs : List Routine) → All IsSoundUnit rs → All IsPlaced rs
all_placed rs sound = All-weaker IsSoundUnit IsPlaced sound_placed rs sound

-- there is one main
module _ (p : Program) (matched : IsMatched p) where
  not_both : (u v : ℕ) (r s : Routine) → slice_get p.units u ≡ Some r → slice_get p.units v ≡ Some s → is_main r.header ≡ true → is_main s.header ≡ true → ¬ (u < v)
  not_both u v r s here there first other less = matched.one_main (at_part v (first_of s)) (second u v r s here there less first other refl)

  pub main_same : (l m : Linkage) → IsLinkage p.units l → IsLinkage p.units m → l.main ≡ m.main
  main_same l m first other =
      let a = first.main in
      let b = other.main in
      let below = not_both l.main m.main a.0 b.0 a.1 b.1 a.2 b.2 in
      let above = not_both m.main l.main b.0 a.0 b.1 a.1 b.2 a.2 in
      by_order (nat_lt l.main m.main) refl (nat_lt m.main l.main) refl below above
    where
      by_order : (x : Bool) → nat_lt l.main m.main ≡ x → (y : Bool) → nat_lt m.main l.main ≡ y → ¬ (l.main < m.main) → ¬ (m.main < l.main) → l.main ≡ m.main
      by_order true e y d below above = absurd (below (ltb-true l.main m.main e))
      by_order false e true d below above = absurd (above (ltb-true m.main l.main d))
      by_order false e false d below above = let i = ltb-false l.main m.main e in let j = ltb-false m.main l.main d in omega (arith, i, j)

pub whole_is_matched : WholeIsMatched
whole_is_matched p whole = record { one_main = whole.clean MainCount; agree = whole.clean TypeClash }

pub numbers_alone : NumbersAlone
numbers_alone p sound matched l m first other codes are input n =
    let at = placed_at p.units (all_placed p.units sound) in
    let t = twins p at matched l m first other in
    let start = codes_named p at matched l m first other codes are l.main (first.main.0, first.main.1) in
    shown_same t _ _
    ((exec_pairs t codes (codes_named p at matched l m first other codes are) (suc n) (record { unit = l.main; actuals = []; place = nowhere }) (record { inside = (first.main.0, first.main.1); actuals = tt }) (codes l.main) start no_loops).run
    (record { state = first_state l input; left = n; count = 0 }) m.first (first_agree p at matched l m first other))
    ∙ ap (λ u. shown (exec m codes (suc n) (record { unit = u; actuals = []; place = nowhere }) (stand (codes u) no_loops) (record { state = first_state m input; left = n; count = 0 }))) (main_same p matched l m first other)
