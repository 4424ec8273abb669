-- The units of an accepted program are a program of what it means.
use Rattle.std.proofs.Common.{◌≡◌, ◌≤◌, ◌<◌, ℕ, arith, List, [], ◌∷◌, length, map, Option, Some, None, refl, ap, ◌∙◌}
use Rattle.std.specs.Prelude.{All}
use Rattle.std.specs.List.{slice_get}
use Rattle.std.proofs.lemmas.List.Elements.{All-nil, All-cons, All-head, All-tail}
use Rattle.ground.specs.declared.place.Place.{Place}
use Rattle.f66_tree.specs.declared.unit.Unit.{Unit as AUnit}
use Rattle.f66_tree.specs.Syntax.{Line, Routine}
use Rattle.f66_tree.specs.Views.{routine_of}
use Rattle.f66_tree.specs.Execution.{f66}
use Rattle.f66_check.specs.Answers.{IsSoundUnit}
use Rattle.ground.specs.declared.fault.FaultKind.TheVariants.{MainCount}
use Rattle.f66_program.specs.Linking.{IsWhole, at_part, none}
use Rattle.linked_soundness.specs.Laws.{AreCodes}
use Rattle.rat_tree.specs.Syntax.{RatRoutine, RatProgram}
use Rattle.rat_check.specs.FirstFault.{or_else, first_fault_of}
use Rattle.rat_link.specs.Linking.{IsClean, AreClean, IsAccepted}
use Rattle.rat_lower.specs.Served.{AllServe}
use Rattle.front.specs.Checked.{Meaning, Means}
use Rattle.front.specs.Ratfor.{IsJudged}
use Rattle.front.specs.Programs.{IsProgramOf, PassWhereServed}
use Rattle.front.specs.Laws.{UnitsServe}

-- no unit has a fault by itself
pub no_first : (us : List RatRoutine) → AreClean us → first_fault_of us ≡ None
no_first [] h = refl
no_first (u ∷ us) h = ap (λ o. or_else o (first_fault_of us)) (All-head IsClean u us h).rules ∙ no_first us (All-tail IsClean u us h)

pub all_sound : (us : List RatRoutine) (finish : Place) (made : List AUnit) → AllServe us finish made → All IsSoundUnit (map routine_of made)
all_sound [] finish [] h = All-nil IsSoundUnit
all_sound [] finish (m ∷ made) h = absurd h
all_sound (u ∷ us) finish [] h = absurd h
all_sound (u ∷ us) finish (m ∷ made) h = All-cons IsSoundUnit (routine_of m) (map routine_of made) h.0.sound (all_sound us finish made h.1)

abbrev lines_if_any : Option Routine → List Line
lines_if_any None = []
lines_if_any (Some r) = r.lines

-- units that link have a main, and so there are some
some_units : (made : List AUnit) (finish : Place) → IsWhole (record { units = map routine_of made; finish = finish }) → 0 < length made
some_units [] finish whole = absurd (whole.clean MainCount (at_part 0 0) (none (λ r c. absurd (let lt = c.1 in omega (arith, lt))) refl))
some_units (m ∷ made) finish whole = omega arith

pub units_program : UnitsServe → (p : RatProgram) (made : List AUnit) → length p.routines ≤ 500 → IsAccepted p → AllServe p.routines p.finish made → PassWhereServed p → (meaning : Meaning) × IsJudged p (Means meaning) × IsProgramOf meaning (record { units = map routine_of made; finish = p.finish })
units_program serve p made few accepted all pass =
    let units : List Routine = map routine_of made in
    let s = serve p made few accepted all in
    let codes : ℕ → List Line = λ u. lines_if_any (slice_get units u) in
    let coded : AreCodes units codes = λ u r e. ap lines_if_any e in
    let d = s.same s.linkage s.links codes coded in (
      d.meaning,
      (accepted, d.means),
      record {
        sound = all_sound p.routines p.finish made all;
        run = f66 s.linkage codes;
        linked = record { well = s.well; whole = s.whole; linkage = s.linkage; links = s.links; codes = codes; of = coded; is = refl };
        agrees = d.agrees;
        found = d.found;
        printable = s.printable;
        passes = pass made (some_units made p.finish s.whole) all;
      },
    )
