-- A main more is the first or the second one.
use Rattle.std.proofs.Common.{◌≡◌, ◌∙◌, length, map, Some, None, subst, sym, ap, arith}
use Rattle.std.specs.List.{slice_get}
use Rattle.std.proofs.lemmas.List.{length-map}
use Rattle.f66_tree.specs.Views.{routine_of}
use Rattle.linker.specs.Mains.{HasOneMain, HasNoMain}
use Rattle.linker.specs.Rules.{program_of}
use Rattle.linker.proofs.PartLemmas.{got_mapped, none_at_end}
use Rattle.linker.proofs.MainLemmas.{main_new, kept_as, second_main, one_main, no_main}
use Rattle.linker.proofs.mains.main_count.Goals as goal
use Rattle.linker.proofs.mains.main_count.Goals.{then-is_main+else-found, else-is_main}

pub returns-then-found : goal.returns-then-found
returns-then-found c =
    let units = c.args.units.now in
    let i = c.loop-unit.unit-index in
    let r = routine_of c.unit-item.result in
    let here = got_mapped routine_of units i c.unit-item.result c.loop-unit-test.true c.unit-item.is in
    let o : HasOneMain (map routine_of units) i = rw c.if-found.true at c.loop-unit.invariant in
    second_main (program_of units c.args.finish) i r o here (sym c.is_main.ensures ∙ c.if-is_main.true) c.fault_at.result c.fault_at.ensures.kind c.fault_at.ensures.number
    (c.first_place.ensures ∙ ap Some (sym c.fault_at.ensures.place))

pub loop-unit-preserved : goal.loop-unit-preserved
loop-unit-preserved c =
    let units = c.args.units.now in
    let i = c.loop-unit.unit-index in
    let r = routine_of c.unit-item.result in
    let rs = map routine_of units in
    let here = got_mapped routine_of units i c.unit-item.result c.loop-unit-test.true c.unit-item.is in
    elim c.if-is_main.branch [
      | then-is_main+else-found w ↦
          let o : HasNoMain rs i = rw w.if-found.false at c.loop-unit.invariant in
          rw w.found-is (main_new rs i r here (sym c.is_main.ensures ∙ w.if-is_main.true) o)
      | else-is_main w ↦ kept_as rs i r here c.loop-unit.found (sym c.is_main.ensures ∙ w.if-is_main.false) c.if-is_main.found w.found-is c.loop-unit.invariant
    ]

pub returns-then-found-2 : goal.returns-then-found-2
returns-then-found-2 c =
    let units = c.args.units.now in
    let n : c.loop-unit.unit-index ≡ length (map routine_of units) = grind (arith, length-map, c.loop-unit-test.false) in
    let o : HasOneMain (map routine_of units) c.loop-unit.unit-index = rw c.if-found-2.true at c.loop-unit.invariant in
    one_main (program_of units c.args.finish) (subst (HasOneMain (map routine_of units)) n o)

pub returns-else-found-2 : goal.returns-else-found-2
returns-else-found-2 c =
    let units = c.args.units.now in
    let n : c.loop-unit.unit-index ≡ length (map routine_of units) = grind (arith, length-map, c.loop-unit-test.false) in
    let o : HasNoMain (map routine_of units) c.loop-unit.unit-index = rw c.if-found-2.false at c.loop-unit.invariant in
    let behind : slice_get (map routine_of units) (length (map routine_of units)) ≡ None = rw (length-map {A = _} units routine_of) (none_at_end routine_of units) in
    no_main (program_of units c.args.finish) (subst (HasNoMain (map routine_of units)) n o) behind c.fault_at-else-found-2.result c.fault_at-else-found-2.ensures.kind c.fault_at-else-found-2.ensures.number c.fault_at-else-found-2.ensures.place
