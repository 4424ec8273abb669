-- The first main is one, and behind the last unit none was.
use Rattle.std.proofs.Common.{◌∙◌, map, sym, arith}
use Rattle.f66_tree.specs.Views.{routine_of}
use Rattle.linker.proofs.MainLemmas.{none_more}
use Rattle.whole_program.proofs.UnitLemmas.{unit_at}
use Rattle.whole_program.proofs.main_unit.main_of.Goals as goal

pub returns-then-is_main : goal.returns-then-is_main
returns-then-is_main c =
    let u = c.index-units-number.result in
    (routine_of u, unit_at routine_of c.args.units.now c.loop-number.number u c.loop-number-test.true c.index-units-number.is, sym c.is_main.ensures ∙ c.if-is_main.true)

pub loop-number-preserved : goal.loop-number-preserved
loop-number-preserved c =
    let u = c.index-units-number.result in
    none_more (map routine_of c.args.units.now) c.loop-number.number (routine_of u)
    (unit_at routine_of c.args.units.now c.loop-number.number u c.loop-number-test.true c.index-units-number.is) (sym c.is_main.ensures ∙ c.if-is_main.false) c.loop-number.invariant

pub returns : goal.returns
returns c = λ v lt. c.loop-number.invariant v (let behind = c.loop-number-test.false in omega (arith, lt, behind))
