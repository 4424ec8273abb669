-- One unit more has no fault, or is the first that has one.
use Rattle.std.proofs.Common.{◌≡◌, ◌+◌, ◌++◌, ◌∷◌, [], map, take, rules, arith, sym, subst}
use Rattle.std.proofs.lemmas.List.{length-map}
use Rattle.f66_tree.specs.Views.{routine_of}
use Rattle.rat_tree.specs.Views.{rat_routine_of}
use Rattle.rat_said.specs.Said.{said_routine}
use Rattle.rat_link.specs.Briefs.{AreBriefs}
use Rattle.linker.proofs.PartLemmas.{got_mapped}
use Rattle.rat_link.proofs.BriefLemmas.{one_brief}
use Rattle.rat_link.proofs.CheckLemmas.{one_more, first_refusal, all_clean}
use Rattle.rat_link.proofs.checking.check_units.Goals as goal

pub returns-in-Err-clause-refused : goal.returns-in-Err-clause-refused
returns-in-Err-clause-refused c =
    let units = c.args.units.now in
    let i = c.loop-unit.unit-index in
    let u = c.unit-item.result in
    first_refusal (map rat_routine_of units) i (rat_routine_of u) (got_mapped rat_routine_of units i u c.loop-unit-test.true c.unit-item.is) c.loop-unit.invariant.clean c.in-Err.refusal c.in-Err.ensures.refused

pub loop-unit-preserved : goal.loop-unit-preserved
loop-unit-preserved c =
    let units = c.args.units.now in
    let i = c.loop-unit.unit-index in
    let u = c.unit-item.result in
    let pushed : c.push.new.self.items ≡ c.loop-unit.briefs.items ++ c.in-Ok.one ∷ [] = search rules in
    record {
      briefs =
          subst (λ us. AreBriefs (map said_routine (map rat_routine_of (take (i + 1) units))) (map routine_of us)) (sym pushed)
          (one_brief c.loop-unit.briefs.items c.in-Ok.one units i u c.loop-unit-test.true c.unit-item.is c.loop-unit.invariant.briefs c.in-Ok.ensures.brief);
      clean = one_more (map rat_routine_of units) i (rat_routine_of u) (got_mapped rat_routine_of units i u c.loop-unit-test.true c.unit-item.is) c.loop-unit.invariant.clean c.in-Ok.ensures.clean;
    }

pub returns-clause-clean : goal.returns-clause-clean
returns-clause-clean c =
    let units = c.args.units.now in
    let many = length-map units rat_routine_of in
    let behind = c.loop-unit-test.false in
    all_clean (map rat_routine_of units) c.loop-unit.unit-index (omega (arith, many, behind)) c.loop-unit.invariant.clean
