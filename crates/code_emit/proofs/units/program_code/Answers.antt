-- One unit more, and the end.
use Rattle.std.proofs.Common.{length, ◌∙◌}
use Rattle.stack_code.specs.Views.{code_of}
use Rattle.code_emit.specs.Units.{all_code}
use Rattle.code_emit.proofs.UnitLemmas.{entered_here, entered_next, planned_here, planned_next, code_next, code_end, one_layout}
use Rattle.code_emit.proofs.units.program_code.Goals as goal

pub put_named-requires : goal.put_named-requires
put_named-requires g c =
    let l = c.loop-named in
    let layout = g.N.NamedUnit.layout in
    let number = g.N.NamedUnit.number in
    let v = c.named-item.result in
    record {
      entered = (entered_here layout number c.args.units.now l.named-index v c.loop-named-test.true c.named-item.is (length l.ops.items) l.invariant.entered).0;
      planned = (planned_here layout number c.args.units.now l.named-index v c.loop-named-test.true c.named-item.is l.plans l.invariant.planned).0;
    }

pub loop-named-preserved : goal.loop-named-preserved
loop-named-preserved g c =
    let l = c.loop-named in
    let layout = g.N.NamedUnit.layout in
    let number = g.N.NamedUnit.number in
    let v = c.named-item.result in
    record {
      entered = entered_next layout number c.args.units.now l.named-index v c.loop-named-test.true c.named-item.is l.ops.items c.put_named.new.ops.items c.in_ok-plans.ensures.code l.invariant.entered;
      planned = planned_next layout number c.args.units.now l.named-index v c.loop-named-test.true c.named-item.is l.plans c.in_ok-plans.plans c.in_ok-plans.ensures.plans l.invariant.planned;
      coded = code_next layout number c.args.units.now l.named-index v c.loop-named-test.true c.named-item.is l.ops.items c.put_named.new.ops.items (all_code layout number c.args.units.now) c.in_ok-plans.ensures.code l.invariant.coded;
    }

pub returns : goal.returns
returns g c y same =
    let l = c.loop-named in
    let layout = g.N.NamedUnit.layout in
    let number = g.N.NamedUnit.number in
    code_end layout number c.args.units.now l.named-index (code_of l.ops.items) (all_code layout number c.args.units.now) c.loop-named-test.false l.invariant.coded ∙ one_layout layout number y c.args.units.now same
