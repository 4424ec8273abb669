-- One unit more, and the end.
use Rattle.std.proofs.Common.{◌∙◌}
use Rattle.code_emit.specs.Units.{unit_formats}
use Rattle.code_emit.proofs.FormatLemmas.{unit_shallow, units_shallow, unit_next, units_end, formats_in_one}
use Rattle.code_emit.proofs.formats.program_plans.Goals as goal

pub put_plans-requires : goal.put_plans-requires
put_plans-requires g c =
    let l = c.loop-named in
    unit_shallow g.N.NamedUnit.layout g.N.NamedUnit.number c.args.units.now l.named-index c.named-item.result c.loop-named-test.true c.named-item.is l.invariant.shallow

pub loop-named-preserved : goal.loop-named-preserved
loop-named-preserved g c =
    let l = c.loop-named in
    let layout = g.N.NamedUnit.layout in
    let number = g.N.NamedUnit.number in
    let all = c.args.units.now in
    let v = c.named-item.result in
    record {
      shallow = units_shallow layout number all l.named-index v c.loop-named-test.true c.named-item.is l.invariant.shallow;
      put = unit_next layout number all l.named-index v c.loop-named-test.true c.named-item.is l.plans.items c.put_plans.new.plans.items (unit_formats layout number all) c.in_ok-put_plans.ensures l.invariant.put;
    }

pub returns : goal.returns
returns g c y same =
    let l = c.loop-named in
    let layout = g.N.NamedUnit.layout in
    let number = g.N.NamedUnit.number in
    let all = c.args.units.now in
    units_end layout number all l.named-index l.plans.items (unit_formats layout number all) c.loop-named-test.false l.invariant.put ∙ formats_in_one layout number y all same
