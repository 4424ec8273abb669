-- Those before have their code, and the others stand behind it.
use Rattle.std.proofs.Common.{◌≡◌, ◌++◌, length, drop}
use Rattle.stack_code.specs.Views.{code_of}
use Rattle.code_emit.specs.Units.{all_code, AllEntered, AllPlanned}
use Rattle.code_emit.proofs.units.program_code.Given as goal

abbrev pub invariant-loop-named : goal.invariant-loop-named
invariant-loop-named g l =
    let layout = g.N.NamedUnit.layout in
    let number = g.N.NamedUnit.number in
    record {
      entered : AllEntered layout number (length l.ops.items) (drop l.named-index l.units);
      planned : AllPlanned layout number l.plans (drop l.named-index l.units);
      coded : code_of l.ops.items ++ all_code layout number (drop l.named-index l.units) ≡ all_code layout number l.units;
    }
