-- The formats of the units before have their plans.
use Rattle.std.proofs.Common.{◌≡◌, ◌++◌, All, drop}
use Rattle.code_emit.specs.Units.{unit_formats}
use Rattle.code_emit.proofs.FormatLemmas.{UnitShallow}
use Rattle.code_emit.proofs.formats.program_plans.Given as goal

abbrev pub invariant-loop-named : goal.invariant-loop-named
invariant-loop-named g l =
    let layout = g.N.NamedUnit.layout in
    let number = g.N.NamedUnit.number in
    record {
      shallow : All (UnitShallow layout number) (drop l.named-index l.units);
      put : l.plans.items ++ unit_formats layout number (drop l.named-index l.units) ≡ unit_formats layout number l.units;
    }
