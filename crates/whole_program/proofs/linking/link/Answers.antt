-- The rules before are kept, and this one is broken first there; or all are kept.
use Rattle.std.proofs.Common.{◌≡◌, arith, map, Some}
use Rattle.ground.specs.declared.fault.FaultKind.TheVariants.{MainCount, CommonMismatch, InitialTwice, Limit}
use Rattle.linker.specs.Rules.{IsFirstBroken, IsKept, program_of}
use Rattle.linker.proofs.OrderLemmas.{first_fault}
use Rattle.program_storage.specs.Numbers.{number_in_program}
use Rattle.whole_program.proofs.UnitLemmas.{main_there}
use Rattle.whole_program.proofs.WholeLemmas.{sizes_kept, values_kept, whole}
use Rattle.whole_program.proofs.linking.link.Goals as goal

pub returns-in-Some-clause-refused : goal.returns-in-Some-clause-refused
returns-in-Some-clause-refused c =
    let p = program_of c.args.units.now c.args.finish in
    let broken : IsFirstBroken CommonMismatch p c.in-Some.fault = rw c.in-Some.is at (c.in_ok-fault.ensures c.args.finish) in
    first_fault CommonMismatch p c.in-Some.fault c.in_ok-calls.ensures.kept broken

pub returns-in-Some-2-clause-refused : goal.returns-in-Some-2-clause-refused
returns-in-Some-2-clause-refused c =
    let p = program_of c.args.units.now c.args.finish in
    let sizes : IsKept CommonMismatch p = rw c.in_default.is at (c.in_ok-fault.ensures c.args.finish) in
    let broken : IsFirstBroken InitialTwice p c.in-Some-2.fault = rw c.in-Some-2.is at (c.in_ok-fault-2.ensures c.args.finish) in
    first_fault InitialTwice p c.in-Some-2.fault (sizes_kept p c.in_ok-calls.ensures.kept sizes) broken

pub returns-in-Some-3-clause-refused : goal.returns-in-Some-3-clause-refused
returns-in-Some-3-clause-refused c =
    let p = program_of c.args.units.now c.args.finish in
    let sizes : IsKept CommonMismatch p = rw c.in_default.is at (c.in_ok-fault.ensures c.args.finish) in
    let values : IsKept InitialTwice p = rw c.in_default-2.is at (c.in_ok-fault-2.ensures c.args.finish) in
    let broken : IsFirstBroken Limit p c.in-Some-3.fault = rw c.in-Some-3.is at (c.in_ok-fault-3.ensures c.args.finish) in
    first_fault Limit p c.in-Some-3.fault (values_kept p c.in_ok-calls.ensures.kept sizes values) broken

pub unreachable-requires : goal.unreachable-requires
unreachable-requires c = main_there c.args.units.now c.args.finish (c.in_ok-calls.ensures.kept MainCount (omega arith)) c.in_default-main_of.ensures

pub returns-clause-whole : goal.returns-clause-whole
returns-clause-whole c =
    let p = program_of c.args.units.now c.args.finish in
    let sizes : IsKept CommonMismatch p = rw c.in_default.is at (c.in_ok-fault.ensures c.args.finish) in
    let values : IsKept InitialTwice p = rw c.in_default-2.is at (c.in_ok-fault-2.ensures c.args.finish) in
    let few : IsKept Limit p = rw c.in_default-3.is at (c.in_ok-fault-3.ensures c.args.finish) in
    whole p (values_kept p c.in_ok-calls.ensures.kept sizes values) few

pub returns-clause-linked : goal.returns-clause-linked
returns-clause-linked c =
    let numbers : map (λ p. number_in_program c.in_ok-storage.storage p.unit p.name.now p.at) c.in_ok-presets.presets.items ≡ map (λ n. Some n) c.in_ok-numbers.numbers.items = rw c.deref.ensures.value at c.in_ok-numbers.ensures in
    record {
      calls = c.in_ok-calls.ensures.calls;
      numbering = c.in_ok-storage.ensures.numbered;
      spots = c.in_ok-storage.ensures.spots;
      main = c.in-Some-main_of.ensures;
      presets = c.in_ok-presets.ensures;
      numbers = numbers;
    }
