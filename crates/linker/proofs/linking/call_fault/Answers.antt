-- The rules before are kept, and this one is broken first there; or all are kept.
use Rattle.std.proofs.Common.{arith}
use Rattle.ground.specs.declared.fault.FaultKind.TheVariants.{DuplicateUnit, MainCount, MissingUnit, TypeClash, WrongCount, Recursion}
use Rattle.linker.specs.Rules.{IsFirstBroken, IsKept, program_of}
use Rattle.linker.proofs.OrderLemmas.{kept_none, kept_one, kept_two, kept_three, kept_four, kept_five, kept_six, call_fault}
use Rattle.linker.proofs.linking.call_fault.Goals as goal

pub returns-in-Some : goal.returns-in-Some
returns-in-Some c =
    let p = program_of c.args.calls.now.units.now c.args.finish in
    call_fault DuplicateUnit p c.in-Some.fault (omega arith) (kept_none p) (c.in-Some.ensures c.args.finish)

pub returns-in-Some-main_count : goal.returns-in-Some-main_count
returns-in-Some-main_count c =
    let p = program_of c.args.calls.now.units.now c.args.finish in
    call_fault MainCount p c.in-Some-main_count.fault (omega arith) (kept_one p (c.in_default.ensures c.args.finish)) c.in-Some-main_count.ensures

pub returns-in-Some-missing_unit : goal.returns-in-Some-missing_unit
returns-in-Some-missing_unit c =
    let p = program_of c.args.calls.now.units.now c.args.finish in
    call_fault MissingUnit p c.in-Some-missing_unit.fault (omega arith) (kept_two p (c.in_default.ensures c.args.finish) c.in_default-main_count.ensures) (c.in-Some-missing_unit.ensures c.args.finish)

pub returns-in-Some-2 : goal.returns-in-Some-2
returns-in-Some-2 c =
    let finish = c.args.finish in
    let p = program_of c.args.calls.now.units.now finish in
    let broken : IsFirstBroken TypeClash p c.in-Some-2.fault = rw c.in-Some-2.is at (c.in_ok-fault.ensures finish) in
    call_fault TypeClash p c.in-Some-2.fault (omega arith) (kept_three p (c.in_default.ensures finish) c.in_default-main_count.ensures (c.in_default-missing_unit.ensures finish)) broken

pub returns-in-Some-wrong_count : goal.returns-in-Some-wrong_count
returns-in-Some-wrong_count c =
    let finish = c.args.finish in
    let p = program_of c.args.calls.now.units.now finish in
    let agree : IsKept TypeClash p = rw c.in_default-2.is at (c.in_ok-fault.ensures finish) in
    call_fault WrongCount p c.in-Some-wrong_count.fault (omega arith) (kept_four p (c.in_default.ensures finish) c.in_default-main_count.ensures (c.in_default-missing_unit.ensures finish) agree) (c.in-Some-wrong_count.ensures finish)

pub returns-in-Some-3 : goal.returns-in-Some-3
returns-in-Some-3 c =
    let finish = c.args.finish in
    let p = program_of c.args.calls.now.units.now finish in
    let agree : IsKept TypeClash p = rw c.in_default-2.is at (c.in_ok-fault.ensures finish) in
    let broken : IsFirstBroken Recursion p c.in-Some-3.fault = rw c.in-Some-3.is at (c.in_ok-fault-2.ensures finish) in
    call_fault Recursion p c.in-Some-3.fault (omega arith)
    (kept_five p (c.in_default.ensures finish) c.in_default-main_count.ensures (c.in_default-missing_unit.ensures finish) agree (c.in_default-wrong_count.ensures finish)) broken

pub returns-in-None : goal.returns-in-None
returns-in-None c =
    let finish = c.args.finish in
    let p = program_of c.args.calls.now.units.now finish in
    let agree : IsKept TypeClash p = rw c.in_default-2.is at (c.in_ok-fault.ensures finish) in
    let ends : IsKept Recursion p = rw c.in-None.is at (c.in_ok-fault-2.ensures finish) in
    kept_six p (c.in_default.ensures finish) c.in_default-main_count.ensures (c.in_default-missing_unit.ensures finish) agree (c.in_default-wrong_count.ensures finish) ends
