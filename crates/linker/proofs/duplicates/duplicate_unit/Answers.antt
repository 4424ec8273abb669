-- The first part that gives a name once more breaks the rule, and no part where there is none.
use Rattle.linker.specs.Repeats.{AreClear, IsFirstRepeat}
use Rattle.linker.specs.Rules.{program_of}
use Rattle.linker.proofs.RepeatLemmas.{repeat_kept, repeat_broken}
use Rattle.linker.proofs.duplicates.duplicate_unit.Goals as goal

pub returns-in-Some : goal.returns-in-Some
returns-in-Some c = λ finish.
    let p = program_of c.args.calls.now.units.now finish in
    let h : IsFirstRepeat p.units c.in-Some.place = rw c.in-Some.is at c.first_repeat.ensures in
    repeat_broken p c.in-Some.place h c.fault_at.result c.fault_at.ensures.kind c.fault_at.ensures.number c.fault_at.ensures.place

pub returns-in-None : goal.returns-in-None
returns-in-None c = λ finish.
    let p = program_of c.args.calls.now.units.now finish in
    let h : AreClear p.units = rw c.in-None.is at c.first_repeat.ensures in
    repeat_kept p h
