-- The first statement that names a block of another size breaks the rule, and no part where there is none.
use Rattle.linker.specs.Rules.{program_of}
use Rattle.storage_rules.specs.Mismatch.{AreClear, IsFirstOther}
use Rattle.storage_rules.proofs.RuleLemmas.{sizes_kept, sizes_broken}
use Rattle.storage_rules.proofs.mismatch.common_mismatch.Goals as goal

pub returns-in-Some : goal.returns-in-Some
returns-in-Some c = λ finish.
    let p = program_of c.args.units.now finish in
    let h : IsFirstOther p.units c.in-Some.place = rw c.in-Some.is at c.in_ok-place.ensures in
    sizes_broken p c.in-Some.place h c.mismatch_at.result c.mismatch_at.ensures.kind c.mismatch_at.ensures.number c.mismatch_at.ensures.place

pub returns-in-None : goal.returns-in-None
returns-in-None c = λ finish.
    let p = program_of c.args.units.now finish in
    let h : AreClear p.units = rw c.in-None.is at c.in_ok-place.ensures in
    sizes_kept p h
