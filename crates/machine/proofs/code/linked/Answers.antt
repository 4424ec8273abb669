-- Units that link are not refused.
use Rattle.std.proofs.Common.{subst}
use Rattle.linker.specs.Rules.{program_of}
use Rattle.whole_program.specs.Linked.{IsLinkRefusal}
use Rattle.machine.proofs.UnitRuns.{ready, well, not_refused}
use Rattle.machine.proofs.code.linked.Goals as goal

pub link-requires : goal.link-requires
link-requires c = record { ready = ready c.args.units.now c.sound_is_ready.ensures c.requires.sound; well = well c.args.units.now c.requires.well }

pub unreachable-requires : goal.unreachable-requires
unreachable-requires c =
    let p = program_of c.args.units.now c.args.finish in
    not_refused p c.requires.whole c.in-Err-Fault.field-0-0 (subst (λ e. IsLinkRefusal p e) c.in-Err-Fault.field-0-is c.in-Err-Fault.ensures.refused)
