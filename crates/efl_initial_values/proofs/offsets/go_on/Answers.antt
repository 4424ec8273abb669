-- No place stands behind `->`.
use Rattle.std.proofs.Common.{ap}
use Rattle.efl_tree.specs.Views.{step_then}
use Rattle.efl_types.specs.Presets.{offset_behind}
use Rattle.efl_initial_values.proofs.PlaceLemmas.{goes_member}
use Rattle.efl_initial_values.proofs.offsets.go_on.Goals as goal

pub returns-in-Overlay : goal.returns-in-Overlay
returns-in-Overlay c = λ f t made rest. ap (λ s. offset_behind t (step_then s rest)) c.in-Overlay.is

pub returns-in-Member : goal.returns-in-Member
returns-in-Member c = λ f t made.
    goes_member f c.args.structures.now.list.items t c.args.from.now.before c.args.step.now c.in-Member.name c.as_bytes.result.now c.in-Member.subscripts c.deref.result.now c.to_member.result
    c.in-Member.is c.deref.ensures.value c.as_bytes.ensures (c.to_member.ensures f t made)
