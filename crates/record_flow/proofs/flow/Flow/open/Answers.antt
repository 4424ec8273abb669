-- A statement that begins is the definition's, with its first record where it reads.
use Rattle.std.proofs.Common.{sym, ap, ◌∙◌, subst, refl, Ok, []}
use Rattle.f66_tree.specs.declared.editing.Way.TheVariants.{Writing}
use Rattle.f66_tree.specs.Fields.{NoField}
use Rattle.f66_tree.specs.Turns.{is_over, started}
use Rattle.f66_tree.specs.World.{Moves}
use Rattle.record_flow.specs.Flows.{State}
use Rattle.record_flow.specs.Steps.{LacksFirst, IsOpened}
use Rattle.record_flow.proofs.Taking.{reads_nothing}
use Rattle.record_flow.proofs.Fetching.{opened_read}
use Rattle.record_flow.proofs.flow.Flow.open.Goals as goal

pub returns-in-Reading-clause-step : goal.returns-in-Reading-clause-step
returns-in-Reading-clause-step g c fs =
    let is = c.in-Reading.is in
    subst (λ w. IsOpened g.S.Source.left g.S.Source.faults c.args.input.now c.fetch.new.input w fs c.args.self.now c.fetch.new.self c.fetch.result) (sym is)
    (opened_read g.S.Source.left g.S.Source.faults c.args.input.now c.fetch.new.input fs c.self.inside.intake c.self.inside.edit c.start.new.self c.args.self.now c.fetch.new.self c.fetch.result c.self.view_is (c.start.ensures.hand fs ∙ ap (λ w. started w fs) is) c.fetch.ensures.fetched)

pub returns-in-Writing-clause-going : goal.returns-in-Writing-clause-going
returns-in-Writing-clause-going g c = ap (λ h. is_over h.mark) (c.start.ensures.hand NoField)

pub returns-in-Writing-clause-step : goal.returns-in-Writing-clause-step
returns-in-Writing-clause-step g c fs =
    let is = c.in-Writing.is in
    let new : State = record { intake = c.self.inside.intake; stand = c.start.new.self } in
    let begun = c.start.ensures.hand fs ∙ ap (λ w. started w fs) is in
    subst (λ w. IsOpened g.S.Source.left g.S.Source.faults c.args.input.now c.args.input.now w fs c.args.self.now new (Ok tt)) (sym is)
    (subst (λ o. IsOpened g.S.Source.left g.S.Source.faults c.args.input.now c.args.input.now Writing fs o new (Ok tt)) c.self.view_is
    ([], reads_nothing g.S.Source.left (LacksFirst Writing fs) c.args.input.now c.self.inside.intake, refl, λ hand unread written. ap (λ h. Moves (record { unread = unread; written = written; hand = h })) (sym begun)))
