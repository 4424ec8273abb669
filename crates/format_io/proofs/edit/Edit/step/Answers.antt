-- One step of a plan is one step of its format, where control goes back too.
use Rattle.std.proofs.Common.{sym, ◌∙◌, ap, None}
use Rattle.format_io.proofs.Hands.{none_next, back_again, visible_again}
use Rattle.format_io.specs.Places.{format, hand_of}
use Rattle.format_io.specs.Answers.{seeks}
use Rattle.std.proofs.Common.{refl}
use Rattle.format_io.proofs.edit.Edit.step.Goals as goal

pub returns-else-not-plan : goal.returns-else-not-plan
returns-else-not-plan c =
    ap (λ s. seeks (hand_of (format c.args.plan.now) s) c.args.kind) (sym c.self.view_is)
    ∙ back_again _ _ _ _ _ _ (none_next _ _ None refl c.in-None.ensures) (sym c.requires.goes_on ∙ c.if-not-plan.false) (visible_again (format c.args.plan.now) _ _ c.requires.back)
