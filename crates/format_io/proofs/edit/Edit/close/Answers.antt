-- At the end of the code the hand is closed.
use Rattle.std.proofs.Common.{◌≡◌, sym, ◌∙◌, ap, []}
use Rattle.format_io.proofs.Hands.{closes_writing, closes_reading, visible_end}
use Rattle.format_io.proofs.Plans.{plan_size}
use Rattle.format_io.specs.Places.{format, hand_of, visible, moves_at}
use Rattle.f66_tree.specs.Turns.{ended_turn}
use Rattle.format_io.proofs.edit.Edit.close.Goals as goal
use Rattle.format_io.proofs.edit.Edit.close.Goals.{in-Writing, in-Reading}

pub returns : goal.returns
returns c =
    let n = c.len-self-inside.ensures in
    let e : visible (moves_at 0 (format c.args.plan.now) c.len-self-inside.result c.self.inside.walk.past c.self.inside.walk.counts) ≡ []
    = visible_end (format c.args.plan.now) c.len-self-inside.result _ _ (n ∙ c.args.plan.now.ops.ok.0 ∙ plan_size c.args.plan.now c.requires) in
    ap (λ s. let h = hand_of (format c.args.plan.now) s in ended_turn h.way h.cycle h.line) (sym c.self.view_is)
    ∙ elim c.match-self.branch [ in-Writing w ↦ closes_writing _ _ _ _ _ w.in-Writing.is w.result-is e | in-Reading w ↦ closes_reading _ _ _ _ _ w.in-Reading.is w.result-is e ]
