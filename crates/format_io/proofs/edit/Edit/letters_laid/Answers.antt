-- The edits A1 of an instruction that are not behind come next.
use Rattle.std.proofs.Common.{arith, ◌≡◌, ◌++◌, ◌+◌, ◌-◌, ◌≤◌, ap, ◌∙◌, subst, replicate, Some, slice_get}
use Rattle.format_io.specs.declared.code.Op.TheVariants as ops
use Rattle.format_io.specs.Letters.{LettersNext}
use Rattle.format_io.specs.Places.{format, visible, moves_at}
use Rattle.format_io.proofs.Plans.{reads}
use Rattle.format_io.proofs.LetterRuns.{once_runs}
use Rattle.format_io.proofs.edit.Edit.letters_laid.Goals as goal

pub returns-then-is_letter-clause-onward : goal.returns-then-is_letter-clause-onward
returns-then-is_letter-clause-onward c = λ k le.
    let e : slice_get c.args.plan.now.ops.items c.self.inside.walk.pc ≡ Some (ops.Once c.in-Some-Once.count c.in-Some-Once.piece) = reads _ _ _ _ c.op_at.ensures c.in-Some-Once.is c.in-Some-Once.field-0-is in
    let left : k ≤ c.in-Some-Once.count - c.self.inside.walk.past = (let h = c.saturating_sub.ensures in omega (arith, h, le)) in
    subst (λ s. LettersNext (format c.args.plan.now) s k) c.self.view_is
    (once_runs c.args.plan.now _ _ _ k _ _ c.requires e left ∙ ap (λ s. replicate k s ++ visible (moves_at 0 (format c.args.plan.now) c.self.inside.walk.pc (c.self.inside.walk.past + k) c.self.inside.walk.counts)) (c.is_letter.ensures c.if-is_letter.true))
