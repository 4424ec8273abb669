-- Behind the blanks T is true, F is false, and all else is no truth value.
use Rattle.std.proofs.Common.{arith, ◌∙◌}
use Rattle.f66_tree.specs.Fielded.{field}
use Rattle.format_io.proofs.FieldFacts.{truth_bad, found_at}
use Rattle.format_io.proofs.input.Input.truth.Goals as goal

pub returns-else-letter-eq70 : goal.returns-else-letter-eq70
returns-else-letter-eq70 c = truth_bad (field c.args.width c.args.self.now) _ _ (found_at _ c.args.self.now c.mark-start.result (let w = c.mark-start.ensures.within in let n = c.if-start-width.false in omega (arith, w, n)) c.mark-start.ensures.rest) (λ e. c.if-letter-eq84.false (c.at-letter.ensures ∙ e)) (λ e. c.if-letter-eq70.false (c.at-letter.ensures ∙ e))
