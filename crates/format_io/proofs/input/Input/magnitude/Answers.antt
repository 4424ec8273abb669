-- One digit more, or a magnitude that is out of range.
use Rattle.std.proofs.Common.{arith, ap, ◌∙◌}
use Rattle.format_io.proofs.FieldFacts.{digit_great, digit_more}
use Rattle.format_io.proofs.input.Input.magnitude.Goals as goal
use Rattle.f66_tree.specs.Fielded.{digit}

pub returns-then-more-gt2147483647 : goal.returns-then-more-gt2147483647
returns-then-more-gt2147483647 c = digit_great _ c.args.self.now _ _ c.in-Some.digit _ c.loop-i-test.true (c.in-Some.ensures ∙ ap digit c.at.ensures) c.if-more-gt2147483647.true c.loop-i.invariant.1

pub loop-i-preserved : goal.loop-i-preserved
loop-i-preserved c = let h = c.in-Some.ensures in let g = c.at.ensures in let t = c.if-more-gt2147483647.false in ((omega arith), digit_more _ c.args.self.now _ _ c.in-Some.digit _ c.loop-i-test.true (h ∙ ap digit g) c.loop-i.invariant.1)
