-- One value for another.
use Rattle.std.proofs.Common.{refl}
use Rattle.f66_tree.specs.Evaluation.{denied}
use Rattle.stack_code.specs.Instructions as i
use Rattle.runner.proofs.Pushes.{unary_tall, unary_operand, unary_works}
use Rattle.runner.proofs.values.not.Goals as goal

pub word_at-x-requires-clause-some : goal.word_at-x-requires-clause-some
word_at-x-requires-clause-some c = unary_tall denied i.Not c.args.stack.now c.args.top c.requires refl

pub denied-requires : goal.denied-requires
denied-requires c = unary_operand denied i.Not c.args.stack.now c.args.top c.requires refl _ _ c.word_at-x.ensures

pub returns-clause-works : goal.returns-clause-works
returns-clause-works c = λ plans s w st fine. unary_works denied _ _ _ c.word_at-x.ensures s w st fine _ _ c.denied.ensures c.push.ensures
