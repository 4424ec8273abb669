-- Each function by its number.
use Rattle.std.proofs.Common.{nat_eq, sym, ap, subst}
use Rattle.ground.specs.Arithmetic.{IsInRange}
use Rattle.runner.proofs.KnownArms.{are_few, few_made, are_many, best_small, best_made}
use Rattle.runner.proofs.intrinsics.intrinsic.Goals as goal

pub few-requires-clause-first : goal.few-requires-clause-first
few-requires-clause-first c = subst IsInRange (sym (ap (λ w. w.value) c.word_of-first.ensures)) (are_few c.args.stack.now c.args.low c.args.function c.args.count c.requires.arguments.vs c.requires.takes c.if-function-le3.true c.requires.arguments.lies c.requires.arguments.long c.requires.arguments.given).first

pub few-requires-clause-second : goal.few-requires-clause-second
few-requires-clause-second c = subst IsInRange (sym (ap (λ w. w.value) c.word_of-last.ensures)) (are_few c.args.stack.now c.args.low c.args.function c.args.count c.requires.arguments.vs c.requires.takes c.if-function-le3.true c.requires.arguments.lies c.requires.arguments.long c.requires.arguments.given).last

pub integer-requires : goal.integer-requires
integer-requires c = best_small c.args.function c.args.count c.requires.arguments.vs c.args.stack.now c.args.low (nat_eq c.args.function 4) (are_many c.args.function c.args.count c.requires.arguments.vs c.args.stack.now c.args.low c.requires.takes c.if-function-le3.false c.requires.arguments.lies c.requires.arguments.long c.requires.arguments.given) c.word_of-first.result c.extreme-best.result c.word_of-first.ensures c.extreme-best.ensures

pub returns-then-function-le3 : goal.returns-then-function-le3
returns-then-function-le3 c = λ vs l long g. few_made c.args.function c.args.count vs c.args.stack.now c.args.low (are_few c.args.stack.now c.args.low c.args.function c.args.count vs c.requires.takes c.if-function-le3.true l long g) c.word_of-first.result c.word_of-last.result c.word_of-first.ensures c.word_of-last.ensures c.few.result c.few.ensures

pub returns-else-function-le3 : goal.returns-else-function-le3
returns-else-function-le3 c = λ vs l long g. best_made c.args.function c.args.count vs c.args.stack.now c.args.low (nat_eq c.args.function 4) (are_many c.args.function c.args.count vs c.args.stack.now c.args.low c.requires.takes c.if-function-le3.false l long g) c.word_of-first.result c.extreme-best.result c.word_of-first.ensures c.extreme-best.ensures c.integer.result c.integer.ensures
