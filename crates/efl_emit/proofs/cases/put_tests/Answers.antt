-- One constant more is tested.
use Rattle.std.proofs.Common.{◌∙◌, ap, pos, rules, w64, slice_index_or}
use Rattle.std.proofs.lemmas.Int.{to_z-of_z}
use Rattle.f66_tree.specs.declared.expression.Operator.TheVariants.{Eq}
use Rattle.f66_tree.specs.Syntax.{Pair}
use Rattle.efl_routes.specs.Statements.{signed}
use Rattle.efl_emit.specs.Names.{operand_of}
use Rattle.std.proofs.Math.ListN.{drop_of_length-le}
use Rattle.efl_room.proofs.Rows.{next_copied}
use Rattle.efl_emit.proofs.Forms.{tests_more, tests_over}
use Rattle.efl_emit.proofs.cases.put_tests.Goals as goal

pub loop-test-preserved : goal.loop-test-preserved
loop-test-preserved c =
    let x = slice_index_or c.args.tests.now c.loop-test.test-index (pos 0) in
    let same = c.in_ok-equal.ensures ∙ ap (λ z. Pair Eq (operand_of c.args.value) (signed z)) (to_z-of_z w64 x (search rules)) in
    tests_more _ _ _ _ (next_copied c.args.tests.now c.loop-test.test-index _ c.loop-test-test.true) c.loop-test.invariant c.in_ok-put_choice.ensures same

pub returns : goal.returns
returns c = tests_over _ _ (drop_of_length-le c.args.tests.now c.loop-test-test.false) c.loop-test.invariant
