-- One test more is put.
use Rattle.std.proofs.Common.{◌≡◌, ◌++◌, arith, rules, ap, sym, ◌∙◌, length}
use Rattle.std.specs.Prelude.{vec_len}
use Rattle.std.specs.Vec.Iter.{into_iter_items}
use Rattle.f66_tree.specs.Views.{formulas_of, lines_of}
use Rattle.rat_lower.specs.Code.{each_test}
use Rattle.rat_lower.proofs.Emitting.Blocks.{more_tests, none_left}
use Rattle.rat_lower.proofs.lines.put_cases.Goals as goal

pub loop-e-init : goal.loop-e-init
loop-e-init c =
    let whole : vec_len c.args.cases ≡ length c.args.cases.items = search rules in
    let same = c.into_iter-e-iterator.ensures.into_iter_gives.0 in
    record {
      long = c.into_iter-e-iterator.ensures.into_iter_gives.1 ∙ whole ∙ sym (ap length same);
      so_far = λ rest. ap (λ x. lines_of c.args.code.now.items ++ each_test c.args.maker.now.spare c.args.place (formulas_of x) c.args.label rest) same;
    }

pub loop-e-preserved : goal.loop-e-preserved
loop-e-preserved c =
    let items = c.in-Some.ensures.steps.0 in
    record {
      long = omega (arith, ap length items, c.in-Some.ensures.steps.1, c.loop-e.invariant.long);
      so_far = more_tests c.args.maker.now.spare c.in_ok-name.name c.args.place c.args.label _ _ _ _ _ _ _ (ap formulas_of items) c.in_ok-name.ensures c.in_ok-put_case.ensures c.loop-e.invariant.so_far;
    }

pub returns : goal.returns
returns c =
    let none = none_left (into_iter_items c.loop-e.e-iterator) _ c.loop-e.invariant.long c.in-None.ensures.steps.0 in
    record { by = λ rest. sym (ap (λ x. lines_of c.loop-e.code.items ++ each_test c.args.maker.now.spare c.args.place (formulas_of x) c.args.label rest) none) ∙ c.loop-e.invariant.so_far rest }
