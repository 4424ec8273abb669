-- An argument more, in its group.
use Rattle.std.proofs.Common.{◌≡◌, suc, false, true, true≢false, [], length, rules, refl, sym, ap, subst, ◌∙◌, arith}
use Rattle.std.proofs.lemmas.Result.{IfOk-weaker}
use Rattle.std.specs.Option.{IsSome}
use Rattle.std.specs.Prelude.{vec_len}
use Rattle.std.specs.Vec.Iter.{into_iter_items}
use Rattle.f66_tree.specs.Views.{formula_of, formulas_of}
use Rattle.efl_routes.specs.Expressions.{intrinsic_name as name_of_intrinsic}
use Rattle.efl_typed_tree.specs.Views.{intrinsic_of}
use Rattle.efl_emit.specs.Names.{emission_of}
use Rattle.efl_emit.proofs.Grouping.{GatheredSoFar, gather_begins, gather_more, gather_over, none_left}
use Rattle.efl_emit.proofs.groups.set_gathered.Goals as goal

pub loop-e-init : goal.loop-e-init
loop-e-init c =
    let whole : vec_len c.args.list ≡ length c.args.list.items = search rules in
    let x = name_of_intrinsic (intrinsic_of c.args.intrinsic) in
    let all = formulas_of c.args.list.items in
    let a = emission_of c.args.out.now in
    record {
      long = c.into_iter-rest.ensures.len ∙ whole ∙ sym (ap length c.into_iter-rest.ensures.rest);
      so_far =
          subst (λ g. GatheredSoFar c.args.place x c.args.number all (formulas_of (into_iter_items c.into_iter-rest.result)) g a a) (sym c.new-group.ensures.items)
          (subst (λ l. GatheredSoFar c.args.place x c.args.number all (formulas_of l) [] a a) (sym c.into_iter-rest.ensures.rest) (gather_begins c.args.place x c.args.number all a));
    }

pub loop-e-preserved : goal.loop-e-preserved
loop-e-preserved c =
    let fewer : length (into_iter_items c.loop-e.rest) ≡ suc (length (into_iter_items c.next.new.self)) = ap length c.in-Some.ensures.items in
    record {
      long = omega (arith, fewer, c.in-Some.ensures.len, c.loop-e.invariant.long);
      so_far = gather_more c.in-Some.e (formula_of c.in-Some.e) (ap formulas_of c.in-Some.ensures.items) c.loop-e.invariant.so_far c.in_ok-group.ensures c.in_ok-push.ensures.items refl;
    }

pub returns : goal.returns
returns c =
    let none = none_left (into_iter_items c.loop-e.rest) _ c.loop-e.invariant.long (λ lt. (let f : false ≡ true = subst IsSome c.in_default.is (c.next.ensures.variant.1 lt) in absurd (true≢false (sym f)))) in
    IfOk-weaker c.set_group.result _ _ (λ r h. gather_over (ap formulas_of none) c.loop-e.invariant.so_far h) c.set_group.ensures
