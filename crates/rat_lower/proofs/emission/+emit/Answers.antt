-- The code of a statement is that of its parts, in their order.
use Rattle.std.proofs.Common.{◌≡◌, None, arith, rules, refl, ap, sym, subst, ◌∙◌, length}
use Rattle.std.specs.Prelude.{vec_len}
use Rattle.std.specs.Vec.Iter.{into_iter_items}
use Rattle.f66_tree.specs.Views.{lines_of}
use Rattle.rat_tree.specs.Views.{commands, clauses}
use Rattle.rat_lower.specs.Around.{rings_of}
use Rattle.rat_lower.specs.Code.{all_labels, clause_labels}
use Rattle.rat_lower.proofs.Emitting.Blocks.{SoFar, so_far_more, so_far_all, none_left}
use Rattle.rat_lower.proofs.Emitting.Members.{from_block, block_labels, block_size, from_switch, switch_labels, switch_size, clause_is, ClausesSoFar, clauses_more}
use Rattle.rat_lower.proofs.Emitting.Sizes.{size_of_all, size_of_clauses}
use Rattle.rat_lower.proofs.emission.+emit.Goals as goal

pub emit-emit_all-requires : goal.emit-emit_all-requires
emit-emit_all-requires t c =
    let e = block_labels c.args.statement c.in-Block.list c.in-Block.list.items c.in-Block.is refl in
    let size = block_size c.args.statement c.in-Block.list c.in-Block.list.items c.in-Block.is refl in
    (omega (arith, size), omega (arith, e, c.requires))

pub emit-returns-in-Block : goal.emit-returns-in-Block
emit-returns-in-Block t c = from_block c.args.statement c.in-Block.list c.in-Block.list.items c.emit_all.result _ _ _ _ _ _ c.in-Block.is refl c.in_ok-put_mark.ensures c.emit_all.ensures

pub emit-emit_switch-requires : goal.emit-emit_switch-requires
emit-emit_switch-requires t c =
    let e = switch_labels c.args.statement c.in-Switch.e c.in-Switch.list c.in-Switch.list.items c.in-Switch.is refl in
    let size = switch_size c.args.statement c.in-Switch.e c.in-Switch.list c.in-Switch.list.items c.in-Switch.is refl in
    (omega (arith, size), omega (arith, e, c.requires))

pub emit-returns-in-Switch : goal.emit-returns-in-Switch
emit-returns-in-Switch t c = from_switch c.args.statement c.in-Switch.e c.in-Switch.list c.in-Switch.list.items c.emit_switch.result _ _ _ _ _ _ c.in-Switch.is refl c.in_ok-put_mark.ensures c.emit_switch.ensures

pub emit_all-loop-statement-init : goal.emit_all-loop-statement-init
emit_all-loop-statement-init t c =
    let whole : vec_len c.args.list ≡ length c.args.list.items = search rules in
    let same = c.into_iter-statement-iterator.ensures.into_iter_gives.0 in
    let P = λ (x : _). SoFar (commands c.args.list.items) (commands x) (rings_of c.args.around.now) c.args.maker.now c.args.maker.now (lines_of c.args.code.now.items) (lines_of c.args.code.now.items) in
    record {
      long = c.into_iter-statement-iterator.ensures.into_iter_gives.1 ∙ whole ∙ sym (ap length same);
      size = omega (arith, ap (λ x. size_of_all (commands x)) same);
      so_far = subst P (sym same) (record { taken = refl; spare = refl; own = refl; made = refl; added = λ rest. refl });
    }

pub emit_all-loop-statement-preserved : goal.emit_all-loop-statement-preserved
emit_all-loop-statement-preserved t c =
    let next = c.in-Some.ensures.steps.0 in
    let P = λ (x : _). SoFar (commands c.args.list.items) (commands x) (rings_of c.args.around.now) c.args.maker.now c.loop-statement.maker (lines_of c.args.code.now.items) (lines_of c.loop-statement.code.items) in
    record {
      long = omega (arith, ap length next, c.in-Some.ensures.steps.1, c.loop-statement.invariant.long);
      size = omega (arith, ap (λ x. size_of_all (commands x)) next, c.loop-statement.invariant.size);
      so_far = so_far_more _ _ _ _ _ _ _ _ _ _ (subst P next c.loop-statement.invariant.so_far) c.in_ok-emit.ensures;
    }

pub emit_all-returns : goal.emit_all-returns
emit_all-returns t c =
    let none = none_left (into_iter_items c.loop-statement.statement-iterator) _ c.loop-statement.invariant.long c.in-None.ensures.steps.0 in
    let P = λ (x : _). SoFar (commands c.args.list.items) (commands x) (rings_of c.args.around.now) c.args.maker.now c.loop-statement.maker (lines_of c.args.code.now.items) (lines_of c.loop-statement.code.items) in
    so_far_all _ _ _ _ _ _ (subst P none c.loop-statement.invariant.so_far)

pub emit_all-emit-requires : goal.emit_all-emit-requires
emit_all-emit-requires t c =
    let next = c.in-Some.ensures.steps.0 in (
      omega (arith, ap (λ x. size_of_all (commands x)) next, c.loop-statement.invariant.size),
      omega (arith, ap (λ x. all_labels (commands x)) next, c.loop-statement.invariant.so_far.made, ap length c.loop-statement.invariant.so_far.taken, c.requires),
    )

pub emit_clauses-loop-clause-init : goal.emit_clauses-loop-clause-init
emit_clauses-loop-clause-init t c =
    let whole : vec_len c.args.list ≡ length c.args.list.items = search rules in
    let same = c.into_iter-clause-iterator.ensures.into_iter_gives.0 in
    let P = λ (x : _). ClausesSoFar (clauses c.args.list.items) (clauses x) c.args.behind (rings_of c.args.around.now) None c.args.maker.now c.args.maker.now (lines_of c.args.code.now.items) (lines_of c.args.code.now.items) (lines_of c.args.bodies.now.items) (lines_of c.args.bodies.now.items) in
    record {
      long = c.into_iter-clause-iterator.ensures.into_iter_gives.1 ∙ whole ∙ sym (ap length same);
      size = omega (arith, ap (λ x. size_of_clauses (clauses x)) same);
      so_far = subst P (sym same) (record { taken = refl; spare = refl; own = refl; made = refl; tested = λ rest. refl; added = λ rest. refl; goes = refl });
    }

pub emit_clauses-fresh_label-requires : goal.emit_clauses-fresh_label-requires
emit_clauses-fresh_label-requires t c =
    let next = ap clauses c.in-Some.ensures.steps.0 ∙ clause_is c.in-Some.clause (clauses (into_iter_items c.next.new.self)) in
    omega (arith, ap clause_labels next, c.loop-clause.invariant.so_far.made, ap length c.loop-clause.invariant.so_far.taken, c.requires)

pub emit_clauses-emit_all-requires : goal.emit_clauses-emit_all-requires
emit_clauses-emit_all-requires t c =
    let next = ap clauses c.in-Some.ensures.steps.0 ∙ clause_is c.in-Some.clause (clauses (into_iter_items c.next.new.self)) in (
      omega (arith, ap size_of_clauses next, c.loop-clause.invariant.size),
      omega (arith, ap clause_labels next, c.in_ok-label.ensures.made, ap length c.in_ok-label.ensures.taken, c.loop-clause.invariant.so_far.made, ap length c.loop-clause.invariant.so_far.taken, c.requires),
    )

pub emit_clauses-loop-clause-preserved : goal.emit_clauses-loop-clause-preserved
emit_clauses-loop-clause-preserved t c =
    let items = c.in-Some.ensures.steps.0 in
    let next = ap clauses items ∙ clause_is c.in-Some.clause (clauses (into_iter_items c.next.new.self)) in
    let P = λ (x : _). ClausesSoFar (clauses c.args.list.items) x c.args.behind (rings_of c.args.around.now) c.loop-clause.default c.args.maker.now c.loop-clause.maker (lines_of c.args.code.now.items) (lines_of c.loop-clause.code.items) (lines_of c.args.bodies.now.items) (lines_of c.loop-clause.bodies.items) in
    let D = λ (d : _). ClausesSoFar (clauses c.args.list.items) (clauses (into_iter_items c.next.new.self)) c.args.behind (rings_of c.args.around.now) d c.args.maker.now c.emit_all.new.maker (lines_of c.args.code.now.items) (lines_of c.put_cases.new.code.items) (lines_of c.args.bodies.now.items) (lines_of c.put_jump.new.code.items) in
    record {
      long = omega (arith, ap length items, c.in-Some.ensures.steps.1, c.loop-clause.invariant.long);
      size = omega (arith, ap size_of_clauses next, c.loop-clause.invariant.size);
      so_far =
          subst D (sym c.first_default-default.ensures)
          (clauses_more _ _ _ _ _ _ _ _ _ _ _ _ _ _ _ _ _ _ _ _ _ _ (subst P next c.loop-clause.invariant.so_far) c.in_ok-label.ensures.label c.in_ok-label.ensures.made c.in_ok-label.ensures.taken c.in_ok-label.ensures.spare c.in_ok-label.ensures.own
          c.in_ok-put_cases.ensures c.in_ok-put_here.ensures c.in_ok-emit_all.ensures c.in_ok-put_jump.ensures);
    }
