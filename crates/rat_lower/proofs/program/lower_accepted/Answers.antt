-- A unit more is made in its room, and serves.
use Rattle.std.proofs.Common.{rules, arith, ◌≡◌, List, ◌∷◌, [], ◌++◌, length, sym, ap, subst, ◌∙◌}
use Rattle.std.specs.Prelude.{vec_len}
use Rattle.std.specs.Vec.Iter.{into_iter_items}
use Rattle.f66_tree.specs.declared.unit.Unit.{Unit as AUnit}
use Rattle.rat_tree.specs.declared.program.RatUnit.{RatUnit}
use Rattle.rat_lower.proofs.Emitting.Blocks.{none_left}
use Rattle.rat_lower.proofs.Serving.{UnitsSoFar, units_begin, next_room, next_accepted, units_more, units_over}
use Rattle.rat_lower.proofs.program.lower_accepted.Goals as goal

pub loop-unit-init : goal.loop-unit-init
loop-unit-init c =
    let all = c.args.program.units.items in
    let whole : vec_len c.args.program.units ≡ length all = search rules in
    let same = c.into_iter-unit-iterator.ensures.into_iter_gives.0 in
    record {
      long = c.into_iter-unit-iterator.ensures.into_iter_gives.1 ∙ whole ∙ sym (ap length same);
      so_far = subst (λ (made : List AUnit). UnitsSoFar all (into_iter_items c.into_iter-unit-iterator.result) c.args.program.finish made) (sym c.in_ok-made.ensures.items) (units_begin all _ c.args.program.finish same);
    }

pub lower_unit-requires : goal.lower_unit-requires
lower_unit-requires c =
    let all = c.args.program.units.items in
    let finish = c.args.program.finish in
    let made = c.loop-unit.made.items in
    let before = subst (λ (us : List RatUnit). UnitsSoFar all us finish made) c.in-Some.ensures.steps.0 c.loop-unit.invariant.so_far in
    record { room = next_room all _ _ finish made before c.requires.room; accepted = next_accepted all _ _ finish made before c.requires.accepted }

pub loop-unit-preserved : goal.loop-unit-preserved
loop-unit-preserved c =
    let all = c.args.program.units.items in
    let finish = c.args.program.finish in
    let made = c.loop-unit.made.items in
    let items = c.in-Some.ensures.steps.0 in
    let before = subst (λ (us : List RatUnit). UnitsSoFar all us finish made) items c.loop-unit.invariant.so_far in
    let pushed : c.push.new.self.items ≡ made ++ c.in_ok-unit.unit ∷ [] = search rules in
    record {
      long = omega (arith, ap length items, c.in-Some.ensures.steps.1, c.loop-unit.invariant.long);
      so_far = units_more all _ _ finish made _ _ before c.in_ok-unit.ensures pushed;
    }

pub returns : goal.returns
returns c =
    let none = none_left (into_iter_items c.loop-unit.unit-iterator) _ c.loop-unit.invariant.long c.in-None.ensures.steps.0 in
    units_over _ _ _ _ c.loop-unit.invariant.so_far none
