-- A step to the parent keeps the seat, and ranks rise.
use Rattle.std.proofs.Common.{rules, ◌≢◌, length, sym, ◌∙◌, arith, FitsSigned, ◌+ℤ◌, to_z}
use Rattle.std.proofs.lemmas.Int.{ints, to_z-of_z}
use mir.Syntax.{w128}
use Rattle.offset_classes.specs.Forests.{knot_at}
use Rattle.offset_classes.proofs.ForestLemmas.{near, near_fits, step_up}
use Rattle.offset_classes.proofs.forest.seat_of.Goals as goal

pub overflow_add-offset : goal.overflow_add-offset
overflow_add-offset c =
    let knots = c.args.knots.now in
    let h = c.requires.held in
    let g = h.grown in
    let f = g.stands.forest in
    let at = c.loop-at.at in
    let ne : (knot_at knots at).parent ≢ at = search rules in
    let way = step_up (length knots) (knot_at knots) g.class g.offset f c.args.node at (to_z w128 c.loop-at.offset-bits) c.loop-at.invariant.inside ne (c.loop-at.invariant.way g.class g.offset f) in
    let fit = near_fits knots h c.args.node (knot_at knots at).parent c.requires.inside (f.inside at c.loop-at.invariant.inside) (sym way.0) in
    let weight : FitsSigned w128 (knot_at knots at).weight = search rules in
    omega (arith, ints, way.1)

pub loop-at-preserved : goal.loop-at-preserved
loop-at-preserved c =
    let knots = c.args.knots.now in
    let h = c.requires.held in
    let f = h.grown.stands.forest in
    let at = c.loop-at.at in
    let ne : (knot_at knots at).parent ≢ at = search rules in
    let weight : FitsSigned w128 (knot_at knots at).weight = search rules in
    let sum : FitsSigned w128 (to_z w128 c.loop-at.offset-bits +ℤ (knot_at knots at).weight) = rw to_z-of_z at (overflow_add-offset c) in
    record {
      inside = f.inside at c.loop-at.invariant.inside;
      way = λ class offset f1.
          let way = step_up (length knots) (knot_at knots) class offset f1 c.args.node at (to_z w128 c.loop-at.offset-bits) c.loop-at.invariant.inside ne (c.loop-at.invariant.way class offset f1) in
          (way.0, omega (arith, ints, way.1));
    }

pub returns-clause-seat : goal.returns-clause-seat
returns-clause-seat c = λ class offset f.
    let r = f.root c.loop-at.at c.loop-at.invariant.inside (search rules) in
    let way = c.loop-at.invariant.way class offset f in
    (sym r.0 ∙ way.0, omega (arith, ints, r.1, way.1))

-- how far the node stands from its root, which stands at 0
pub returns-clause-low : goal.returns-clause-low
returns-clause-low c =
    let knots = c.args.knots.now in
    let h = c.requires.held in
    let g = h.grown in
    let r = g.stands.forest.root c.loop-at.at c.loop-at.invariant.inside (search rules) in
    let way = c.loop-at.invariant.way g.class g.offset g.stands.forest in
    let near' = near h.links knots g c.loop-at.at c.args.node c.loop-at.invariant.inside c.requires.inside way.0 in
    omega (arith, ints, r.1, way.1, near', h.short)

pub returns-clause-high : goal.returns-clause-high
returns-clause-high c =
    let knots = c.args.knots.now in
    let h = c.requires.held in
    let g = h.grown in
    let r = g.stands.forest.root c.loop-at.at c.loop-at.invariant.inside (search rules) in
    let way = c.loop-at.invariant.way g.class g.offset g.stands.forest in
    let near' = near h.links knots g c.args.node c.loop-at.at c.requires.inside c.loop-at.invariant.inside (sym way.0) in
    omega (arith, ints, r.1, way.1, near', h.short)
