-- The lower root is hung below the higher one.
use Rattle.std.proofs.Common.{rules, arith, FitsSigned}
use Rattle.std.proofs.lemmas.Int.{ints, to_z-of_z}
use mir.Syntax.{w64, w128}
use Rattle.offset_classes.proofs.JoinLemmas.{ends_within, ends_forwards, ends_backwards}
use Rattle.offset_classes.proofs.forest.join.Goals as goal

pub returns-then-one-other : goal.returns-then-one-other
returns-then-one-other c = λ links short g.
    let fits : FitsSigned w64 c.args.link.now.by = search rules in
    let fit_gap : FitsSigned w128 c.gap_of-gap.result = search rules in
    let one = c.seat_of-one.ensures.seat g.class g.offset g.stands.forest in
    let other = c.seat_of-other.ensures.seat g.class g.offset g.stands.forest in
    ends_within links c.args.link.now c.args.knots.now c.args.knots.now g c.requires.from c.requires.to fits _ _ c.seat_of-one.result.offset c.seat_of-other.result.offset c.gap_of-gap.result one other
    (omega (arith, ints, c.gap_of-gap.ensures.gap)) c.if-one-other.true _ (rw to_z-of_z at c.is_zero.ensures)

pub returns-then-knots-one : goal.returns-then-knots-one
returns-then-knots-one c = λ links short g.
    let fits : FitsSigned w64 c.args.link.now.by = search rules in
    let fit_gap : FitsSigned w128 c.gap_of-gap.result = search rules in
    let one = c.seat_of-one.ensures.seat g.class g.offset g.stands.forest in
    let other = c.seat_of-other.ensures.seat g.class g.offset g.stands.forest in
    ends_forwards links c.args.link.now c.args.knots.now c.hang.new.knots g c.requires.from c.requires.to fits _ _ c.seat_of-one.result.offset c.seat_of-other.result.offset c.gap_of-gap.result one other
    (omega (arith, ints, c.gap_of-gap.ensures.gap)) c.seat_of-one.ensures.inside c.seat_of-other.ensures.inside c.seat_of-one.ensures.root c.seat_of-other.ensures.root
    c.if-one-other.false c.if-knots-one.true (rw to_z-of_z at c.hang.ensures)

pub returns-else-knots-one : goal.returns-else-knots-one
returns-else-knots-one c = λ links short g.
    let fits : FitsSigned w64 c.args.link.now.by = search rules in
    let fit_gap : FitsSigned w128 c.gap_of-gap.result = search rules in
    let fit_back : FitsSigned w128 c.opposite.result = search rules in
    let one = c.seat_of-one.ensures.seat g.class g.offset g.stands.forest in
    let other = c.seat_of-other.ensures.seat g.class g.offset g.stands.forest in
    ends_backwards links c.args.link.now c.args.knots.now c.hang-else-knots-one.new.knots g c.requires.from c.requires.to fits _ _ c.seat_of-one.result.offset c.seat_of-other.result.offset c.gap_of-gap.result one other
    (omega (arith, ints, c.gap_of-gap.ensures.gap)) c.seat_of-one.ensures.inside c.seat_of-other.ensures.inside c.seat_of-one.ensures.root c.seat_of-other.ensures.root
    c.if-one-other.false (omega (arith, c.if-knots-one.false)) c.opposite.result (rw to_z-of_z at c.opposite.ensures) (rw to_z-of_z at c.hang-else-knots-one.ensures)
