-- The spot so many places on.
use Rattle.std.proofs.Common.{◌+◌, ◌<◌, ◌≤◌, rules, arith}
use Rattle.runner.proofs.ElementArms.{lent_on, lent_past, placed_on, placed_past, behind_few, unit_here}
use Rattle.runner.proofs.elements.shifted.Goals as goal

pub returns-then-far-eq0 : goal.returns-then-far-eq0
returns-then-far-eq0 c = λ p n h a. lent_on p n c.args.word c.args.far c.if-word-eq0.true c.if-far-eq0.true h a

pub returns-else-far-eq0 : goal.returns-else-far-eq0
returns-else-far-eq0 c = λ p n h a. lent_past p n c.args.word c.args.far c.if-word-eq0.true c.if-far-eq0.false h a

pub placed-requires : goal.placed-requires
placed-requires c =
    let few = behind_few c.requires.spot.0 c.args.word c.requires.spot.1 in
    let lt : (c.unit_of.result + c.args.far) < c.args.word.behind = search rules in
    omega arith

pub returns-then-unit-word : goal.returns-then-unit-word
returns-then-unit-word c = λ p n h a. let lt : (c.unit_of.result + c.args.far) < c.args.word.behind = search rules in placed_on p n c.args.word c.args.far (c.unit_of.result + c.args.far) c.if-word-eq0.false h a (unit_here c.unit_of.result c.args.far c.args.word c.unit_of.ensures) lt c.placed.result c.placed.ensures.value c.placed.ensures.behind

pub returns-else-unit-word : goal.returns-else-unit-word
returns-else-unit-word c = λ p n h a. let past : c.args.word.behind ≤ (c.unit_of.result + c.args.far) = search rules in placed_past p n c.args.word c.args.far (c.unit_of.result + c.args.far) c.if-word-eq0.false h a (unit_here c.unit_of.result c.args.far c.args.word c.unit_of.ensures) past
