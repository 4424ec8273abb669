-- The spot so many places behind a variable's first unit.
use Rattle.std.proofs.Common.{◌+◌, ◌<◌, ◌≤◌, refl, rules, arith}
use Rattle.runner.specs.Words.{spot_word}
use Rattle.runner.proofs.ElementArms.{placed_on, placed_past, unit_here}
use Rattle.runner.proofs.elements.spot_on.Goals as goal

pub placed-requires : goal.placed-requires
placed-requires c =
    let lt : c.args.far < c.args.size = search rules in
    let few = c.requires.few in
    omega arith

pub returns-then-far-size-clause-on : goal.returns-then-far-size-clause-on
returns-then-far-size-clause-on c = λ p n h a.
    let lt : c.args.far < c.args.size = search rules in
    let some = c.requires.some in
    placed_on p n (spot_word c.args.first c.args.size) c.args.far (c.args.first + c.args.far) (λ e. absurd (omega arith)) h a (unit_here c.args.first c.args.far (spot_word c.args.first c.args.size) refl) (omega arith) c.placed.result c.placed.ensures.value c.placed.ensures.behind

pub returns-else-far-size-clause-on : goal.returns-else-far-size-clause-on
returns-else-far-size-clause-on c = λ p n h a.
    let past : c.args.size ≤ c.args.far = search rules in
    let some = c.requires.some in
    placed_past p n (spot_word c.args.first c.args.size) c.args.far (c.args.first + c.args.far) (λ e. absurd (omega arith)) h a (unit_here c.args.first c.args.far (spot_word c.args.first c.args.size) refl) (omega arith)
