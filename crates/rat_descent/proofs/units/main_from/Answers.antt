-- Why the unit that `main_from` makes begins with its statement.
use Rattle.std.proofs.Common.{ap}
use Rattle.rat_parse_values.specs.Statements.{main}
use Rattle.rat_descent.proofs.Bodies.{behind_first}
use Rattle.rat_descent.proofs.units.main_from.Goals as goal

pub returns : goal.returns
returns c =
    let body = c.in_ok-body.ensures in
    record { value = body.value; reads = body.reads; is = ap (main c.args.place) (behind_first body.value c.in_ok-list.ensures body.is) }
