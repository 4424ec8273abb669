-- Why `go` reads its nonterminal.
use Rattle.std.proofs.Common.{refl, ap}
use Rattle.rat_parse_values.specs.Values.{deed}
use Rattle.rat_parse_table.specs.declared.table.Production.TheVariants as productions
use Rattle.descent.specs.Reading.{done, next}
use Rattle.rat_descent.proofs.Productions.{production, as_value}
use Rattle.rat_descent.proofs.plain.go.Goals as goal

pub returns : goal.returns
returns c =
    let kind = c.in_ok-kind.ensures in
    as_value (ap (deed c.in_ok-place.field-0.now.place) kind.is) (production productions.GoPlain refl refl refl refl (next c.in_ok-place.ensures (next kind.reads done)))
