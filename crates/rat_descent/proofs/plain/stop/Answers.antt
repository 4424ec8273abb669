-- Why `stop` reads its nonterminal.
use Rattle.std.proofs.Common.{refl, ap}
use Rattle.f66_tree.specs.Syntax.{Stop}
use Rattle.rat_parse_values.specs.Values.{deed}
use Rattle.rat_parse_table.specs.declared.table.Production.TheVariants as productions
use Rattle.descent.specs.Reading.{done, next}
use Rattle.rat_descent.proofs.Productions.{production, as_value}
use Rattle.rat_descent.proofs.plain.stop.Goals as goal

pub returns : goal.returns
returns c =
    let number = c.in_ok-number.ensures in
    as_value (ap (λ n. deed c.in_ok-place.field-0.now.place (Stop n)) number.is) (production productions.StopPlain refl refl refl refl (next c.in_ok-place.ensures (next number.reads done)))
