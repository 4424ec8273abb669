-- Why `format` reads its nonterminal.
use Rattle.std.proofs.Common.{refl, ap}
use Rattle.f66_tree.specs.Syntax.{Format}
use Rattle.rat_parse_values.specs.Values.{deed}
use Rattle.rat_parse_table.specs.declared.table.Production.TheVariants as productions
use Rattle.descent.specs.Reading.{done, next}
use Rattle.rat_descent.proofs.Productions.{production, as_value}
use Rattle.rat_descent.proofs.plain.format.Goals as goal

pub returns : goal.returns
returns c =
    let list = c.in_ok-list.ensures in
    as_value (ap (λ fs. deed c.in_ok-place.field-0.now.place (Format fs)) list.is)
    (production productions.FormatPlain refl refl refl refl (next c.in_ok-place.ensures (next c.in_ok-take_token.ensures (next list.reads (next c.in_ok-take_token-2.ensures done)))))
