-- Why `headed` reads its nonterminal.
use Rattle.std.proofs.Common.{refl, ap}
use Rattle.rat_parse_table.specs.declared.table.Production.TheVariants as productions
use Rattle.f66_tree.specs.Views.{header_of}
use Rattle.rat_parse_values.specs.Values.{routine}
use Rattle.descent.specs.Reading.{done, next}
use Rattle.rat_descent.proofs.Productions.{production, as_value}
use Rattle.rat_descent.proofs.Bodies.{behind_none}
use Rattle.rat_descent.proofs.units.headed.Goals as goal

pub returns : goal.returns
returns c =
    let body = c.in_ok-body.ensures in
    as_value (ap (λ b. routine (record { header = header_of c.in_ok-place.header; body = b; place = c.in_ok-place.place })) (behind_none body.value c.new.ensures.items body.is))
    (production productions.HeadedUnit refl refl refl refl (next c.in_ok-place.ensures (next c.in_ok-ending.ensures.reads (next body.reads done))))
