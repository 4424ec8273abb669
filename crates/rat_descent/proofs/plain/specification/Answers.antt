-- Why `specification` reads its nonterminal.
use Rattle.std.proofs.Common.{refl, ap}
use Rattle.f66_tree.specs.Syntax.{Common, Equivalence, Preset}
use Rattle.rat_parse_table.specs.declared.table.Production.TheVariants as productions
use Rattle.rat_parse_values.specs.Values.{deed}
use Rattle.descent.specs.Reading.{done, next}
use Rattle.rat_descent.proofs.Productions.{production, as_value}
use Rattle.rat_descent.proofs.plain.specification.Goals as goal

pub returns-in_ok-list-in-Dimension : goal.returns-in_ok-list-in-Dimension
returns-in_ok-list-in-Dimension c =
    production productions.DimensionPlain refl refl refl refl (next c.in_ok-place-in-Dimension.ensures (next c.in_ok-list-in-Dimension.ensures done))

pub returns-in_ok-list-in-Common : goal.returns-in_ok-list-in-Common
returns-in_ok-list-in-Common c =
    let list = c.in_ok-list-in-Common.ensures in
    as_value (ap (λ all. deed c.in_ok-place-in-Common.field-0.now.place (Common all)) list.is)
    (production productions.CommonPlain refl refl refl refl (next c.in_ok-place-in-Common.ensures (next list.reads_first (next list.reads_others done))))

pub returns-in_ok-list-in-Equivalence : goal.returns-in_ok-list-in-Equivalence
returns-in_ok-list-in-Equivalence c =
    let list = c.in_ok-list-in-Equivalence.ensures in
    as_value (ap (λ all. deed c.in_ok-place-in-Equivalence.field-0.now.place (Equivalence all)) list.is)
    (production productions.EquivalencePlain refl refl refl refl (next c.in_ok-place-in-Equivalence.ensures (next list.reads_first (next list.reads_others done))))

pub returns-in_ok-list-in_default : goal.returns-in_ok-list-in_default
returns-in_ok-list-in_default c =
    let list = c.in_ok-list-in_default.ensures in
    as_value (ap (λ all. deed c.in_ok-place-in_default.field-0.now.place (Preset all)) list.is)
    (production productions.DataPlain refl refl refl refl (next c.in_ok-place-in_default.ensures (next list.reads_first (next list.reads_others done))))
