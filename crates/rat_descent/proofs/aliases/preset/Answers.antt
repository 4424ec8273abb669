-- Why `preset` reads its nonterminal.
use Rattle.std.proofs.Common.{refl, ap, ◌∙◌, map}
use Rattle.f66_tree.specs.Views.{formula_of}
use Rattle.rat_parse_table.specs.declared.table.Production.TheVariants as productions
use Rattle.rat_parse_values.specs.Values.{preset}
use Rattle.rat_parse_values.specs.Parts.{as_data, with_datum}
use Rattle.descent.specs.Reading.{done, next}
use Rattle.rat_descent.proofs.Productions.{production, as_value}
use Rattle.rat_descent.proofs.aliases.preset.Goals as goal

pub returns : goal.returns
returns c =
    let places = c.in_ok-places.ensures in
    let values = c.in_ok-values.ensures in
    as_value (ap (λ xs. preset (record { places = xs; values = with_datum values.first (as_data values.others) })) places.is
    ∙ ap (λ ys. preset (record { places = map formula_of c.in_ok-places.places.items; values = ys })) values.is)
    (production productions.Preset refl refl refl refl (next places.reads_first (next places.reads_others (next c.in_ok-take_token.ensures
    (next values.reads_first (next values.reads_others (next c.in_ok-take_token-2.ensures done)))))))
