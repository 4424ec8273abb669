-- Why `subroutine` reads its nonterminal.
use Rattle.std.proofs.Common.{refl, sym, ◌∙◌, ap}
use Rattle.f66_tree.specs.Syntax.{SubUnit}
use Rattle.rat_parse_table.specs.declared.table.Production.TheVariants as productions
use Rattle.rat_parse_values.specs.Values.{heading}
use Rattle.rat_parse_values.specs.Parts.{as_names}
use Rattle.descent.specs.Reading.{done, next}
use Rattle.rat_descent.proofs.Productions.{production, as_value}
use Rattle.rat_descent.proofs.units.subroutine.Goals as goal

pub returns : goal.returns
returns c =
    let place = c.in_ok-place.field-0.now.place in
    let list = c.in_ok-list.ensures in
    as_value (ap (λ x. heading place (SubUnit x (as_names list.value))) (sym c.in_ok-name.ensures) ∙ ap (λ xs. heading place (SubUnit c.in_ok-name.name xs)) list.is)
    (production productions.SubroutineHeader refl refl refl refl (next c.in_ok-place.ensures (next c.in_ok-name_token.ensures (next list.reads done))))
