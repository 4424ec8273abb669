-- Why `declared` reads its nonterminal.
use Rattle.std.proofs.Common.{refl, sym, ap, ◌∙◌}
use Rattle.rat_parse_table.specs.declared.table.Production.TheVariants as productions
use Rattle.rat_parse_values.specs.Values.{declared}
use Rattle.rat_parse_values.specs.Parts.{as_pars}
use Rattle.descent.specs.Reading.{done, next}
use Rattle.rat_descent.proofs.Productions.{production, as_value}
use Rattle.rat_descent.proofs.declarations.declared.Goals as goal

pub returns : goal.returns
returns c =
    let sizes = c.in_ok-sizes.ensures in
    as_value (ap (λ x. declared (record { name = x; sizes = as_pars sizes.value })) (sym c.in_ok-name.ensures) ∙ ap (λ q. declared (record { name = c.in_ok-name.name; sizes = q })) sizes.is)
    (production productions.Declared refl refl refl refl (next c.in_ok-name_token.ensures (next sizes.reads done)))
