-- Why `header` reads its nonterminal.
use Rattle.std.proofs.Common.{refl, sym, ap, None}
use Rattle.f66_tree.specs.Syntax.{FuncUnit}
use Rattle.rat_parse_table.specs.declared.table.Production.TheVariants as productions
use Rattle.rat_parse_values.specs.Values.{heading}
use Rattle.descent.specs.Reading.{done, next}
use Rattle.rat_descent.proofs.Productions.{production, as_value}
use Rattle.rat_descent.proofs.units.header.Goals as goal

pub returns-then-is_at-2 : goal.returns-then-is_at-2
returns-then-is_at-2 c = production productions.BlockHeader refl refl refl refl (next c.in_ok-place.ensures (next c.in_ok-take_token.ensures done))

pub returns : goal.returns
returns c =
    as_value (ap (λ x. heading c.in_ok-place-2.field-0.now.place (FuncUnit None x c.in_ok-list.list.items)) (sym c.in_ok-name.ensures))
    (production productions.FunctionHeader refl refl refl refl (next c.in_ok-place-2.ensures (next c.in_ok-name_token.ensures (next c.in_ok-list.ensures done))))
