-- Why `empty_main` reads its nonterminal.
use Rattle.std.proofs.Common.{refl, sym, ap}
use Rattle.rat_tree.specs.Views.{commands}
use Rattle.rat_parse_table.specs.declared.table.Production.TheVariants as productions
use Rattle.rat_parse_values.specs.Values.{routine}
use Rattle.rat_parse_values.specs.Statements.{main}
use Rattle.descent.specs.Reading.{done, next}
use Rattle.rat_descent.proofs.Productions.{production, as_value}
use Rattle.rat_descent.proofs.units.empty_main.Goals as goal

pub returns : goal.returns
returns c =
    as_value (ap (λ list. routine (main c.in_ok-place.field-0.now.place (commands list))) (sym c.new.ensures.items))
    (production productions.EmptyMain refl refl refl refl (next c.in_ok-place.ensures (next c.in_ok-ending.ensures.reads done)))
