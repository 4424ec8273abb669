-- Why `do_range` reads its nonterminal.
use Rattle.std.proofs.Common.{refl, ap}
use Rattle.f66_tree.specs.Views.{par_of}
use Rattle.rat_parse_table.specs.declared.table.Production.TheVariants as productions
use Rattle.rat_parse_values.specs.Values.{range}
use Rattle.descent.specs.Reading.{done, next}
use Rattle.rat_descent.proofs.Productions.{production, as_value}
use Rattle.rat_descent.proofs.declarations.do_range.Goals as goal

pub returns : goal.returns
returns c =
    let step = c.in_ok-step.ensures in
    as_value (ap (λ q. range (record { first = par_of c.in_ok-first.first; last = par_of c.in_ok-last.last; step = q })) step.is)
    (production productions.Range refl refl refl refl (next c.in_ok-first.ensures (next c.in_ok-take_token.ensures (next c.in_ok-last.ensures (next step.reads done)))))
