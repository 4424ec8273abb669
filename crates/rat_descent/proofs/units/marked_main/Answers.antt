-- Why `marked_main` reads its nonterminal.
use Rattle.std.proofs.Common.{refl, sym, ◌∙◌, ap, None}
use Rattle.rat_tree.specs.Syntax.{AndCommand}
use Rattle.rat_tree.specs.Views.{command_of}
use Rattle.rat_parse_table.specs.declared.table.Production.TheVariants as productions
use Rattle.rat_parse_values.specs.Values.{routine}
use Rattle.rat_parse_values.specs.Parts.{as_statements}
use Rattle.rat_parse_values.specs.Statements.{main, with_own_label}
use Rattle.rat_parse_values.proofs.TreeLemmas.{marked_first}
use Rattle.descent.specs.Reading.{done, next}
use Rattle.rat_descent.proofs.Productions.{production, as_value}
use Rattle.rat_descent.proofs.units.marked_main.Goals as goal

pub returns : goal.returns
returns c =
    let q = c.in_ok-token.token.now.place in
    let p = c.in_ok-place.place in
    let kind = c.in_ok-place.kind in
    let rest = c.in_ok-main_from.ensures in
    as_value
    (ap (λ n. routine (main q (AndCommand (with_own_label n p (command_of None p kind)) (as_statements rest.value)))) (sym c.number_of.ensures)
    ∙ ap (λ f. routine (main q (AndCommand f (as_statements rest.value)))) (sym (marked_first c.number_of.result p kind))
    ∙ ap routine rest.is)
    (production productions.MarkedMain refl refl refl refl (next c.in_ok-token.ensures (next c.in_ok-place.ensures (next rest.reads done))))
