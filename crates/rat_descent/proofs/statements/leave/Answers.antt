-- Why `leave` reads its nonterminal.
use Rattle.std.proofs.Common.{refl, sym, ap, ◌∙◌}
use Rattle.rat_parse_values.specs.Values.{tok, command}
use Rattle.rat_parse_values.specs.Statements.{left}
use Rattle.rat_parse_table.specs.declared.table.Production.TheVariants as productions
use Rattle.descent.specs.Reading.{done, next}
use Rattle.rat_descent.proofs.Productions.{production, as_value}
use Rattle.rat_descent.proofs.statements.leave.Goals as goal

pub returns : goal.returns
returns c =
    let word = c.in_ok-word.word.now in
    as_value (ap (λ n. command word.place (left (tok word) word.place n)) c.in_ok-count.ensures.is ∙ sym c.leaving.ensures)
    (production productions.LeaveStatement refl refl refl refl (next c.in_ok-word.ensures (next c.in_ok-count.ensures.reads (next c.in_ok-ending.ensures.reads done))))
