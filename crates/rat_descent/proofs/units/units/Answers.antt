-- Why `units` reads a text's units.
use Rattle.std.proofs.Common.{◌++◌, refl, sym, ◌∙◌, ap, Vec, Global, map}
use Rattle.rat_tree.specs.declared.program.RatUnit.{RatUnit}
use Rattle.rat_tree.specs.Views.{rat_routine_of}
use Rattle.rat_parse_table.specs.declared.table.Production.TheVariants as productions
use Rattle.rat_parse_table.specs.declared.table.Nonterminal.TheVariants as nonterminals
use Rattle.rat_parse_table.specs.ParseTable.{predict_at}
use Rattle.rat_parse_values.specs.Parts.{as_units}
use Rattle.rat_descent.proofs.Productions.{lengthens_nothing}
use Rattle.rat_descent.proofs.Bodies.{units_line, units_more}
use Rattle.rat_descent.proofs.units.units.Goals.{in-LineEnd+in_ok-take_token-in-LineEnd, in_default+in_ok-unit-in_default+in_ok-push-in_default}
use Rattle.rat_descent.proofs.units.units.Goals as goal

pub returns-in-TextEnd : goal.returns-in-TextEnd
returns-in-TextEnd c =
    let rest = c.more.invariant (map rat_routine_of c.more.list.items) c.more.reader (lengthens_nothing productions.NoUnit as_units refl refl refl (ap (predict_at nonterminals.Units) c.in-TextEnd.is)) in
    record { value = rest.value; reads = rest.reads; is = ap (λ xs. map rat_routine_of xs ++ as_units rest.value) (sym c.new-list.ensures.items) ∙ rest.is }

pub more-preserved : goal.more-preserved
more-preserved c = λ all s more. c.more.invariant all s (elim c.match-reader.branch [
  | in-LineEnd+in_ok-take_token-in-LineEnd w ↦
      units_line c.more.list.items c.match-reader.list.items w.in_ok-take_token-in-LineEnd.ensures w.reader-is (ap (λ (l : Vec RatUnit Global). l.items) w.list-is) more
  | in_default+in_ok-unit-in_default+in_ok-push-in_default w ↦
      units_more c.more.list.items c.match-reader.list.items _ w.in_ok-unit-in_default.ensures w.reader-is
      (ap (λ (l : Vec RatUnit Global). l.items) w.list-is ∙ w.in_ok-push-in_default.ensures.items) more
])
