-- Why `part` reads its nonterminal.
use Rattle.std.proofs.Common.{refl, ap, ⊎_elim}
use Rattle.rat_parse_table.specs.declared.table.Nonterminal.TheVariants as nonterminals
use Rattle.rat_parse_table.specs.declared.table.Production.TheVariants as productions
use Rattle.rat_parse_table.specs.ParseTable.{predict_at}
use Rattle.descent.specs.Reading.{done, next}
use Rattle.rat_descent.proofs.Productions.{production, nothing}
use Rattle.rat_descent.proofs.statements.part.Goals as goal

pub returns-in_ok-simple-in-Name : goal.returns-in_ok-simple-in-Name
returns-in_ok-simple-in-Name c = record { value = _; reads = production productions.SomePart refl refl refl refl (next c.in_ok-simple-in-Name.ensures done); is = refl }

pub returns-in-Close : goal.returns-in-Close
returns-in-Close c = record {
  value = _;
  reads = nothing productions.NoPart refl refl (⊎_elim (λ e. ap (predict_at nonterminals.Part) e) (λ e. ap (predict_at nonterminals.Part) e) c.in-Close.is);
  is = refl;
}
