-- Why `leave_count` reads its nonterminal.
use Rattle.std.proofs.Common.{refl, sym, ap, ⊎_elim}
use Rattle.rat_parse_table.specs.declared.table.Nonterminal.TheVariants as nonterminals
use Rattle.rat_parse_table.specs.declared.table.Production.TheVariants as productions
use Rattle.rat_parse_table.specs.ParseTable.{predict_at}
use Rattle.descent.specs.Reading.{done, next}
use Rattle.rat_descent.proofs.Productions.{production, nothing}
use Rattle.rat_descent.proofs.statements.leave_count.Goals as goal

pub returns-in_ok-number_token-in-Octal : goal.returns-in_ok-number_token-in-Octal
returns-in_ok-number_token-in-Octal c = record {
  value = _;
  reads = production productions.SomeCount refl refl refl refl (next c.in_ok-number_token-in-Octal.ensures done);
  is = sym c.number_of.ensures;
}

pub returns-in-Semicolon : goal.returns-in-Semicolon
returns-in-Semicolon c = record {
  value = _;
  reads = nothing productions.NoCount refl refl (⊎_elim (λ e. ap (predict_at nonterminals.Count) e)
      (⊎_elim (λ e. ap (predict_at nonterminals.Count) e) (⊎_elim (λ e. ap (predict_at nonterminals.Count) e) (λ e. ap (predict_at nonterminals.Count) e)))
      c.in-Semicolon.is);
  is = refl;
}
