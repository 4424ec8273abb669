-- Why `area_name` gives its nonterminal.
use Rattle.std.proofs.Common.{refl, sym, ap, Some}
use Rattle.rat_parse_table.specs.declared.table.Nonterminal.TheVariants as nonterminals
use Rattle.rat_parse_table.specs.declared.table.Production.TheVariants as productions
use Rattle.rat_parse_table.specs.ParseTable.{predict_at}
use Rattle.descent.specs.Reading.{done, next}
use Rattle.rat_descent.proofs.Productions.{production, nothing}
use Rattle.rat_descent.proofs.declarations.area_name.Goals as goal

pub returns-in-Slash : goal.returns-in-Slash
returns-in-Slash c = record {
  value = _;
  reads = nothing productions.NoArea refl refl (ap (predict_at nonterminals.AreaName) c.in-Slash.is);
  is = refl;
}

pub returns-in_ok-name_of-in_default : goal.returns-in_ok-name_of-in_default
returns-in_ok-name_of-in_default c = record {
  value = _;
  reads = production productions.SomeArea refl refl refl refl (next c.in_ok-name_token-in_default.ensures done);
  is = ap Some (sym c.in_ok-name_of-in_default.ensures);
}
