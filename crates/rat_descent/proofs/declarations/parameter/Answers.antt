-- Why `parameter` reads its nonterminal.
use Rattle.std.proofs.Common.{rules, ◌≡◌, refl, sym, ap, of_z, to_z, w64}
use Rattle.f66_tree.specs.Syntax.{Constant, Named}
use Rattle.rat_parse_table.specs.declared.table.Production.TheVariants as productions
use Rattle.rat_parse_values.specs.Values.{par}
use Rattle.rat_parse_values.specs.Parts.{kind_integer}
use Rattle.descent.specs.Reading.{done, next}
use Rattle.rat_descent.proofs.Productions.{production, as_value}
use Rattle.rat_descent.proofs.declarations.parameter.Goals as goal

pub returns-in_ok-number_token-in-Octal : goal.returns-in_ok-number_token-in-Octal
returns-in_ok-number_token-in-Octal c =
    let same : par (Constant (kind_integer c.in_ok-number_token-in-Octal.field-0.now.kind)) ≡ par (Constant (to_z w64 (of_z w64 c.integer_of_kind.result))) = search rules in
    as_value same (production productions.NumberPar refl refl refl refl (next c.in_ok-number_token-in-Octal.ensures done))

pub returns-in_ok-name_of-in_default : goal.returns-in_ok-name_of-in_default
returns-in_ok-name_of-in_default c =
    as_value (ap (λ x. par (Named x)) (sym c.in_ok-name_of-in_default.ensures))
    (production productions.NamePar refl refl refl refl (next c.in_ok-name_token-in_default.ensures done))
