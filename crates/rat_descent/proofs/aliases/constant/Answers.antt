-- Why `constant` reads its nonterminal.
use Rattle.std.proofs.Common.{rules, ◌≡◌, refl, ap, of_z, to_z, w64}
use Rattle.f66_tree.specs.Syntax.{Int}
use Rattle.rat_parse_table.specs.declared.table.Production.TheVariants as productions
use Rattle.rat_parse_values.specs.Values.{formula}
use Rattle.rat_parse_values.specs.Parts.{kind_integer}
use Rattle.descent.specs.Reading.{done, next}
use Rattle.rat_descent.proofs.Productions.{production, as_value}
use Rattle.rat_descent.proofs.aliases.constant.Goals as goal

pub returns-in_ok-token-in-Octal : goal.returns-in_ok-token-in-Octal
returns-in_ok-token-in-Octal c =
    let same : kind_integer c.in_ok-token-in-Octal.token.now.kind ≡ to_z w64 (of_z w64 c.integer_of_kind.result) = search rules in
    as_value (ap (λ z. formula (Int z)) same) (production productions.NumberConstant refl refl refl refl (next c.in_ok-token-in-Octal.ensures done))

pub returns-in_ok-unnumbered-in_default : goal.returns-in_ok-unnumbered-in_default
returns-in_ok-unnumbered-in_default c = production productions.OtherConstant refl refl refl refl (next c.in_ok-unnumbered-in_default.ensures done)
