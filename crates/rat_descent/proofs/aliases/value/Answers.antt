-- Why `value` reads its nonterminal.
use Rattle.std.proofs.Common.{rules, ◌≡◌, refl, sym, ap, ◌∙◌, of_z, to_z, w64}
use Rattle.f66_tree.specs.Syntax.{Int}
use Rattle.f66_tree.specs.Views.{formula_of}
use Rattle.rat_parse_table.specs.declared.table.Production.TheVariants as productions
use Rattle.rat_parse_values.specs.Values.{datum}
use Rattle.rat_parse_values.specs.Parts.{kind_integer}
use Rattle.descent.specs.Reading.{done, next}
use Rattle.rat_descent.proofs.Productions.{production, nothing, otherwise, as_value}
use Rattle.rat_descent.proofs.aliases.value.Goals as goal

pub returns-then-not-is_at : goal.returns-then-not-is_at
returns-then-not-is_at c =
    let same : kind_integer c.in_ok-number-in-Octal.number.now.kind ≡ to_z w64 (of_z w64 c.integer_of_kind.result) = search rules in
    as_value (ap (λ z. datum 1 (Int z)) same)
    (production productions.NumberDatum refl refl refl refl (next c.in_ok-number-in-Octal.ensures (next (nothing productions.Once refl refl (otherwise _ _ _ (sym c.is_at.ensures ∙ c.if-not-is_at.true))) done)))

pub returns-in_ok-e-in-Octal : goal.returns-in_ok-e-in-Octal
returns-in_ok-e-in-Octal c =
    as_value (ap (λ n. datum n (formula_of c.in_ok-e-in-Octal.e)) (sym c.number_of.ensures))
    (production productions.NumberDatum refl refl refl refl (next c.in_ok-number-in-Octal.ensures
    (next (production productions.Repeated refl refl refl refl (next c.in_ok-take_token-in-Octal.ensures (next c.in_ok-e-in-Octal.ensures done))) done)))

pub returns-in_ok-e-in_default : goal.returns-in_ok-e-in_default
returns-in_ok-e-in_default c = production productions.OtherDatum refl refl refl refl (next c.in_ok-e-in_default.ensures done)
