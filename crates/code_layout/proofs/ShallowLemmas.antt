-- The groups of the formats of a sound unit nest at most two deep.
use Rattle.std.proofs.Common.{◌≡◌, ℕ, zero, suc, ◌≤◌, true, false, List, [], ◌∷◌, Some, refl, subst, arith}
use Rattle.std.specs.List.{All, slice_get}
use Rattle.std.proofs.lemmas.Bool.{and_parts, or_parts, not-false}
use Rattle.std.proofs.lemmas.List.Elements.{All-nil, All-cons}
use Rattle.rule_table.specs.declared.rule.Rule.TheVariants.{BadFormat}
use Rattle.rule_table.specs.Words.{is_some_and}
use Rattle.f66_tree.specs.Fields.{Fields, NoField, Single, Group}
use Rattle.f66_tree.specs.Syntax.{Act, Format, Line, Routine}
use Rattle.f66_names.specs.StoreRules.{are_fit, has_bad_format, is_between, is_fit_edit}
use Rattle.f66_flow.specs.FlowRules.{breaks_flow}
use Rattle.f66_flow.specs.declared.scope.Scope.TheVariants.{Whole}
use Rattle.f66_soundness.specs.SoundUnits.{acts_in_unit}
use Rattle.f66_check.specs.CheckRules as check
use Rattle.f66_check.specs.UnitChecks.{breaks_statement}
use Rattle.f66_check.specs.Answers.{IsSoundUnit}
use Rattle.format_io.specs.Places.{depth}
use Rattle.code_emit.specs.Plans.{format_then, formats_in}

fit_depth : (n : ℕ) (fs : Fields) → are_fit n fs ≡ true → depth fs ≤ n
fit_depth n NoField is = omega arith
fit_depth n (Single m s fs) is = fit_depth n fs (and_parts (is_fit_edit m s) _ is).1
fit_depth zero (Group m inside fs) is = cc is
fit_depth (suc n) (Group m inside fs) is =
    let p = and_parts (are_fit n inside) _ (and_parts (is_between 1 999 m) _ is).1 in
    let deep : depth inside ≤ n = fit_depth n inside p.0 in
    let wide : depth fs ≤ suc n = fit_depth (suc n) fs p.1 in
    grind arith

abbrev IsShallow : Fields → Type 0
IsShallow f = depth f ≤ 2

then_shallow : (a : Act) (rest : List Fields) → has_bad_format a ≡ false → All IsShallow rest → All IsShallow (format_then a rest)
then_shallow (Format fs) rest fit all = All-cons IsShallow fs rest (fit_depth 2 fs (not-false _ fit)) all
then_shallow _ rest fit all = all

lines_shallow : (lines : List Line) → ((i : ℕ) (s : Line) → slice_get lines i ≡ Some s → has_bad_format s.act ≡ false) → All IsShallow (formats_in lines)
lines_shallow [] fit = All-nil IsShallow
lines_shallow (s ∷ rest) fit = then_shallow s.act (formats_in rest) (fit 0 s refl) (lines_shallow rest (λ i t is. fit (suc i) t is))

pub unit_shallow : (r : Routine) → IsSoundUnit r → All (λ f. depth f ≤ 2) (formats_in r.lines)
unit_shallow r sound =
    lines_shallow r.lines (λ i s is.
    (or_parts (breaks_flow Whole r.header r.lines i s BadFormat) _
    (subst (λ o. is_some_and (λ t. breaks_statement Whole (check.context_of r) (acts_in_unit r.lines) r.lines i t BadFormat) o ≡ false) is (sound.clean (suc i) BadFormat))).1)
