-- Sound units whose texts fit their cards can be written as a deck.
use Rattle.std.proofs.Common.{◌≡◌, ◌≤◌, ℕ, suc, false, ◌||◌, ◌==◌, List, [], ◌∷◌, length, Option, Some, None, unwrap_or, map, refl, ap, ◌∙◌, subst, option_map, arith}
use Rattle.std.specs.Prelude.{nat_lt, if◌then◌else◌}
use Rattle.std.specs.List.{All, AllByRecursion, slice_get, slice_index_or}
use Rattle.std.proofs.lemmas.Bool.{or_parts, le-ltb, ltb-false}
use Rattle.std.proofs.lemmas.List.Elements.{All-nil, All-cons, All-head, All-tail}
use Rattle.std.proofs.lemmas.Option.{slice_get-map, slice_get-get_or}
use Rattle.ground.specs.declared.place.Place.{Place}
use Rattle.rule_table.specs.declared.rule.Rule.TheVariants.{BadLabel}
use Rattle.rule_table.specs.Words.{is_some_and, is_below}
use Rattle.f66_tree.specs.Syntax.{Line, Routine}
use Rattle.f66_tree.specs.Views.{line_of, lines_of, routine_of}
use Rattle.f66_tree.specs.declared.unit.Unit.{Unit}
use Rattle.f66_flow.specs.Ranges.{label_place}
use Rattle.f66_flow.specs.FlowRules.{breaks_flow, has_bad_label}
use Rattle.f66_flow.specs.declared.scope.Scope.TheVariants.{Whole}
use Rattle.f66_soundness.specs.SoundUnits.{acts_in_unit}
use Rattle.f66_check.specs.CheckRules.{context_of}
use Rattle.f66_check.specs.UnitChecks.{breaks_statement}
use Rattle.f66_check.specs.Answers.{IsSoundUnit}
use Rattle.stmt_text.specs.Texts.{header_text, statement_text}
use Rattle.stmt_text.specs.Fitting.{FitsCards, IsPrintable}
use Rattle.deck.specs.Decks.{HasCardLabels}
use Rattle.deck.specs.LongTexts.{limit_nine, fault_of_text, fault_of_line, or_else, first_fault, fault_of_unit, fault_of_deck}

-- ---- texts ----

text_fits : (p : Place) (text : List ℕ) → length text ≤ 1320 → fault_of_text p text ≡ None
text_fits p text h = ap (λ b. if b then limit_nine p else None) (le-ltb 1320 (length text) h)

lines_fit : (lines : List Line) → AllByRecursion FitsCards lines → first_fault fault_of_line lines ≡ None
lines_fit [] h = refl
lines_fit (s ∷ rest) h =
    ap (λ o. or_else o (first_fault fault_of_line rest)) (text_fits s.place (statement_text s.act) h.0)
    ∙ lines_fit rest h.1

unit_fits : (u : Routine) → IsPrintable u → fault_of_unit u ≡ None
unit_fits u h = ap (λ o. or_else o (first_fault fault_of_line u.lines)) (text_fits u.place (header_text u.header) h.header) ∙ lines_fit u.lines h.lines

-- ---- labels ----

label_fits : (lines : List Line) (i : ℕ) (label : Option ℕ) → is_some_and (λ l. l == 0 || (nat_lt 99999 l || is_below i (label_place lines l))) label ≡ false → unwrap_or label 0 ≤ 99999
label_fits lines i None h = omega arith
label_fits lines i (Some l) h =
    let far : nat_lt 99999 l ≡ false = (or_parts (nat_lt 99999 l) _ (or_parts (l == 0) _ h).1).0 in
    ltb-false 99999 l far

flow_clean : (u : Routine) → IsSoundUnit u → (i : ℕ) (s : Line) → slice_get u.lines i ≡ Some s → breaks_flow Whole u.header u.lines i s BadLabel ≡ false
flow_clean u sound i s is =
    (or_parts (breaks_flow Whole u.header u.lines i s BadLabel) _
    (subst (λ o. is_some_and (λ t. breaks_statement Whole (context_of u) (acts_in_unit u.lines) u.lines i t BadLabel) o ≡ false) is (sound.clean (suc i) BadLabel))).0

labels_fit : (unit : Unit) → IsSoundUnit (routine_of unit) → HasCardLabels unit
labels_fit unit sound k d l =
    let all = unit.statements.items in
    let at : slice_get all k ≡ Some (slice_index_or all k d) = slice_get-get_or all k d l in
    let line : slice_get (lines_of all) k ≡ Some (line_of (slice_index_or all k d)) = slice_get-map line_of all k ∙ ap (option_map line_of) at in
    let labels = flow_clean (routine_of unit) sound k (line_of (slice_index_or all k d)) line in
    label_fits (lines_of all) k (slice_index_or all k d).label (or_parts (has_bad_label (lines_of all) k (line_of (slice_index_or all k d))) _ labels).0

-- ---- all units ----

pub deck_fits : (units : List Routine) → All IsPrintable units → fault_of_deck units ≡ None
deck_fits [] h = refl
deck_fits (u ∷ units) h = ap (λ o. or_else o (fault_of_deck units)) (unit_fits u (All-head IsPrintable u units h)) ∙ deck_fits units (All-tail IsPrintable u units h)

pub all_labels_fit : (units : List Unit) → All IsSoundUnit (map routine_of units) → All HasCardLabels units
all_labels_fit [] h = All-nil HasCardLabels
all_labels_fit (u ∷ units) h =
    All-cons HasCardLabels u units (labels_fit u (All-head IsSoundUnit (routine_of u) (map routine_of units) h)) (all_labels_fit units (All-tail IsSoundUnit (routine_of u) (map routine_of units) h))
