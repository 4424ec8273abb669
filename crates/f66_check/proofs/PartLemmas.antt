-- The parts of a unit one after another, and a unit as the tables of its names and of its labels see it.
use Rattle.std.proofs.Common.{◌≡◌, ◌<◌, ◌≤◌, ◌+◌, ◌-◌, ℕ, zero, suc, Bool, false, Option, Some, None, List, [], ◌∷◌, map, length, MatchOption, option_map, refl, ap, sym, ◌∙◌, subst, arith, add-one, inl, inr}
use Rattle.std.specs.Prelude.{Result, Ok, Err, IfOk}
use Rattle.std.specs.declared.alloc.AllocError.{AllocError}
use Rattle.std.specs.List.{slice_get}
use Rattle.std.proofs.lemmas.Option.{slice_get-map, slice_get_past}
use Rattle.std.proofs.lemmas.Bool.{or_parts, cases_lt}
use Rattle.rule_table.specs.FaultRules.{rule_number}
use Rattle.rule_table.specs.declared.rule.Rule.{Rule}
use Rattle.rule_table.specs.First.{IsFirst, IsClean}
use Rattle.rule_table.specs.FaultRules.{first_rule}
use Rattle.rule_table.specs.Words.{is_some_and}
use Rattle.rule_table.proofs.RuleLemmas.{part_first, part_clean}
use Rattle.f66_tree.specs.Syntax.{Act, Line, Routine}
use Rattle.f66_tree.specs.Units.{Context}
use Rattle.f66_tree.specs.Views.{act_of, line_of, lines_of, header_of, routine_of}
use Rattle.f66_tree.specs.declared.statement.Stmt.{Stmt}
use Rattle.f66_names.specs.declared.saying.Saying.{Saying}
use Rattle.f66_tree.specs.declared.unit.Unit.{Unit}
use Rattle.f66_names.specs.declared.declarations.Declarations.{Declarations}
use Rattle.f66_names.specs.ActViews.{acts_of as said_by}
use Rattle.f66_names.specs.Declaring.{context_by}
use Rattle.f66_names.specs.DeclarationViews.{context_in, acts_in}
use Rattle.f66_flow.specs.declared.scope.Scope.{Scope}
use Rattle.f66_flow.specs.FlowRules.{breaks_flow, breaks_flow_at}
use Rattle.f66_soundness.specs.SoundUnits.{acts_in_unit}
use Rattle.f66_check.specs.CheckRules.{context_of}
use Rattle.f66_check.specs.UnitChecks.{breaks_statement, breaks_piece, breaks_unit}
use Rattle.f66_check.specs.Answers.{place_at, IsFaultless}

-- what the part behind the statements before i breaks is what the statement breaks
part_at : (w : Scope) (c : Context) (acts : List Act) (all : List Stmt) (i : ℕ) (s : Stmt) → slice_get all i ≡ Some s →
    breaks_piece w c acts (lines_of all) (i + 1) ≡ breaks_statement w c acts (lines_of all) i (line_of s)
part_at w c acts all i s e =
    ap (breaks_piece w c acts (lines_of all)) (add-one i)
    ∙ ap (λ o. λ k. is_some_and (λ t. breaks_statement w c acts (lines_of all) i t k) o) (slice_get-map line_of all i ∙ ap (option_map line_of) e)

pub statement_first : (w : Scope) (c : Context) (acts : List Act) (all : List Stmt) (i : ℕ) (s : Stmt) (rule : Rule) → slice_get all i ≡ Some s →
    Some rule ≡ first_rule (breaks_statement w c acts (lines_of all) i (line_of s)) →
    ((j : ℕ) (k : Rule) → j < i + 1 → breaks_piece w c acts (lines_of all) j k ≡ false) →
    IsFirst rule_number (breaks_piece w c acts (lines_of all)) (i + 1) rule
statement_first w c acts all i s rule e found before =
    part_first (breaks_piece w c acts (lines_of all)) (i + 1) rule (found ∙ ap first_rule (sym (part_at w c acts all i s e))) before

pub statement_clean : (w : Scope) (c : Context) (acts : List Act) (all : List Stmt) (i : ℕ) (s : Stmt) → slice_get all i ≡ Some s →
    None ≡ first_rule (breaks_statement w c acts (lines_of all) i (line_of s)) →
    ((j : ℕ) (k : Rule) → j < i + 1 → breaks_piece w c acts (lines_of all) j k ≡ false) →
    (j : ℕ) (k : Rule) → j < i + 1 + 1 → breaks_piece w c acts (lines_of all) j k ≡ false
statement_clean w c acts all i s e found before =
    part_clean (breaks_piece w c acts (lines_of all)) (i + 1) (found ∙ ap first_rule (sym (part_at w c acts all i s e))) before

-- a header that breaks one
pub header_first : (breaks : ℕ → Rule → Bool) (rule : Rule) → Some rule ≡ first_rule (breaks 0) → IsFirst rule_number breaks 0 rule
header_first breaks rule found = part_first breaks 0 rule found (λ j k h. absurd (omega arith))

-- a header that breaks no rule
pub header_clean : (breaks : ℕ → Rule → Bool) → None ≡ first_rule (breaks 0) → (j : ℕ) (k : Rule) → j < 0 + 1 → breaks j k ≡ false
header_clean breaks found = part_clean breaks 0 found (λ j k h. absurd (omega arith))

-- there is nothing past the last statement
past : (w : Scope) (c : Context) (acts : List Act) (all : List Stmt) (i : ℕ) (k : Rule) → length all ≤ i → breaks_piece w c acts (lines_of all) (suc i) k ≡ false
past w c acts all i k h =
    ap (is_some_and (λ s. breaks_statement w c acts (lines_of all) i s k)) (slice_get-map line_of all i ∙ ap (option_map line_of) (slice_get_past all i h))

-- a statement that breaks no rule breaks none of order, labels and DO ranges
flow_clean : (w : Scope) (c : Context) (acts : List Act) (lines : List Line) (j : ℕ) (k : Rule) → breaks_piece w c acts lines (suc j) k ≡ false → breaks_flow_at w c.header lines j k ≡ false
flow_clean w c acts lines j k h = by_line (slice_get lines j) h
  where
    by_line : (o : Option Line) → is_some_and (λ s. breaks_statement w c acts lines j s k) o ≡ false → is_some_and (λ s. breaks_flow w c.header lines j s k) o ≡ false
    by_line None e = refl
    by_line (Some s) e = (or_parts (breaks_flow w c.header lines j s k) _ e).0

pub flow_before : (w : Scope) (c : Context) (acts : List Act) (lines : List Line) (i : ℕ) → ((j : ℕ) (k : Rule) → j < i + 1 → breaks_piece w c acts lines j k ≡ false) →
    (j : ℕ) (k : Rule) → j < i → breaks_flow_at w c.header lines j k ≡ false
flow_before w c acts lines i before j k h = flow_clean w c acts lines j k (before (suc j) k (omega arith))

pub all_clean : (w : Scope) (c : Context) (acts : List Act) (all : List Stmt) (n : ℕ) → length all ≤ n →
    ((j : ℕ) (k : Rule) → j < n + 1 → breaks_piece w c acts (lines_of all) j k ≡ false) → IsClean (breaks_piece w c acts (lines_of all))
all_clean w c acts all n h before zero k = before zero k (omega arith)
all_clean w c acts all n h before (suc i) k =
    elim (cases_lt i n) [ inl less ↦ before (suc i) k (omega (arith, less)) | inr most ↦ past w c acts all i k (omega (arith, h, most)) ]

-- ---- a unit as its tables see it ----

acts_are : (all : List Stmt) → acts_in_unit (lines_of all) ≡ map (λ s. act_of s.kind) all
acts_are [] = refl
acts_are (s ∷ rest) = ap (λ acts. act_of s.kind ∷ acts) (acts_are rest)

-- what the statements of a unit say, and what its names mean, by the tables of its names
pub acts_told : (d : Declarations) (unit : Unit) (sayings : List Saying) → d.sayings.now ≡ sayings →
    said_by sayings ≡ map (λ s. act_of s.kind) unit.statements.items → acts_in d ≡ acts_in_unit (lines_of unit.statements.items)
acts_told d unit sayings e h = ap said_by e ∙ h ∙ sym (acts_are unit.statements.items)

pub context_told : (d : Declarations) (unit : Unit) → d.header.now ≡ unit.header → acts_in d ≡ acts_in_unit (lines_of unit.statements.items) → context_in d ≡ context_of (routine_of unit)
context_told d unit e h = ap (λ x. context_by (header_of x) (acts_in d)) e ∙ ap (context_by (header_of unit.header)) h

first_told : (w : Scope) (u : Routine) (o : Option (ℕ × Rule)) →
    MatchOption o (IsClean (breaks_unit w u)) (λ r. IsFirst rule_number (breaks_unit w u) r.0 r.1) →
    MatchOption o (IsFaultless w u) (λ r. IsFirst rule_number (breaks_unit w u) r.0 r.1)
first_told w u None told = record { clean = told }
first_told w u (Some r) told = told

-- what the rules tell of a unit
told_of : (w : Scope) (u : Routine) (c : Context) (acts : List Act) (lines : List Line) (o : Option (ℕ × Rule)) →
    c ≡ context_of u → acts ≡ acts_in_unit u.lines → lines ≡ u.lines →
    MatchOption o (IsClean (breaks_piece w c acts lines)) (λ r. IsFirst rule_number (breaks_piece w c acts lines) r.0 r.1) →
    MatchOption o (IsFaultless w u) (λ r. IsFirst rule_number (breaks_unit w u) r.0 r.1)
told_of w u c acts lines o same_context same_acts same_lines told =
    first_told w u o
    (subst (λ d. MatchOption o (IsClean (breaks_piece w d (acts_in_unit u.lines) u.lines)) (λ r. IsFirst rule_number (breaks_piece w d (acts_in_unit u.lines) u.lines) r.0 r.1)) same_context
    (subst (λ xs. MatchOption o (IsClean (breaks_piece w c xs u.lines)) (λ r. IsFirst rule_number (breaks_piece w c xs u.lines) r.0 r.1)) same_acts
    (subst (λ ys. MatchOption o (IsClean (breaks_piece w c acts ys)) (λ r. IsFirst rule_number (breaks_piece w c acts ys) r.0 r.1)) same_lines told)))

-- the same of what the rules answer, or of want of memory
pub told_by : (w : Scope) (u : Routine) (c : Context) (acts : List Act) (lines : List Line) (r : Result (Option (ℕ × Rule)) AllocError) →
    c ≡ context_of u → acts ≡ acts_in_unit u.lines → lines ≡ u.lines →
    IfOk r (λ o. MatchOption o (IsClean (breaks_piece w c acts lines)) (λ p. IsFirst rule_number (breaks_piece w c acts lines) p.0 p.1)) →
    IfOk r (λ o. MatchOption o (IsFaultless w u) (λ p. IsFirst rule_number (breaks_unit w u) p.0 p.1))
told_by w u c acts lines (Ok o) same_context same_acts same_lines told = told_of w u c acts lines o same_context same_acts same_lines told
told_by w u c acts lines (Err e) same_context same_acts same_lines told = tt

-- ---- the answers ----

pub header_place : (u : Routine) (n : ℕ) → n ≡ 0 → place_at u n ≡ Some u.place
header_place u n e = ap (place_at u) e

pub statement_place : (unit : Unit) (n : ℕ) (s : Stmt) → 0 < n → slice_get unit.statements.items (n - 1) ≡ Some s → place_at (routine_of unit) n ≡ Some s.place
statement_place unit n s h e =
    let behind : n ≡ suc (n - 1) = omega (arith, h) in
    ap (place_at (routine_of unit)) behind ∙ ap (option_map (λ t. t.place)) (slice_get-map line_of unit.statements.items (n - 1) ∙ ap (option_map line_of) e)
