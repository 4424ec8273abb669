-- The labels of formats that the statements of a unit name are those of FORMATs.
use Rattle.std.proofs.Common.{◌≡◌, ℕ, zero, suc, ◌≤◌, Bool, true, false, true≢false, List, [], ◌∷◌, Option, Some, None, refl, sym, ap, ◌∙◌, subst, arith}
use Rattle.std.specs.Prelude.{◌&&◌, not, is_some, cond, if◌then◌else◌}
use Rattle.std.specs.List.{slice_get, list_any, list_all}
use Rattle.std.proofs.lemmas.Bool.{or_from}
use Rattle.rule_table.specs.Words.{is_some_and}
use Rattle.f66_tree.specs.Fields.{Fields}
use Rattle.f66_tree.specs.Syntax.{Header, MainUnit, SubUnit, FuncUnit, DataUnit, Text, Formula, Act, When, Read, Write, Format, Line}
use Rattle.f66_tree.specs.Units.{is_note, Note, notes_of, format_by, format_of}
use Rattle.f66_tree.specs.Execution.{has_label}
use Rattle.f66_flow.specs.Acts.{is_format, formats_named}
use Rattle.f66_flow.specs.Ranges.{named}
use Rattle.f66_flow.specs.FlowRules.{names_no_format}
use Rattle.rat_check.specs.Parts.{Form, Bare, RepeatHead, Statement, Condition, Selector, CaseList, ForHead, DoHead, LoopExit, ReturnHead, Part}
use Rattle.rat_check.specs.Said.{said_by, returned_act}
use Rattle.rat_check.specs.Rules.{is_plain, is_ratfor, UnitRules, finds_labels}
use Rattle.rat_check.proofs.CleanLemmas.{and_true}
use Rattle.rat_lower.specs.Checked.{bit}
use Rattle.rat_lower.proofs.Simulation.Counts.{occurs}
use Rattle.rat_lower.proofs.Simulation.Labels.{AreUnique}
use Rattle.rat_lower.proofs.Accepted.NoFault.{AllParts, AllFine, AllOf, SaysSo, values_so, prepared_so}
use Rattle.rat_lower.proofs.Soundness.Kept.{AllSay, Keeps, KeepsValues}

-- the notes behind a statement in front
abbrev noted : Line → List Note → List Note
noted s notes = if is_note s.act then (record { label = s.label; act = s.act } ∷ notes) else notes

-- a statement without the label gives no format to it
other_format : (l : ℕ) (o : Option ℕ) (a : Act) (other : Option Fields) → has_label l o ≡ false → format_by l o a other ≡ other
other_format l None a other e = refl
other_format l (Some m) (Format f) other e = ap (λ b. if b then Some f else other) e
other_format l (Some m) _ other e = refl

-- and neither does another statement than a FORMAT
no_format : (l : ℕ) (o : Option ℕ) (a : Act) (other : Option Fields) → is_format a ≡ false → format_by l o a other ≡ other
no_format l o (Format f) other e = absurd (true≢false e)
no_format l None _ other e = refl
no_format l (Some m) _ other e = refl

past : (l : ℕ) (s : Line) (notes : List Note) → ((other : Option Fields) → format_by l s.label s.act other ≡ other) → format_of l (noted s notes) ≡ format_of l notes
past l s notes none = by (is_note s.act)
  where
    by : (v : Bool) → format_of l (if v then (record { label = s.label; act = s.act } ∷ notes) else notes) ≡ format_of l notes
    by true = none (format_of l notes)
    by false = refl

none_without : (l : ℕ) (code : List Line) → occurs l code ≡ 0 → format_of l (notes_of code) ≡ None
none_without l [] e = refl
none_without l (s ∷ rest) e = by (has_label l s.label) refl (λ f. none_without l rest f)
  where
    by : (v : Bool) → has_label l s.label ≡ v → (occurs l rest ≡ 0 → format_of l (notes_of rest) ≡ None) → format_of l (noted s (notes_of rest)) ≡ None
    by true h later = absurd (omega (arith, e, ap bit h))
    by false h later = past l s (notes_of rest) (λ other. other_format l s.label s.act other h) ∙ later (omega (arith, e, ap bit h))

-- a label that has a format is that of a FORMAT
pub names_one : (l : ℕ) (code : List Line) → occurs l code ≤ 1 → is_some (format_of l (notes_of code)) ≡ true → names_no_format code l ≡ false
names_one l [] once e = absurd (true≢false (sym e))
names_one l (s ∷ rest) once e = by (has_label l s.label) refl (is_format s.act) refl (λ o f. names_one l rest o f)
  where
    by : (v : Bool) → has_label l s.label ≡ v → (f : Bool) → is_format s.act ≡ f → (occurs l rest ≤ 1 → is_some (format_of l (notes_of rest)) ≡ true → names_no_format rest l ≡ false) →
        not (is_some_and (λ t. is_format t.act) (cond (has_label l s.label) (Some s) (named rest l))) ≡ false
    by true h true f later = ap (λ b. not (is_some_and (λ t. is_format t.act) (cond b (Some s) (named rest l)))) h ∙ ap not f
    by true h false f later =
        let none : format_of l (notes_of (s ∷ rest)) ≡ None = past l s (notes_of rest) (λ other. no_format l s.label s.act other f) ∙ none_without l rest (omega (arith, once, ap bit h)) in
        absurd (true≢false (sym e ∙ ap is_some none))
    by false h f g later =
        let same : format_of l (notes_of (s ∷ rest)) ≡ format_of l (notes_of rest) = past l s (notes_of rest) (λ other. other_format l s.label s.act other h) in
        ap (λ b. not (is_some_and (λ t. is_format t.act) (cond b (Some s) (named rest l)))) h ∙ later (omega (arith, once)) (sym (ap is_some same) ∙ e)

-- ---- statements whose formats are there ----

-- each label of a format that a statement names has one
abbrev pub IsFormatted : List Note → Act → Type 0
IsFormatted notes a = list_all (λ l. is_some (format_of l notes)) (formats_named a) ≡ true

pub formatted_keeps : (notes : List Note) → Keeps (IsFormatted notes)
formatted_keeps notes = record { passes = refl; goes = λ l. refl; stops = refl; denied = λ e l h. refl; counts = λ l x a b c h. refl }

pub formatted_values : (notes : List Note) (spare : Text) → KeepsValues (IsFormatted notes) spare
formatted_values notes spare = record { compared = λ e l h. refl; stored = λ e h. refl }

module _ (code : List Line) (unique : AreUnique code) where
  all_named : (ls : List ℕ) → list_all (λ l. is_some (format_of l (notes_of code))) ls ≡ true → list_any (names_no_format code) ls ≡ false
  all_named [] e = refl
  all_named (l ∷ ls) e =
      let k = and_true (is_some (format_of l (notes_of code))) (list_all (λ m. is_some (format_of m (notes_of code))) ls) e in
      or_from (names_no_format code l) _ (names_one l code (unique l) k.0) (all_named ls k.1)

  pub formats_named_right : (part : List Line) → AllSay (IsFormatted (notes_of code)) part → (i : ℕ) (s : Line) → slice_get part i ≡ Some s → list_any (names_no_format code) (formats_named s.act) ≡ false
  formats_named_right [] h i s is = absurd (cc)
  formats_named_right (x ∷ rest) h zero s is = let same : x ≡ s = cc in subst (λ y. list_any (names_no_format code) (formats_named y.act) ≡ false) same (all_named (formats_named x.act) h.0)
  formats_named_right (x ∷ rest) h (suc i) s is = formats_named_right rest h.1 i s is

-- ---- the source ----

module _ (u : UnitRules) (notes : List Note) (has : (m : ℕ) → u.formats m ≡ true → is_some (format_of m notes) ≡ true) where
  -- a plain statement of Ratfor
  act_formatted : (a : Act) (reached : Bool) → is_plain a ≡ true → finds_labels u.formats reached (Statement a) ≡ true → IsFormatted notes a
  act_formatted (Read p l es) reached plain found = ap (λ b. b && true) (has l found)
  act_formatted (Write p l es) reached plain found = ap (λ b. b && true) (has l found)
  act_formatted (When e a) reached plain found = absurd (true≢false (sym plain))
  act_formatted _ reached plain found = refl

  returned_formatted : (k : Header) (e : Formula) → IsFormatted notes (returned_act k e)
  returned_formatted MainUnit e = refl
  returned_formatted (SubUnit x ds) e = refl
  returned_formatted (FuncUnit t x ds) e = refl
  returned_formatted DataUnit e = refl

  form_formatted : (form : Form) (reached : Bool) → is_ratfor form ≡ true → finds_labels u.formats reached form ≡ true → AllOf (IsFormatted notes) (said_by u.context.header form)
  form_formatted (Statement a) reached is found = (act_formatted a reached is found, tt)
  form_formatted Bare reached is found = tt
  form_formatted RepeatHead reached is found = tt
  form_formatted (Condition e) reached is found = (refl, tt)
  form_formatted (Selector e) reached is found = (refl, tt)
  form_formatted (CaseList es second) reached is found = values_so (IsFormatted notes) (λ e. refl) es
  form_formatted (ForHead a e b) reached is found = prepared_so (IsFormatted notes) (λ x f. refl) (λ x es. refl) (λ f. refl) a e b is
  form_formatted (DoHead x a b d) reached is found = (refl, tt)
  form_formatted (LoopExit n) reached is found = tt
  form_formatted (ReturnHead None) reached is found = tt
  form_formatted (ReturnHead (Some e)) reached is found = (returned_formatted u.context.header e, tt)

  pub parts_formatted : (vs : List Part) → AllFine u vs → AllParts (SaysSo u.context.header (IsFormatted notes)) vs
  parts_formatted [] h = tt
  parts_formatted (v ∷ vs) h = (form_formatted v.form v.reached h.0.ratfor h.0.found, parts_formatted vs h.1)
