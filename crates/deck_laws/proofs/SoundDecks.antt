-- A sound unit fits its cards: its header and statements can be read back, their names are short, their labels and characters are
-- those of cards.
use Rattle.std.proofs.Common.{◌≡◌, ℕ, zero, suc, ◌≤◌, Bool, true, false, cond, List, [], ◌∷◌, length, Option, Some, None, refl, subst, arith}
use Rattle.std.specs.Prelude.{nat_lt, not, ◌==◌, ◌&&◌, ◌||◌, unwrap_or}
use Rattle.std.specs.List.{list_all, list_any, slice_get, AllByRecursion}
use Rattle.std.proofs.lemmas.Bool.{eqb-true, ltb-false, and_parts}
use Rattle.rule_table.specs.declared.rule.Rule.{Rule}
use Rattle.rule_table.specs.declared.rule.Rule.TheVariants.{Syntax, BadLabel, NameTooLong, BadFormat}
use Rattle.rule_table.specs.Words.{is_some_and, is_below}
use Rattle.f66_tree.specs.Syntax.{Text, Header, MainUnit, SubUnit, FuncUnit, DataUnit, Act, Loop, Line, Routine}
use Rattle.f66_tree.specs.Execution.{has_label}
use Rattle.f66_tree.specs.Units.{Context}
use Rattle.f66_names.specs.NameRules.{is_long}
use Rattle.f66_names.specs.Shapes as shapes
use Rattle.f66_names.specs.StoreRules.{has_bad_format}
use Rattle.f66_flow.specs.Acts.{is_executable, is_format, branches, formats_named}
use Rattle.f66_flow.specs.FlowRules.{has_bad_label, leads_nowhere, names_no_format, leads_wrong, has_no_end, has_wrong_label, breaks_flow, header_breaks_flow}
use Rattle.f66_flow.specs.Ranges.{label_place, named}
use Rattle.f66_flow.specs.declared.scope.Scope.TheVariants.{Whole}
use Rattle.f66_soundness.specs.SoundUnits.{acts_in_unit}
use Rattle.unit_rules.specs.Forms.{has_form}
use Rattle.unit_rules.specs.Heads.{has_dummies, header_names}
use Rattle.unit_rules.specs.UnitRules.{has_long_name, breaks_rule}
use Rattle.f66_check.specs.Answers.{IsSoundUnit}
use Rattle.f66_check.specs.CheckRules.{context_of}
use Rattle.f66_check.specs.UnitChecks.{breaks_statement}
use Rattle.deck.specs.ReadableStatements.{IsLabelInRange, IsReadableAct}
use Rattle.deck.specs.Written.{label_if}
use Rattle.deck_laws.specs.Fitting.{IsShallow, IsFittingLine, IsPrintableLine, IsFittingUnit, IsPrintableUnit, FitsDeck}
use Rattle.deck_laws.specs.Headers.{IsShortName, IsReadableHeader}
use Rattle.deck_laws.specs.Whole.{IsWhole, IsShallowUnit, IsSoundDeck}
use Rattle.deck_laws.proofs.PrintedTexts.{act_printable}
use Rattle.deck_laws.proofs.SoundExpressions.{name_same}
use Rattle.deck_laws.proofs.SoundForms.{HasLabels, EndsInRange, act_readable}
use Rattle.deck_laws.proofs.SoundNames.{names_are_short}

parts : (a b : Bool) → (a || b) ≡ false → (a ≡ false) × (b ≡ false)
parts true b is = absurd cc
parts false b is = (refl, is)

not_false : (b : Bool) → not b ≡ false → b ≡ true
not_false true is = refl
not_false false is = absurd cc

-- ---- what the rules say of each statement ----

-- a label that cards may have
abbrev FitsLabel : Option ℕ → Type 0
FitsLabel None = Unit {0}
FitsLabel (Some l) = ((l == 0) ≡ false) × (l ≤ 99999)

label_fits : (lines : List Line) (i : ℕ) (o : Option ℕ) → is_some_and (λ l. l == 0 || (nat_lt 99999 l || is_below i (label_place lines l))) o ≡ false → FitsLabel o
label_fits lines i None is = tt
label_fits lines i (Some l) is =
    let one = parts (l == 0) (nat_lt 99999 l || is_below i (label_place lines l)) is in
    let two = parts (nat_lt 99999 l) (is_below i (label_place lines l)) one.1 in
    (one.0, ltb-false 99999 l two.0)

record IsHeld (lines : List Line) (s : Line) : Type 0 where
  formed : has_form s.act ≡ true
  short : has_long_name s.act ≡ false
  fit : has_bad_format s.act ≡ false
  label : FitsLabel s.label
  leads : leads_wrong lines s.act ≡ false
  ends : has_no_end lines s.act ≡ false

held : (c : Context) (acts : List Act) (lines : List Line) (i : ℕ) (s : Line) → ((k : Rule) → breaks_statement Whole c acts lines i s k ≡ false) → IsHeld lines s
held c acts lines i s all =
    let form = parts (breaks_flow Whole c.header lines i s Syntax) (not (has_form s.act)) (all Syntax) in
    let labels = parts (has_wrong_label Whole lines i s) (breaks_rule c acts i s.act BadLabel) (all BadLabel) in
    let one = parts (has_bad_label lines i s) (leads_wrong lines s.act || has_no_end lines s.act) labels.0 in
    let two = parts (leads_wrong lines s.act) (has_no_end lines s.act) one.1 in
    record {
      formed = not_false (has_form s.act) form.1;
      short = all NameTooLong;
      fit = all BadFormat;
      label = label_fits lines i s.label one.0;
      leads = two.0;
      ends = two.1;
    }

each : (test : ℕ → Line → Rule → Bool) (Q : Line → Type 0) → ((i : ℕ) (s : Line) → ((k : Rule) → test i s k ≡ false) → Q s) → (rest : List Line) → ((i : ℕ) (k : Rule) → is_some_and (λ s. test i s k) (slice_get rest i) ≡ false) → AllByRecursion Q rest
each test Q gives [] all = tt
each test Q gives (s ∷ rest) all = (gives zero s (λ k. all zero k), each (λ i. test (suc i)) Q (λ i. gives (suc i)) rest (λ i k. all (suc i) k))

all_held : (unit : Routine) → IsSoundUnit unit → AllByRecursion (IsHeld unit.lines) unit.lines
all_held unit sound =
    each (λ i s k. breaks_statement Whole (context_of unit) (acts_in_unit unit.lines) unit.lines i s k) (IsHeld unit.lines) (held (context_of unit) (acts_in_unit unit.lines) unit.lines) unit.lines (λ i k. sound.clean (suc i) k)

-- ---- labels ----

abbrev HaveLabels : List Line → Type 0
HaveLabels lines = AllByRecursion (λ (s : Line). FitsLabel s.label) lines

labels_of : (all : List Line) (lines : List Line) → AllByRecursion (IsHeld all) lines → HaveLabels lines
labels_of all [] held = tt
labels_of all (s ∷ lines) held = (held.0.label, labels_of all lines held.1)

by_label : (l : ℕ) (o : Option ℕ) → has_label l o ≡ true → FitsLabel o → l ≤ 99999
by_label l None is fits = absurd cc
by_label l (Some m) is fits = let same : m ≡ l = eqb-true m l is in let low : m ≤ 99999 = fits.1 in omega (arith, same, low)

found : (q : Line → Bool) (l : ℕ) (lines : List Line) → HaveLabels lines → is_some_and q (named lines l) ≡ true → l ≤ 99999
found q l [] fits is = absurd cc
found q l (s ∷ lines) fits is = by (has_label l s.label) refl (λ rest. found q l lines fits.1 rest) is
  where
    by : (b : Bool) → has_label l s.label ≡ b → (is_some_and q (named lines l) ≡ true → l ≤ 99999) → is_some_and q (cond (has_label l s.label) (Some s) (named lines l)) ≡ true → l ≤ 99999
    by true here rest is = by_label l s.label here fits.0
    by false here rest is = rest (subst (λ (b : Bool). is_some_and q (cond b (Some s) (named lines l)) ≡ true) here is)

low_label : (l : ℕ) → l ≤ 99999 → IsLabelInRange l
low_label l low = omega (arith, low)

leads : (lines : List Line) (l : ℕ) → HaveLabels lines → leads_nowhere lines l ≡ false → IsLabelInRange l
leads lines l fits is = low_label l (found (λ s. is_executable s.act) l lines fits (not_false (is_some_and (λ s. is_executable s.act) (named lines l)) is))

names : (lines : List Line) (l : ℕ) → HaveLabels lines → names_no_format lines l ≡ false → IsLabelInRange l
names lines l fits is = low_label l (found (λ s. is_format s.act) l lines fits (not_false (is_some_and (λ s. is_format s.act) (named lines l)) is))

all_low : (test : ℕ → Bool) → ((l : ℕ) → test l ≡ false → IsLabelInRange l) → (ls : List ℕ) → list_any test ls ≡ false → AllByRecursion IsLabelInRange ls
all_low test gives [] is = tt
all_low test gives (l ∷ ls) is = let both = parts (test l) (list_any test ls) is in (gives l both.0, all_low test gives ls both.1)

labels_low : (lines : List Line) (a : Act) → HaveLabels lines → leads_wrong lines a ≡ false → HasLabels a
labels_low lines a fits is =
    let both = parts (list_any (leads_nowhere lines) (branches a)) (list_any (names_no_format lines) (formats_named a)) is in
    record { jumps = all_low (leads_nowhere lines) (λ l. leads lines l fits) (branches a) both.0; formats = all_low (names_no_format lines) (λ l. names lines l fits) (formats_named a) both.1 }

ends_low : (lines : List Line) (a : Act) → HaveLabels lines → has_no_end lines a ≡ false → EndsInRange a
ends_low lines (Loop l x a b c) fits is = leads lines l fits is
ends_low lines _ fits is = tt

-- ---- each statement ----

read_label : (o : Option ℕ) → FitsLabel o → label_if (unwrap_or o 0) ≡ o
read_label None fits = refl
read_label (Some l) fits = let some = fits.0 in rw some refl

small_label : (o : Option ℕ) → FitsLabel o → unwrap_or o 0 ≤ 99999
small_label None fits = omega arith
small_label (Some l) fits = fits.1

line_readable : (all : List Line) (s : Line) → HaveLabels all → IsHeld all s → IsWhole s.act → IsReadableAct s.act
line_readable all s fits held whole = act_readable s.act held.formed held.fit whole (labels_low all s.act fits held.leads) (ends_low all s.act fits held.ends)

lines_fit : (all lines : List Line) → HaveLabels all → AllByRecursion (IsHeld all) lines → AllByRecursion (λ (s : Line). IsWhole s.act) lines → AllByRecursion (λ (s : Line). IsShallow s.act) lines → AllByRecursion IsFittingLine lines
lines_fit all [] fits held whole shallow = tt
lines_fit all (s ∷ lines) fits held whole shallow = (
  record {
    readable = record { act = line_readable all s fits held.0 whole.0; label = read_label s.label held.0.label };
    names = names_are_short s.act held.0.formed held.0.short;
    shallow = shallow.0;
  },
  lines_fit all lines fits held.1 whole.1 shallow.1,
)

lines_printable : (all lines : List Line) → HaveLabels all → AllByRecursion (IsHeld all) lines → AllByRecursion (λ (s : Line). IsWhole s.act) lines → AllByRecursion IsPrintableLine lines
lines_printable all [] fits held whole = tt
lines_printable all (s ∷ lines) fits held whole =
    (record { label = small_label s.label held.0.label; text = act_printable s.act (line_readable all s fits held.0 whole.0) held.0.formed }, lines_printable all lines fits held.1 whole.1)

-- ---- headers ----

short_names : (xs : List Text) → list_all shapes.is_name xs ≡ true → list_any is_long xs ≡ false → AllByRecursion IsShortName xs
short_names [] names short = tt
short_names (x ∷ xs) named short =
    let both = and_parts (shapes.is_name x) (list_all shapes.is_name xs) named in
    let lengths = parts (is_long x) (list_any is_long xs) short in
    ((name_same x both.0, ltb-false 6 (length x) lengths.0), short_names xs both.1 lengths.1)

header_fits : (h : Header) → (has_dummies h && list_all shapes.is_name (header_names h)) ≡ true → list_any is_long (header_names h) ≡ false → IsReadableHeader h
header_fits MainUnit formed short = tt
header_fits (SubUnit x ds) formed short = let all = short_names (x ∷ ds) formed short in (all.0, all.1)
header_fits (FuncUnit w x []) formed short = absurd cc
header_fits (FuncUnit w x (d ∷ ds)) formed short = let all = short_names (x ∷ d ∷ ds) formed short in (all.0, all.1)
header_fits DataUnit formed short = tt

sound_header : (unit : Routine) → IsSoundUnit unit → IsReadableHeader unit.header
sound_header unit sound =
    let form = parts (header_breaks_flow Whole unit.header unit.lines Syntax) (not (has_dummies unit.header && list_all shapes.is_name (header_names unit.header))) (sound.clean zero Syntax) in
    header_fits unit.header (not_false (has_dummies unit.header && list_all shapes.is_name (header_names unit.header)) form.1) (sound.clean zero NameTooLong)

-- ---- units and decks ----

unit_fits : (unit : Routine) → IsShallowUnit unit → IsFittingUnit unit
unit_fits unit is =
    let held = all_held unit is.sound in
    record { header = sound_header unit is.sound; lines = lines_fit unit.lines unit.lines (labels_of unit.lines unit.lines held) held is.whole is.shallow }

unit_printable : (unit : Routine) → IsShallowUnit unit → IsPrintableUnit unit
unit_printable unit is =
    let held = all_held unit is.sound in
    lines_printable unit.lines unit.lines (labels_of unit.lines unit.lines held) held is.whole

units_fit : (units : List Routine) → AllByRecursion IsShallowUnit units → AllByRecursion IsFittingUnit units
units_fit [] all = tt
units_fit (unit ∷ units) all = (unit_fits unit all.0, units_fit units all.1)

units_printable : (units : List Routine) → AllByRecursion IsShallowUnit units → AllByRecursion IsPrintableUnit units
units_printable [] all = tt
units_printable (unit ∷ units) all = (unit_printable unit all.0, units_printable units all.1)

pub deck_fits : (units : List Routine) → IsSoundDeck units → FitsDeck units
deck_fits units is = record {
  each = units_fit units is.each;
  printable = units_printable units is.each;
  texts = is.texts;
  some = is.some;
  few = is.few;
  statements = is.statements;
  bytes = is.bytes;
}

pub all_sound : (units : List Routine) → AllByRecursion IsShallowUnit units → AllByRecursion IsSoundUnit units
all_sound [] all = tt
all_sound (unit ∷ units) all = (all.0.sound, all_sound units all.1)
