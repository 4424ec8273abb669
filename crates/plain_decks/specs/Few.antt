-- Plain statements with few operands. Their text has at most 1,320 characters, so that it fits its cards.
use Rattle.std.specs.Prelude.{ℕ, ◌≤◌, ◌+◌, ◌*◌, [], length, ⊤}
use Rattle.std.specs.List.{All}
use Rattle.ground.specs.declared.value.Kind.{Kind}
use Rattle.f66_tree.specs.Fields.{Step, Takes, Blanks, Chars, Slash, Fields, NoField, Single, Group}
use Rattle.f66_tree.specs.Syntax.{Text, Formula, Int, Ref, Item, Formulas, NoFormula, AndFormula, Entries, NoEntry, AndEntry, Header, SubUnit, FuncUnit, Act, Assign, Goto, When, Invoke, Read, Write, Format, Typed, Routine}
use Rattle.stmt_text.specs.Texts.{fields_text}
use Rattle.deck_laws.specs.Whole.{AreWholeFields}
use Rattle.plain_units.specs.Units.{IsPlainUnit}

-- the most characters that an operand of a list has with its comma: a name has six, a constant ten, and either may stand in parentheses
abbrev pub width_of : Formula → ℕ
width_of (Ref x) = 7
width_of (Int z) = 11
width_of e = 13

abbrev pub width_of_all : Formulas → ℕ
width_of_all NoFormula = 0
width_of_all (AndFormula e es) = width_of e + width_of_all es

abbrev pub entries_of : Entries → ℕ
entries_of NoEntry = 0
entries_of (AndEntry e es) = entries_of es + 1

-- At most 1,300 characters of operands: so it is with 100 of them, with 118 constants and variables, and with 180 variables. A READ or
-- WRITE has at most 180 variables, and a FORMAT 1,300 characters.
abbrev pub HasFew : Act → Type 0
HasFew (Assign x (Item f es)) = width_of_all es ≤ 1300
HasFew (Invoke x es) = width_of_all es ≤ 1300
HasFew (Read u l es) = entries_of es ≤ 180
HasFew (Write u l es) = entries_of es ≤ 180
HasFew (Format fs) = length (fields_text fs []) ≤ 1300
HasFew a = ⊤

-- the most characters of what is assigned, and of a statement
abbrev pub width_of_value : Formula → ℕ
width_of_value (Item f es) = 8 + width_of_all es
width_of_value e = 25

abbrev pub width_of_act : Act → ℕ
width_of_act (Assign x e) = 7 + width_of_value e
width_of_act (Invoke x es) = 13 + width_of_all es
width_of_act (Read u l es) = 22 + 7 * entries_of es
width_of_act (Write u l es) = 23 + 7 * entries_of es
width_of_act (Format fs) = 8 + length (fields_text fs [])
width_of_act a = 42

-- the most characters that the fields of a sound format have: counts and widths have three digits, and a comma stands behind each field
abbrev pub width_of_step : Step → ℕ
width_of_step (Takes kind w) = 8
width_of_step (Blanks m) = 5
width_of_step (Chars text) = length text + 5
width_of_step Slash = 2

abbrev pub width_of_fields : Fields → ℕ
width_of_fields NoField = 0
width_of_fields (Single n s fs) = width_of_step s + width_of_fields fs
width_of_fields (Group n inside fs) = 6 + width_of_fields inside + width_of_fields fs

-- all operands are variables
abbrev pub AreNames : Formulas → Type 0
AreNames NoFormula = ⊤
AreNames (AndFormula (Ref x) es) = AreNames es
AreNames (AndFormula e es) = ⊥

-- the labels in a statement have five digits at most
abbrev pub NamesShortLabel : Act → Type 0
NamesShortLabel (Goto l) = l ≤ 99999
NamesShortLabel (When e (Goto l)) = l ≤ 99999
NamesShortLabel (Read u l es) = l ≤ 99999
NamesShortLabel (Write u l es) = l ≤ 99999
NamesShortLabel a = ⊤

-- a type statement of at most eight names
abbrev pub HasFewNames : Act → Type 0
HasFewNames (Typed t ds) = length ds ≤ 8
HasFewNames a = ⊤

-- at most 180 dummies
abbrev pub HasFewDummies : Header → Type 0
HasFewDummies (SubUnit x ds) = length ds ≤ 180
HasFewDummies (FuncUnit t x ds) = length ds ≤ 180
HasFewDummies h = ⊤

abbrev pub dummies_of : Header → ℕ
dummies_of (SubUnit x ds) = length ds
dummies_of (FuncUnit t x ds) = length ds
dummies_of h = 0

-- in a FORMAT only I, L, A and groups have counts, and A has a width of one
abbrev pub HasWholeFormat : Act → Type 0
HasWholeFormat (Format fs) = AreWholeFields fs
HasWholeFormat a = ⊤

-- a plain unit of such a header and such statements
pub record HasFewOperands (V F : Text → Kind → Type 0) (S : Text → Type 0) (u : Routine) (unit : IsPlainUnit V F S u) : Type 0 where
  pub header : HasFewDummies u.header
  pub heads : All (λ s. HasFewNames s.act) unit.heads
  pub body : All (λ s. HasFew s.act) unit.body
