-- Which statements have a text that is read back: those of the grammar of expressions, with names that are names and numbers
-- in range.
use Rattle.std.specs.Prelude.{◌≡◌, ℕ, ◌≤◌, ◌<◌, true, List, [], ◌∷◌, length, Option, Some, None}
use Rattle.std.specs.List.{AllByRecursion}
use Rattle.f66_tree.specs.declared.declaration.TypeWord.{TypeWord}
use Rattle.f66_tree.specs.declared.editing.EditKind.TheVariants as edits
use Rattle.f66_tree.specs.Fields.{Step, Takes, Blanks, Chars, Slash, Fields, NoField, Single, Group}
use Rattle.f66_tree.specs.Syntax.{Text, Formula, NoFormula, Par, Declared, Entry, One, Many, Entries, NoEntry, AndEntry, Area, PresetPart, Act, Assign, Goto, Computed, Sign, When, Loop, Invoke, Continue, Stop, Return, Read, Write, Format, Typed, Dimension, Common, Equivalence, Preset}
use Rattle.f66_tree.specs.Views.{chained}
use Rattle.stmt_reader.specs.Exactness.{IsArgument, IsDeclared}
use Rattle.stmt_reader.specs.Levels.{is_name, stands}
use Rattle.stmt_reader.specs.Taking.{place_if}
use Rattle.deck.specs.Readable.{is_readable, is_readable_argument, is_readable_datum, is_readable_declared, is_readable_par}

-- an expression of the grammar with numbers in range
pub record IsReadable (e : Formula) : Type 0 where
  pub stands : stands 0 e ≡ true
  pub readable : is_readable e ≡ true

abbrev pub IsLabelInRange : ℕ → Type 0
IsLabelInRange l = l ≤ 2147483647

-- an argument of a CALL: such an expression, or a Hollerith text of one character
pub record IsReadableArgument (e : Formula) : Type 0 where
  pub is_argument : IsArgument e
  pub readable : is_readable_argument e ≡ true

pub record IsReadableDeclared (d : Declared) : Type 0 where
  pub is_declared : IsDeclared d
  pub readable : is_readable_declared d ≡ true

-- a variable, or an element of an array
abbrev pub IsReadablePlace : Formula → Type 0
IsReadablePlace e = (place_if e ≡ Some e) × IsReadable e

-- what a READ or WRITE goes over: places, and implied DOs over one entry or more
abbrev mutual
  pub IsReadableEntry : Entry → Type 0
  IsReadableEntry (One e) = IsReadablePlace e
  IsReadableEntry (Many es x a b c) = IsReadableList es × (is_name x ≡ true) × (is_readable_par a ≡ true) × (is_readable_par b ≡ true) × (is_readable_par c ≡ true)

  -- one entry or more
  pub IsReadableList : Entries → Type 0
  IsReadableList NoEntry = ⊥
  IsReadableList (AndEntry e es) = IsReadableEntry e × AreReadableEntries es

  pub AreReadableEntries : Entries → Type 0
  AreReadableEntries NoEntry = Unit {0}
  AreReadableEntries (AndEntry e es) = IsReadableEntry e × AreReadableEntries es

-- a statement that a logical IF may hold
pub data IsReadableBranch : Act → Type 0 where
  assignment : (x e : Formula) → place_if x ≡ Some x → IsReadable x → IsReadable e → IsReadableBranch (Assign x e)
  jump : (l : ℕ) → IsLabelInRange l → IsReadableBranch (Goto l)
  computed : (l : ℕ) (ls : List ℕ) (x : Text) → IsLabelInRange l → AllByRecursion IsLabelInRange ls → is_name x ≡ true → IsReadableBranch (Computed (l ∷ ls) x)
  sign : (e : Formula) (l m n : ℕ) → IsReadable e → IsLabelInRange l → IsLabelInRange m → IsLabelInRange n → IsReadableBranch (Sign e l m n)
  bare_call : (x : Text) → is_name x ≡ true → IsReadableBranch (Invoke x NoFormula)
  call : (x : Text) (e : Formula) (es : List Formula) → is_name x ≡ true → IsReadableArgument e → AllByRecursion IsReadableArgument es → IsReadableBranch (Invoke x (chained (e ∷ es)))
  read : (u : Par) (l : ℕ) (es : Entries) → is_readable_par u ≡ true → IsLabelInRange l → AreReadableEntries es → IsReadableBranch (Read u l es)
  write : (u : Par) (l : ℕ) (es : Entries) → is_readable_par u ≡ true → IsLabelInRange l → AreReadableEntries es → IsReadableBranch (Write u l es)
  continuation : IsReadableBranch Continue
  stop : IsReadableBranch (Stop None)
  stop_number : (n : ℕ) → n < 32768 → IsReadableBranch (Stop (Some n))
  return : IsReadableBranch Return

-- what the tree of a format keeps: counts and widths up to 65535, a letter's width of one, and no count where the text has none
abbrev pub IsReadableStep : ℕ → Step → Type 0
IsReadableStep n (Takes edits.Whole w) = (n ≤ 65535) × (w ≤ 65535)
IsReadableStep n (Takes edits.Truth w) = (n ≤ 65535) × (w ≤ 65535)
IsReadableStep n (Takes edits.Letter w) = (n ≤ 65535) × (w ≡ 1)
IsReadableStep n (Blanks m) = (n ≡ 1) × (m ≤ 65535)
IsReadableStep n (Chars text) = (n ≡ 1) × (length text ≤ 65535)
IsReadableStep n Slash = n ≡ 1

abbrev pub AreReadableFields : Fields → Type 0
AreReadableFields NoField = Unit {0}
AreReadableFields (Single n s rest) = IsReadableStep n s × AreReadableFields rest
AreReadableFields (Group n inside rest) = (n ≤ 65535) × AreReadableFields inside × AreReadableFields rest

-- one or more of such
abbrev pub AreSome : {A : Type 0} → (A → Type 0) → List A → Type 0
AreSome Good [] = ⊥
AreSome Good (a ∷ all) = Good a × AllByRecursion Good all

-- the name of a common block, if it has one
abbrev pub IsReadableBlock : Option Text → Type 0
IsReadableBlock None = Unit {0}
IsReadableBlock (Some x) = is_name x ≡ true

abbrev pub IsReadableArea : Area → Type 0
IsReadableArea a = IsReadableBlock a.name × AreSome IsReadableDeclared a.list

-- two places or more
abbrev pub IsReadableGroup : List Formula → Type 0
IsReadableGroup [] = ⊥
IsReadableGroup (e ∷ es) = IsReadablePlace e × AreSome IsReadablePlace es

-- a constant with its count
abbrev pub IsReadableValue : ℕ × Formula → Type 0
IsReadableValue v = (v.0 ≤ 2147483647) × (is_readable_datum v.1 ≡ true)

abbrev pub IsReadablePart : PresetPart → Type 0
IsReadablePart p = AreSome IsReadablePlace p.places × AreSome IsReadableValue p.values

pub data IsReadableAct : Act → Type 0 where
  branch : (a : Act) → IsReadableBranch a → IsReadableAct a
  conditional : (e : Formula) (a : Act) → IsReadable e → IsReadableBranch a → IsReadableAct (When e a)
  loop : (l : ℕ) (x : Text) (a b c : Par) → IsLabelInRange l → is_name x ≡ true → is_readable_par a ≡ true → is_readable_par b ≡ true → is_readable_par c ≡ true → IsReadableAct (Loop l x a b c)
  format : (fs : Fields) → AreReadableFields fs → IsReadableAct (Format fs)
  typed : (w : TypeWord) (d : Declared) (ds : List Declared) → IsReadableDeclared d → AllByRecursion IsReadableDeclared ds → IsReadableAct (Typed w (d ∷ ds))
  dimension : (d : Declared) (ds : List Declared) → IsReadableDeclared d → AllByRecursion IsReadableDeclared ds → IsReadableAct (Dimension (d ∷ ds))
  common : (areas : List Area) → AreSome IsReadableArea areas → IsReadableAct (Common areas)
  equivalence : (groups : List (List Formula)) → AreSome IsReadableGroup groups → IsReadableAct (Equivalence groups)
  preset : (parts : List PresetPart) → AreSome IsReadablePart parts → IsReadableAct (Preset parts)
