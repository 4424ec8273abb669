-- The trees of FORTRAN as plain data: the same forms with no pointers and no capacities.
use Rattle.std.specs.Prelude.{ℕ, ℤ, Bool, List, Option, Some, None}
use Rattle.ground.specs.declared.place.Place.{Place}
use Rattle.f66_tree.specs.declared.expression.Operator.{Operator}
use Rattle.f66_tree.specs.declared.declaration.TypeWord.{TypeWord}
use Rattle.f66_tree.specs.Fields.{Fields}

-- a name or a text, by its characters
abbrev pub Text : Type 0
Text = List ℕ

mutual
  -- an expression
  pub data Formula : Type 0 where
    Int : ℤ → Formula
    Truth : Bool → Formula
    Letter : ℕ → Formula
    Ref : Text → Formula
    -- an element of an array, or a function's value
    Item : Text → Formulas → Formula
    Group : Formula → Formula
    Plus : Formula → Formula
    Minus : Formula → Formula
    Not : Formula → Formula
    Pair : Operator → Formula → Formula → Formula

  pub data Formulas : Type 0 where
    NoFormula : Formulas
    AndFormula : Formula → Formulas → Formulas

-- a constant or a variable
pub data Par : Type 0 where
  Constant : ℤ → Par
  Named : Text → Par

-- a name with its dimensions
pub record Declared : Type 0 where
  pub name : Text
  pub sizes : List Par

pub data Header : Type 0 where
  MainUnit : Header
  SubUnit : Text → List Text → Header
  FuncUnit : Option TypeWord → Text → List Text → Header
  DataUnit : Header

-- what READ and WRITE go over
mutual
  pub data Entry : Type 0 where
    One : Formula → Entry
    Many : Entries → Text → Par → Par → Par → Entry

  pub data Entries : Type 0 where
    NoEntry : Entries
    AndEntry : Entry → Entries → Entries

-- a common block
pub record Area : Type 0 where
  pub name : Option Text
  pub list : List Declared

-- places, and their values with counts
pub record PresetPart : Type 0 where
  pub places : List Formula
  pub values : List (ℕ × Formula)

-- what a statement says
pub data Act : Type 0 where
  Assign : Formula → Formula → Act
  Goto : ℕ → Act
  Computed : List ℕ → Text → Act
  Sign : Formula → ℕ → ℕ → ℕ → Act
  When : Formula → Act → Act
  Loop : ℕ → Text → Par → Par → Par → Act
  Invoke : Text → Formulas → Act
  Continue : Act
  Stop : Option ℕ → Act
  Return : Act
  Read : Par → ℕ → Entries → Act
  Write : Par → ℕ → Entries → Act
  Format : Fields → Act
  Typed : TypeWord → List Declared → Act
  Dimension : List Declared → Act
  Common : List Area → Act
  Equivalence : List (List Formula) → Act
  Preset : List PresetPart → Act

-- a statement of a unit
pub record Line : Type 0 where
  pub label : Option ℕ
  pub place : Place
  pub act : Act

abbrev pub unlabelled_line : Place → Act → Line
unlabelled_line p a = record { label = None; place = p; act = a }

abbrev pub labelled_line : ℕ → Place → Act → Line
labelled_line l p a = record { label = Some l; place = p; act = a }

-- a unit
pub record Routine : Type 0 where
  pub header : Header
  pub lines : List Line
  pub place : Place
