-- How many parentheses are open at most in the text of a statement, but for those of Hollerith texts.
use Rattle.std.specs.Prelude.{ℕ, suc, max, List, [], ◌∷◌}
use Rattle.f66_tree.specs.Fields.{Fields, NoField, Single, Group as Nested}
use Rattle.f66_tree.specs.Syntax.{Formula, Int, Truth, Letter, Ref, Item, Group, Plus, Minus, Not, Pair, Formulas, NoFormula, AndFormula, Par, Declared, Entry, One, Many, Entries, NoEntry, AndEntry, Area, PresetPart, Act, Assign, Goto, Computed, Sign, When, Loop, Invoke, Continue, Stop, Return, Read, Write, Format, Typed, Dimension, Common, Equivalence, Preset}

-- the most that a member of a list has
abbrev pub deepest : {A : Type 0} → (A → ℕ) → List A → ℕ
deepest nesting [] = 0
deepest nesting (a ∷ all) = max (nesting a) (deepest nesting all)

abbrev mutual
  pub nesting : Formula → ℕ
  nesting (Int z) = 0
  nesting (Truth b) = 0
  nesting (Letter c) = 0
  nesting (Ref x) = 0
  nesting (Item x es) = suc (nesting_all es)
  nesting (Group a) = suc (nesting a)
  nesting (Plus a) = nesting a
  nesting (Minus a) = nesting a
  nesting (Not a) = nesting a
  nesting (Pair op a b) = max (nesting a) (nesting b)

  pub nesting_all : Formulas → ℕ
  nesting_all NoFormula = 0
  nesting_all (AndFormula e es) = max (nesting e) (nesting_all es)

-- a list in parentheses, where there is one
abbrev pub arguments_nesting : Formulas → ℕ
arguments_nesting NoFormula = 0
arguments_nesting (AndFormula e es) = suc (nesting_all (AndFormula e es))

abbrev pub sizes_nesting : List Par → ℕ
sizes_nesting [] = 0
sizes_nesting (p ∷ ps) = 1

abbrev pub declared_nesting : Declared → ℕ
declared_nesting d = sizes_nesting d.sizes

abbrev mutual
  pub entry_nesting : Entry → ℕ
  entry_nesting (One e) = nesting e
  entry_nesting (Many es x a b c) = suc (entries_nesting es)

  pub entries_nesting : Entries → ℕ
  entries_nesting NoEntry = 0
  entries_nesting (AndEntry e es) = max (entry_nesting e) (entries_nesting es)

abbrev pub fields_nesting : Fields → ℕ
fields_nesting NoField = 0
fields_nesting (Single n s rest) = fields_nesting rest
fields_nesting (Nested n inside rest) = max (suc (fields_nesting inside)) (fields_nesting rest)

abbrev pub area_nesting : Area → ℕ
area_nesting a = deepest declared_nesting a.list

abbrev pub group_nesting : List Formula → ℕ
group_nesting group = suc (deepest nesting group)

abbrev pub preset_nesting : PresetPart → ℕ
preset_nesting p = deepest nesting p.places

abbrev pub act_nesting : Act → ℕ
act_nesting (Assign x e) = max (nesting x) (nesting e)
act_nesting (Goto l) = 0
act_nesting (Computed ls x) = 1
act_nesting (Sign e l m n) = suc (nesting e)
act_nesting (When e a) = max (suc (nesting e)) (act_nesting a)
act_nesting (Loop l x a b c) = 0
act_nesting (Invoke x es) = arguments_nesting es
act_nesting Continue = 0
act_nesting (Stop n) = 0
act_nesting Return = 0
act_nesting (Read u l es) = max 1 (entries_nesting es)
act_nesting (Write u l es) = max 1 (entries_nesting es)
act_nesting (Format fs) = suc (fields_nesting fs)
act_nesting (Typed w ds) = deepest declared_nesting ds
act_nesting (Dimension ds) = deepest declared_nesting ds
act_nesting (Common areas) = deepest area_nesting areas
act_nesting (Equivalence groups) = deepest group_nesting groups
act_nesting (Preset parts) = deepest preset_nesting parts
