-- The text of a statement, as it is printed (X3.9-1966, sections 6 to 8), each part before what comes next, k. Blanks stand
-- where a word of the statement ends and in Hollerith texts.
use Rattle.std.specs.Prelude.{ℕ, zero, suc, ℤ, pos, unsigned_abs, Bool, true, false, ◌==◌, ◌||◌, List, [], ◌∷◌, ◌++◌, length, Option, Some, None, codes, decimal, if◌then◌else◌}
use Rattle.std.specs.Fmt.{digits}
use Rattle.f66_tree.specs.declared.expression.Operator.{Operator}
use Rattle.f66_tree.specs.declared.expression.Operator.TheVariants.{Add, Sub, Mul, Div, Power, Lt, Le, Eq, Ne, Ge, Gt, And, Or}
use Rattle.f66_tree.specs.declared.declaration.TypeWord.{TypeWord}
use Rattle.f66_tree.specs.declared.declaration.TypeWord.TheVariants.{Integer, Logical, Other}
use Rattle.f66_tree.specs.declared.editing.EditKind.{EditKind}
use Rattle.f66_tree.specs.declared.editing.EditKind.TheVariants as edits
use Rattle.f66_tree.specs.Fields.{Step, Takes, Blanks, Chars, Slash, Fields, NoField, Single, Group}
use Rattle.f66_tree.specs.Syntax as f66
use Rattle.f66_tree.specs.Syntax.{Text, Formula, Int, Truth, Letter, Ref, Item, Plus, Minus, Not, Pair, Formulas, NoFormula, AndFormula, Par, Constant, Named, Declared, Header, MainUnit, SubUnit, FuncUnit, DataUnit, Entry, One, Many, Entries, NoEntry, AndEntry, Area, PresetPart, Act, Assign, Goto, Computed, Sign, When, Loop, Invoke, Continue, Stop, Return, Read, Write, Format, Typed, Dimension, Common, Equivalence, Preset}
use Rattle.stmt_text.specs.Characters.{blank, opening, closing, star, plus, comma, minus, slash, equals, letter_a, letter_h, letter_i, letter_l, letter_x}

-- ---- expressions (section 6) ----

abbrev pub operator_text : Operator → List ℕ
operator_text Add = codes "+"
operator_text Sub = codes "-"
operator_text Mul = codes "*"
operator_text Div = codes "/"
operator_text Power = codes "**"
operator_text Lt = codes ".LT."
operator_text Le = codes ".LE."
operator_text Eq = codes ".EQ."
operator_text Ne = codes ".NE."
operator_text Ge = codes ".GE."
operator_text Gt = codes ".GT."
operator_text And = codes ".AND."
operator_text Or = codes ".OR."

abbrev pub truth_text : Bool → List ℕ
truth_text true = codes ".TRUE."
truth_text false = codes ".FALSE."

-- no number of a sound unit has a sign
abbrev pub number_text : ℤ → List ℕ → List ℕ
number_text z k = decimal (unsigned_abs z) ++ k

abbrev mutual
  pub formula_text : Formula → List ℕ → List ℕ
  formula_text (Int z) k = number_text z k
  formula_text (Truth b) k = truth_text b ++ k
  formula_text (Letter c) k = codes "1H" ++ c ∷ k
  formula_text (Ref x) k = x ++ k
  formula_text (Item x es) k = x ++ opening ∷ formulas_text es (closing ∷ k)
  formula_text (f66.Group a) k = opening ∷ formula_text a (closing ∷ k)
  formula_text (Plus a) k = plus ∷ formula_text a k
  formula_text (Minus a) k = minus ∷ formula_text a k
  formula_text (Not a) k = codes ".NOT." ++ formula_text a k
  formula_text (Pair op a b) k = formula_text a (operator_text op ++ formula_text b k)

  -- expressions with commas between them, and with a comma before each
  pub formulas_text : Formulas → List ℕ → List ℕ
  formulas_text NoFormula k = k
  formulas_text (AndFormula e es) k = formula_text e (more_formulas_text es k)

  pub more_formulas_text : Formulas → List ℕ → List ℕ
  more_formulas_text NoFormula k = k
  more_formulas_text (AndFormula e es) k = comma ∷ formula_text e (more_formulas_text es k)

-- ---- lists ----

-- a member of a list, with a comma before it if it is not the first
abbrev pub member : ℕ → List ℕ → List ℕ
member zero k = k
member (suc i) k = comma ∷ k

-- the members of a list with a comma before each, and with commas between them
abbrev pub more_commas : {A : Type 0} → (A → List ℕ → List ℕ) → List A → List ℕ → List ℕ
more_commas text [] k = k
more_commas text (a ∷ all) k = comma ∷ text a (more_commas text all k)

abbrev pub commas : {A : Type 0} → (A → List ℕ → List ℕ) → List A → List ℕ → List ℕ
commas text [] k = k
commas text (a ∷ all) k = text a (more_commas text all k)

-- a list in parentheses, where there is one
abbrev pub in_parentheses : {A : Type 0} → (A → List ℕ → List ℕ) → List A → List ℕ → List ℕ
in_parentheses text [] k = k
in_parentheses text (a ∷ all) k = opening ∷ commas text (a ∷ all) (closing ∷ k)

abbrev pub label_text : ℕ → List ℕ → List ℕ
label_text l k = decimal l ++ k

abbrev pub name_text : Text → List ℕ → List ℕ
name_text x k = x ++ k

abbrev pub par_text : Par → List ℕ → List ℕ
par_text (Constant z) k = number_text z k
par_text (Named x) k = x ++ k

-- a name, with its dimensions where it has any (section 7.2.1.1)
abbrev pub declared_text : Declared → List ℕ → List ℕ
declared_text d k = d.name ++ in_parentheses par_text d.sizes k

-- ---- parts of executable statements (section 7.1) ----

-- the step of a DO, which is left out where it is 1
abbrev pub is_one : Par → Bool
is_one (Constant (pos n)) = n == 1
is_one _ = false

abbrev pub step_text : Par → List ℕ → List ℕ
step_text c k = if is_one c then k else comma ∷ par_text c k

-- v=a,b or v=a,b,c
abbrev pub loop_text : Text → Par → Par → Par → List ℕ → List ℕ
loop_text x a b c k = x ++ equals ∷ par_text a (comma ∷ par_text b (step_text c k))

abbrev pub arguments_text : Formulas → List ℕ → List ℕ
arguments_text NoFormula k = k
arguments_text (AndFormula e es) k = opening ∷ formulas_text (AndFormula e es) (closing ∷ k)

-- the list of a READ or WRITE
abbrev mutual
  pub entry_text : Entry → List ℕ → List ℕ
  entry_text (One e) k = formula_text e k
  entry_text (Many es x a b c) k = opening ∷ entries_text es (comma ∷ loop_text x a b c (closing ∷ k))

  pub entries_text : Entries → List ℕ → List ℕ
  entries_text NoEntry k = k
  entries_text (AndEntry e es) k = entry_text e (more_entries_text es k)

  pub more_entries_text : Entries → List ℕ → List ℕ
  more_entries_text NoEntry k = k
  more_entries_text (AndEntry e es) k = comma ∷ entry_text e (more_entries_text es k)

-- ---- formats (section 7.2.3) ----

-- a count of one is left out
abbrev pub count_text : ℕ → List ℕ → List ℕ
count_text n k = if n == 1 then k else decimal n ++ k

abbrev pub edit_letter : EditKind → ℕ
edit_letter edits.Whole = letter_i
edit_letter edits.Truth = letter_l
edit_letter edits.Letter = letter_a

abbrev pub step_of_format : ℕ → Step → List ℕ → List ℕ
step_of_format n (Takes kind w) k = count_text n (edit_letter kind ∷ decimal w ++ k)
step_of_format n (Blanks m) k = decimal m ++ letter_x ∷ k
step_of_format n (Chars text) k = decimal (length text) ++ letter_h ∷ text ++ k
step_of_format n Slash k = slash ∷ k

abbrev pub is_slash : Step → Bool
is_slash Slash = true
is_slash _ = false

-- what separates a field from those behind it: a comma, but beside a slash and at the end nothing
abbrev pub separated : Bool → Fields → List ℕ → List ℕ
separated beside_slash NoField k = k
separated beside_slash (Single n s rest) k = if beside_slash || is_slash s then k else comma ∷ k
separated beside_slash (Group n inside rest) k = if beside_slash then k else comma ∷ k

abbrev pub fields_text : Fields → List ℕ → List ℕ
fields_text NoField k = k
fields_text (Single n s rest) k = step_of_format n s (separated (is_slash s) rest (fields_text rest k))
fields_text (Group n inside rest) k = count_text n (opening ∷ fields_text inside (closing ∷ separated false rest (fields_text rest k)))

-- ---- parts of specifications and DATA (sections 7.2.1 and 7.2.2) ----

abbrev pub type_text : TypeWord → List ℕ
type_text Integer = codes "INTEGER "
type_text Logical = codes "LOGICAL "
type_text Other = codes "REAL "

-- a common block with its name between slashes, or blank common
abbrev pub area_text : Area → List ℕ → List ℕ
area_text a k = elim (a.name) [ None ↦ slash ∷ slash ∷ commas declared_text a.list k | Some x ↦ slash ∷ x ++ slash ∷ commas declared_text a.list k ]

abbrev pub areas_text : List Area → List ℕ → List ℕ
areas_text [] k = k
areas_text (a ∷ all) k = area_text a (areas_text all k)

abbrev pub group_text : List Formula → List ℕ → List ℕ
group_text group k = opening ∷ commas formula_text group (closing ∷ k)

-- a constant with its count, which is left out where it is 1
abbrev pub value_text : ℕ × Formula → List ℕ → List ℕ
value_text v k = if v.0 == 1 then formula_text v.1 k else decimal v.0 ++ star ∷ formula_text v.1 k

abbrev pub preset_text : PresetPart → List ℕ → List ℕ
preset_text p k = commas formula_text p.places (slash ∷ commas value_text p.values (slash ∷ k))

-- ---- statements (section 7) ----

abbrev pub act_text : Act → List ℕ → List ℕ
act_text (Assign x e) k = formula_text x (equals ∷ formula_text e k)
act_text (Goto l) k = codes "GO TO " ++ decimal l ++ k
act_text (Computed ls x) k = codes "GO TO (" ++ commas label_text ls (closing ∷ comma ∷ x ++ k)
act_text (Sign e l m n) k = codes "IF(" ++ formula_text e (closing ∷ decimal l ++ comma ∷ decimal m ++ comma ∷ decimal n ++ k)
act_text (When e a) k = codes "IF(" ++ formula_text e (closing ∷ act_text a k)
act_text (Loop l x a b c) k = codes "DO " ++ decimal l ++ blank ∷ loop_text x a b c k
act_text (Invoke x es) k = codes "CALL " ++ x ++ arguments_text es k
act_text Continue k = codes "CONTINUE" ++ k
act_text (Stop None) k = codes "STOP" ++ k
act_text (Stop (Some n)) k = codes "STOP " ++ digits 8 false n ++ k
act_text Return k = codes "RETURN" ++ k
act_text (Read u l es) k = codes "READ(" ++ par_text u (comma ∷ decimal l ++ closing ∷ entries_text es k)
act_text (Write u l es) k = codes "WRITE(" ++ par_text u (comma ∷ decimal l ++ closing ∷ entries_text es k)
act_text (Format fs) k = codes "FORMAT(" ++ fields_text fs (closing ∷ k)
act_text (Typed t ds) k = type_text t ++ commas declared_text ds k
act_text (Dimension ds) k = codes "DIMENSION " ++ commas declared_text ds k
act_text (Common areas) k = codes "COMMON " ++ areas_text areas k
act_text (Equivalence groups) k = codes "EQUIVALENCE " ++ commas group_text groups k
act_text (Preset parts) k = codes "DATA " ++ commas preset_text parts k

-- the text of a statement
abbrev pub statement_text : Act → List ℕ
statement_text a = act_text a []

-- ---- headers (section 8) ----

abbrev pub result_text : Option TypeWord → List ℕ → List ℕ
result_text None k = k
result_text (Some t) k = type_text t ++ k

abbrev pub header_then : Header → List ℕ → List ℕ
header_then MainUnit k = k
header_then (SubUnit x ds) k = codes "SUBROUTINE " ++ x ++ in_parentheses name_text ds k
header_then (FuncUnit t x ds) k = result_text t (codes "FUNCTION " ++ x ++ opening ∷ commas name_text ds (closing ∷ k))
header_then DataUnit k = codes "BLOCK DATA" ++ k

-- the text of a header, which is empty for a main
abbrev pub header_text : Header → List ℕ
header_text h = header_then h []
