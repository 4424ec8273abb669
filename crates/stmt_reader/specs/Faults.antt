-- The fault of a statement's text: Limit 3 where too many parentheses are open outside Hollerith texts; else Syntax where its
-- tokens are no statement; else NumberTooLarge; else NameTooLong.
use Rattle.std.specs.Prelude.{ℕ, ℤ, pos, negsuc, Bool, false, nat_lt, ◌||◌, ◌&&◌, List, [], ◌∷◌, length, Option, Some, None, if◌then◌else◌}
use Rattle.std.specs.List.{list_any, list_all}
use Rattle.ground.specs.declared.fault.FaultKind.{FaultKind}
use Rattle.ground.specs.declared.fault.FaultKind.TheVariants.{Syntax, NumberTooLarge, NameTooLong, Limit}
use Rattle.f66_tree.specs.Syntax.{Text, Formula, Int, Truth, Letter, Ref, Item, Group, Plus, Minus, Not, Pair, Formulas, NoFormula, AndFormula, Par, Constant, Named, Declared, Header, MainUnit, SubUnit, FuncUnit, DataUnit, Entry, One, Many, Entries, NoEntry, AndEntry, Area, PresetPart, Act, Assign, Goto, Computed, Sign, When, Loop, Invoke, Continue, Stop, Return, Write, Format, Typed, Dimension, Common, Equivalence, Preset}
use Rattle.f66_tree.specs.Syntax as f66
use Rattle.stmt_reader.specs.declared.token.Token.{Token}
use Rattle.stmt_reader.specs.declared.token.Token.TheVariants as t
use Rattle.stmt_reader.specs.Cutting.{depth}
use Rattle.stmt_reader.specs.Lexing.{tokens_of}
use Rattle.stmt_reader.specs.Levels.{is_digit}
use Rattle.stmt_reader.specs.Formats.{value_after}
use Rattle.stmt_reader.specs.Declarations.{header_of}
use Rattle.stmt_reader.specs.Statements.{statement_of}

-- whether more than 110 parentheses are open at some token, where so many are
abbrev pub is_too_deep : ℕ → List Token → Bool
is_too_deep d [] = nat_lt 110 d
is_too_deep d (token ∷ tokens) = nat_lt 110 d || is_too_deep (depth d token) tokens

-- what is asked of the numbers and names of a statement
pub record Asked : Type 0 where
  pub number : ℕ → Bool
  pub name : Text → Bool

abbrev pub asked_number : Asked → ℤ → Bool
asked_number ask (pos n) = ask.number n
asked_number ask (negsuc n) = false

abbrev mutual
  pub formula_has : Asked → Formula → Bool
  formula_has ask (Int z) = asked_number ask z
  formula_has ask (Truth b) = false
  formula_has ask (Letter c) = false
  formula_has ask (Ref x) = ask.name x
  formula_has ask (Item x es) = ask.name x || formulas_have ask es
  formula_has ask (Group a) = formula_has ask a
  formula_has ask (Plus a) = formula_has ask a
  formula_has ask (Minus a) = formula_has ask a
  formula_has ask (Not a) = formula_has ask a
  formula_has ask (Pair op a b) = formula_has ask a || formula_has ask b

  pub formulas_have : Asked → Formulas → Bool
  formulas_have ask NoFormula = false
  formulas_have ask (AndFormula e es) = formula_has ask e || formulas_have ask es

abbrev pub par_has : Asked → Par → Bool
par_has ask (Constant z) = asked_number ask z
par_has ask (Named x) = ask.name x

abbrev pub declared_has : Asked → Declared → Bool
declared_has ask d = ask.name d.name || list_any (par_has ask) d.sizes

abbrev mutual
  pub entry_has : Asked → Entry → Bool
  entry_has ask (One e) = formula_has ask e
  entry_has ask (Many es x a b c) = entries_have ask es || ask.name x || par_has ask a || par_has ask b || par_has ask c

  pub entries_have : Asked → Entries → Bool
  entries_have ask NoEntry = false
  entries_have ask (AndEntry e es) = entry_has ask e || entries_have ask es

abbrev pub name_has : Asked → Option Text → Bool
name_has ask None = false
name_has ask (Some x) = ask.name x

abbrev pub area_has : Asked → Area → Bool
area_has ask a = name_has ask a.name || list_any (declared_has ask) a.list

abbrev pub value_has : Asked → ℕ × Formula → Bool
value_has ask v = ask.number v.0 || formula_has ask v.1

abbrev pub preset_has : Asked → PresetPart → Bool
preset_has ask p = list_any (formula_has ask) p.places || list_any (value_has ask) p.values

-- a FORMAT has no names, and its numbers are asked of its tokens: the tree has 65535 for those that are larger
abbrev pub act_has : Asked → Act → Bool
act_has ask (Assign x e) = formula_has ask x || formula_has ask e
act_has ask (Goto l) = ask.number l
act_has ask (Computed ls x) = list_any ask.number ls || ask.name x
act_has ask (Sign e l m n) = formula_has ask e || ask.number l || ask.number m || ask.number n
act_has ask (When e a) = formula_has ask e || act_has ask a
act_has ask (Loop l x a b c) = ask.number l || ask.name x || par_has ask a || par_has ask b || par_has ask c
act_has ask (Invoke x es) = ask.name x || formulas_have ask es
act_has ask Continue = false
act_has ask (Stop n) = false
act_has ask Return = false
act_has ask (f66.Read u l es) = par_has ask u || ask.number l || entries_have ask es
act_has ask (Write u l es) = par_has ask u || ask.number l || entries_have ask es
act_has ask (Format fs) = false
act_has ask (Typed w ds) = list_any (declared_has ask) ds
act_has ask (Dimension ds) = list_any (declared_has ask) ds
act_has ask (Common areas) = list_any (area_has ask) areas
act_has ask (Equivalence groups) = list_any (list_any (formula_has ask)) groups
act_has ask (Preset parts) = list_any (preset_has ask) parts

-- a width above 2147483647, or such a count
abbrev pub width_is_large : Text → Bool
width_is_large [] = false
width_is_large (c ∷ cs) = list_all is_digit cs && nat_lt 2147483647 (value_after 0 cs)

abbrev pub is_large : Token → Bool
is_large (t.Number n) = nat_lt 2147483647 n
is_large (t.Word w) = width_is_large w
is_large _ = false

abbrev pub format_is_large : Act → List Token → Bool
format_is_large (Format fs) tokens = list_any is_large tokens
format_is_large _ tokens = false

abbrev pub too_large : Asked
too_large = record { number = λ n. nat_lt 2147483647 n; name = λ x. false }

abbrev pub too_long : Asked
too_long = record { number = λ n. false; name = λ x. nat_lt 6 (length x) }

-- a statement, or its fault with the limit's number
pub data Answer : Type 0 where
  Read : Act → Answer
  Refused : FaultKind → ℕ → Answer

abbrev pub answer_of : List Token → Option Act → Answer
answer_of tokens None = Refused Syntax 0
answer_of tokens (Some a) = if act_has too_large a || format_is_large a tokens then Refused NumberTooLarge 0 else (if act_has too_long a then Refused NameTooLong 0 else Read a)

abbrev pub text_answer : List ℕ → Answer
text_answer text = if is_too_deep 0 (tokens_of text) then Refused Limit 3 else answer_of (tokens_of text) (statement_of (tokens_of text))

-- ---- headers ----

abbrev pub header_has_name : (Text → Bool) → Header → Bool
header_has_name long MainUnit = false
header_has_name long (SubUnit x ds) = long x || list_any long ds
header_has_name long (FuncUnit w x ds) = long x || list_any long ds
header_has_name long DataUnit = false

-- no header; a header; or the fault of a header that has a label, or a name that is too long
pub data HeaderAnswer : Type 0 where
  NoHeader : HeaderAnswer
  HeaderRead : Header → HeaderAnswer
  HeaderRefused : FaultKind → HeaderAnswer

abbrev pub header_answer_of : Bool → Option Header → HeaderAnswer
header_answer_of labelled None = NoHeader
header_answer_of labelled (Some h) = if labelled then HeaderRefused Syntax else (if header_has_name too_long.name h then HeaderRefused NameTooLong else HeaderRead h)

abbrev pub header_answer : Bool → List ℕ → HeaderAnswer
header_answer labelled text = header_answer_of labelled (header_of (tokens_of text))
