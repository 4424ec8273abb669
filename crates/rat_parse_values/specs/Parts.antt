-- What is read off the parts: of a token its place, name, number or sign; of a part what it gives.
use Rattle.std.specs.Prelude.{ℕ, ◌+◌, ◌*◌, ◌/◌, ◌%◌, nat_le, Bool, true, false, ℤ, pos, negsuc, Option, None, Some, List, [], ◌∷◌, map, codes, if◌then◌else◌}
use Rattle.std.specs.Char.{to_ascii_uppercase}
use Rattle.ground.specs.declared.place.Place.{Place}
use Rattle.ground.specs.declared.token.TokenKind.{TokenKind}
use Rattle.ground.specs.declared.token.TokenKind.TheVariants as kinds
use Rattle.ground.specs.declared.token.Sign.{Sign}
use Rattle.ground.specs.declared.token.Sign.TheVariants as signs
use Rattle.f66_tree.specs.declared.expression.Operator.{Operator}
use Rattle.f66_tree.specs.declared.expression.Operator.TheVariants as operators
use Rattle.f66_tree.specs.declared.declaration.TypeWord.{TypeWord}
use Rattle.f66_tree.specs.declared.declaration.TypeWord.TheVariants as types
use Rattle.f66_tree.specs.Fields.{Fields, NoField}
use Rattle.f66_tree.specs.Syntax.{Text, Formula, Int, Par, Constant, Header, MainUnit, Entry, Declared, Area, PresetPart, Act, Continue}
use Rattle.rat_tree.specs.Syntax.{Command, Empty, Commands, NoCommand, Clauses, NoClause, RatRoutine, RatProgram}
use Rattle.rat_parse_table.specs.Words.{is_spelled}
use Rattle.rat_parse_values.specs.Values.{Val, tok, names, routines}
use Rattle.rat_parse_values.specs.Values as val
use Rattle.rat_parse_values.specs.Kinds.{Range}
use Rattle.rat_parse_values.specs.Kinds as part

abbrev pub no_place : Place
no_place = record { file = 0; line = 0 }

-- the place of a part's first token
abbrev pub place_in : Val → Place
place_in (tok t) = t.place
place_in (val.expression (part.located p f)) = p
place_in (val.statement (part.deed p a)) = p
place_in (val.statement (part.command p c)) = p
place_in (val.unit (part.heading p h)) = p
place_in _ = no_place

-- names are in capitals
abbrev pub kind_name : TokenKind → Text
kind_name (kinds.Word w) = map to_ascii_uppercase w
kind_name _ = []

abbrev pub name_in : Val → Text
name_in (tok t) = kind_name t.kind
name_in _ = []

abbrev pub kind_text : TokenKind → Text
kind_text (kinds.Quoted w) = w
kind_text _ = []

abbrev pub text_in : Val → Text
text_in (tok t) = kind_text t.kind
text_in _ = []

abbrev pub first_letter : Text → ℕ
first_letter [] = 0
first_letter (c ∷ cs) = c

abbrev pub kind_integer : TokenKind → ℤ
kind_integer (kinds.Number z) = z
kind_integer _ = pos 0

abbrev pub integer_in : Val → ℤ
integer_in (tok t) = kind_integer t.kind
integer_in _ = pos 0

-- a number, at most the greatest that there is room for
abbrev pub capped : ℕ → ℤ → ℕ
capped most (pos n) = if nat_le n most then n else most
capped most (negsuc n) = 0

abbrev pub number_in : Val → ℕ
number_in v = capped 4294967295 (integer_in v)

abbrev pub count_in : Val → ℕ
count_in v = capped 65535 (integer_in v)

-- the value of at most five digits that are read as octal ones
abbrev pub octal_value : ℕ → ℕ
octal_value n = (((n / 10000 % 10 * 8 + n / 1000 % 10) * 8 + n / 100 % 10) * 8 + n / 10 % 10) * 8 + n % 10

abbrev pub kind_sign : TokenKind → Sign
kind_sign (kinds.Sign s) = s
kind_sign _ = signs.Plus

abbrev pub sign_in : Val → Sign
sign_in (tok t) = kind_sign t.kind
sign_in _ = signs.Plus

abbrev pub is_true : Sign → Bool
is_true signs.True = true
is_true _ = false

abbrev pub is_minus : Sign → Bool
is_minus signs.Minus = true
is_minus _ = false

abbrev pub operator_of : Sign → Operator
operator_of signs.Minus = operators.Sub
operator_of signs.Star = operators.Mul
operator_of signs.Slash = operators.Div
operator_of signs.Power = operators.Power
operator_of signs.Lt = operators.Lt
operator_of signs.Le = operators.Le
operator_of signs.Eq = operators.Eq
operator_of signs.Ne = operators.Ne
operator_of signs.Ge = operators.Ge
operator_of signs.Gt = operators.Gt
operator_of signs.And = operators.And
operator_of signs.Or = operators.Or
operator_of _ = operators.Add

-- words as they are written
abbrev pub kind_word : TokenKind → Text
kind_word (kinds.Word w) = w
kind_word _ = []

abbrev pub word_in : Val → Text
word_in (tok t) = kind_word t.kind
word_in _ = []

abbrev pub is_word : Text → Val → Bool
is_word spelling v = is_spelled spelling (word_in v)

abbrev pub type_word : Val → TypeWord
type_word v = if is_word (codes "INTEGER") v then types.Integer else (if is_word (codes "LOGICAL") v then types.Logical else types.Other)

abbrev pub as_exprs : Val → List Formula
as_exprs (val.expression (part.formulas all)) = all
as_exprs _ = []

abbrev pub as_joins : Val → List (Operator × Formula)
as_joins (val.expression (part.joins all)) = all
as_joins _ = []

abbrev pub as_names : Val → List Text
as_names (val.parameter (part.names all)) = all
as_names _ = []

abbrev pub as_numbers : Val → List ℕ
as_numbers (val.parameter (part.numbers all)) = all
as_numbers _ = []

abbrev pub as_pars : Val → List Par
as_pars (val.parameter (part.pars all)) = all
as_pars _ = []

abbrev pub as_declareds : Val → List Declared
as_declareds (val.declaration (part.declareds all)) = all
as_declareds _ = []

abbrev pub as_areas : Val → List Area
as_areas (val.declaration (part.areas all)) = all
as_areas _ = []

abbrev pub as_groups : Val → List (List Formula)
as_groups (val.declaration (part.groups all)) = all
as_groups _ = []

abbrev pub as_presets : Val → List PresetPart
as_presets (val.declaration (part.presets all)) = all
as_presets _ = []

abbrev pub as_data : Val → List (ℕ × Formula)
as_data (val.declaration (part.data_values all)) = all
as_data _ = []

abbrev pub as_entries : Val → List Entry
as_entries (val.transfer (part.entries all)) = all
as_entries _ = []

abbrev pub as_fields : Val → Fields
as_fields (val.transfer (part.fields all)) = all
as_fields _ = NoField

abbrev pub as_statements : Val → Commands
as_statements (val.statement (part.commands all)) = all
as_statements _ = NoCommand

abbrev pub as_clauses : Val → Clauses
as_clauses (val.statement (part.clauses all)) = all
as_clauses _ = NoClause

abbrev pub as_units : Val → List RatRoutine
as_units (val.unit (part.routines all)) = all
as_units _ = []

abbrev pub with_declared : Val → List Declared → List Declared
with_declared (val.declaration (part.declared d)) all = d ∷ all
with_declared _ all = all

abbrev pub with_area : Val → List Area → List Area
with_area (val.declaration (part.area d)) all = d ∷ all
with_area _ all = all

abbrev pub with_preset : Val → List PresetPart → List PresetPart
with_preset (val.declaration (part.preset d)) all = d ∷ all
with_preset _ all = all

abbrev pub with_entry : Val → List Entry → List Entry
with_entry (val.transfer (part.entry d)) all = d ∷ all
with_entry _ all = all

abbrev pub with_field : Val → Fields → Fields
with_field (val.transfer (part.field d)) all = d all
with_field _ all = all

abbrev pub with_clause : Val → Clauses → Clauses
with_clause (val.statement (part.clause d)) all = d all
with_clause _ all = all

abbrev pub with_routine : Val → List RatRoutine → List RatRoutine
with_routine (val.unit (part.routine d)) all = d ∷ all
with_routine _ all = all

abbrev pub with_datum : Val → List (ℕ × Formula) → List (ℕ × Formula)
with_datum (val.declaration (part.datum n f)) all = (n, f) ∷ all
with_datum _ all = all

abbrev pub as_formula : Val → Formula
as_formula (val.expression (part.formula f)) = f
as_formula (val.expression (part.located p f)) = f
as_formula _ = Int (pos 0)

abbrev pub as_par : Val → Par
as_par (val.parameter (part.par p)) = p
as_par _ = Constant (pos 0)

abbrev pub as_act : Val → Act
as_act (val.statement (part.deed p a)) = a
as_act _ = Continue

abbrev pub as_command : Val → Command
as_command (val.statement (part.command p c)) = c
as_command _ = Empty no_place

abbrev pub as_header : Val → Header
as_header (val.unit (part.heading p h)) = h
as_header _ = MainUnit

abbrev pub as_range : Val → Range
as_range (val.parameter (part.range r)) = r
as_range _ = record { first = Constant (pos 0); last = Constant (pos 0); step = Constant (pos 0) }

abbrev pub formula_part : Val → Option Formula
formula_part (val.expression (part.formula f)) = Some f
formula_part _ = None

abbrev pub act_part : Val → Option Act
act_part (val.statement (part.deed p a)) = Some a
act_part _ = None

abbrev pub name_if_any : Val → Option Text
name_if_any (tok t) = Some (kind_name t.kind)
name_if_any _ = None

-- a missing count is 1
abbrev pub count_or_one : Val → ℕ
count_or_one (tok t) = capped 4294967295 (kind_integer t.kind)
count_or_one _ = 1

abbrev pub octal_if_any : Val → Option ℕ
octal_if_any (tok t) = Some (octal_value (capped 77777 (kind_integer t.kind)))
octal_if_any _ = None

-- a missing step is 1
abbrev pub step_or_one : Val → Par
step_or_one (val.parameter (part.par p)) = p
step_or_one _ = Constant (pos 1)

abbrev pub as_program : Val → RatProgram
as_program (val.unit (part.program p)) = p
as_program _ = record { routines = []; finish = no_place }
