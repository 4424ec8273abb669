-- What is read off the parts: of a token its place, name, number or sign; of a part what it gives.
use Rattle.std.specs.Prelude.{ℕ, nat_le, Bool, true, false, ℤ, pos, negsuc, Option, None, Some, List, [], ◌∷◌, map, codes, if◌then◌else◌}
use Rattle.std.specs.Char.{to_ascii_uppercase}
use Rattle.ground.specs.declared.place.Place.{Place}
use Rattle.ground.specs.declared.token.TokenKind.{TokenKind}
use Rattle.ground.specs.declared.token.TokenKind.TheVariants as kinds
use Rattle.ground.specs.declared.token.Sign.{Sign}
use Rattle.ground.specs.declared.token.Sign.TheVariants as signs
use Rattle.efl_tree.specs.declared.expression.EflOperator.{EflOperator}
use Rattle.efl_tree.specs.declared.expression.EflOperator.TheVariants as operators
use Rattle.efl_tree.specs.declared.declaration.EflBound.{EflBound}
use Rattle.efl_tree.specs.declared.declaration.EflConst.{EflConst}
use Rattle.efl_tree.specs.declared.declaration.EflConst.TheVariants as constants
use Rattle.efl_tree.specs.declared.statement.LoopKind.{LoopKind}
use Rattle.efl_tree.specs.declared.statement.EflEdit.{EflEdit}
use Rattle.efl_tree.specs.declared.statement.EflEdit.TheVariants as edits
use Rattle.efl_tree.specs.Syntax.{Text, EflExpr, Int, EflExprs, NoExpr, EflPlace, Path, EflSteps, NoStep, EflVar, EflType, Integer, EflGroups, NoGroup, AndGroup, EflPreset, EflDeclKind, Variables, EflDecl, WriteItem, ReadItem, EflStmt, Statement, Empty, EflStmts, NoStmt, EflCases, NoCase, AndCase, EflProcedure, EflProgram}
use Rattle.efl_tree.specs.Syntax as efl
use Rattle.efl_parse_table.specs.Words.{is_spelled}
use Rattle.efl_parse_values.specs.Kinds.{Joins, Tail, Rest, Called, Opening}
use Rattle.efl_parse_values.specs.Kinds as part
use Rattle.efl_parse_values.specs.Values.{Val, tok}
use Rattle.efl_parse_values.specs.Values as val

abbrev pub nowhere : Place
nowhere = record { file = 0; line = 0 }

abbrev pub stmt_place : EflStmt → Place
stmt_place (Statement ls p k) = p

-- the place of a part's first token, behind labels
abbrev pub place_in : Val → Place
place_in (tok t) = t.place
place_in (val.expression (part.located p e)) = p
place_in (val.type_part (part.typed p t)) = p
place_in (val.declaration_part (part.declaration p d)) = p
place_in (val.procedure_part (part.header p t x xs)) = p
place_in (val.statement (part.stmt s)) = stmt_place s
place_in _ = nowhere

-- names are in capitals
abbrev pub kind_name : TokenKind → Text
kind_name (kinds.Word w) = map to_ascii_uppercase w
kind_name _ = []

abbrev pub name_in : Val → Text
name_in (tok t) = kind_name t.kind
name_in _ = []

abbrev pub kind_text : TokenKind → Text
kind_text (kinds.Quoted w) = w
kind_text _ = []

abbrev pub text_in : Val → Text
text_in (tok t) = kind_text t.kind
text_in _ = []

abbrev pub kind_integer : TokenKind → ℤ
kind_integer (kinds.Number z) = z
kind_integer _ = pos 0

abbrev pub integer_in : Val → ℤ
integer_in (tok t) = kind_integer t.kind
integer_in (val.count (part.integer z)) = z
integer_in _ = pos 0

-- a count, at most the greatest that there is room for
abbrev pub capped : ℤ → ℕ
capped (pos n) = if nat_le n 4294967295 then n else 4294967295
capped (negsuc n) = 0

abbrev pub number_in : Val → ℕ
number_in v = capped (integer_in v)

abbrev pub count_or_one : Val → ℕ
count_or_one (tok t) = capped (kind_integer t.kind)
count_or_one _ = 1

abbrev pub kind_sign : TokenKind → Sign
kind_sign (kinds.Sign s) = s
kind_sign _ = signs.Plus

abbrev pub sign_in : Val → Sign
sign_in (tok t) = kind_sign t.kind
sign_in _ = signs.Plus

abbrev pub is_minus : Sign → Bool
is_minus signs.Minus = true
is_minus _ = false

abbrev pub is_decrement : Sign → Bool
is_decrement signs.Decrement = true
is_decrement _ = false

abbrev pub kind_word : TokenKind → Text
kind_word (kinds.Word w) = w
kind_word _ = []

-- whether a part is this word in capitals, in whatever case
abbrev pub is_word : List ℕ → Val → Bool
is_word w (tok t) = is_spelled w (kind_word t.kind)
is_word w _ = is_spelled w []

abbrev pub is_true : Val → Bool
is_true v = is_word (codes "TRUE") v

-- of a binary sign, or of an assignment
abbrev pub operator_of : Sign → EflOperator
operator_of signs.Minus = operators.Sub
operator_of signs.Star = operators.Mul
operator_of signs.Slash = operators.Div
operator_of signs.Power = operators.Power
operator_of signs.Lt = operators.Lt
operator_of signs.Le = operators.Le
operator_of signs.Eq = operators.Eq
operator_of signs.Ne = operators.Ne
operator_of signs.Ge = operators.Ge
operator_of signs.Gt = operators.Gt
operator_of signs.And = operators.And
operator_of signs.Or = operators.Or
operator_of signs.AndThen = operators.AndThen
operator_of signs.OrElse = operators.OrElse
operator_of signs.SubAssign = operators.Sub
operator_of signs.MulAssign = operators.Mul
operator_of signs.DivAssign = operators.Div
operator_of signs.PowerAssign = operators.Power
operator_of signs.AndAssign = operators.And
operator_of signs.OrAssign = operators.Or
operator_of signs.AndThenAssign = operators.AndThen
operator_of signs.OrElseAssign = operators.OrElse
operator_of _ = operators.Add

abbrev pub first_letter : Text → ℕ
first_letter [] = 0
first_letter (c ∷ cs) = c

abbrev pub letter_in : Val → ℕ
letter_in v = first_letter (name_in v)

-- the first letter of a name, if the part is one
abbrev pub letter_part : Val → Option ℕ
letter_part (tok t) = Some (first_letter (kind_name t.kind))
letter_part _ = None

-- what a part gives that is of this kind
abbrev pub as_expr : Val → EflExpr
as_expr (val.expression (part.expr x)) = x
as_expr (val.expression (part.located p x)) = x
as_expr _ = Int (pos 0)

abbrev pub expr_part : Val → Option EflExpr
expr_part (val.expression (part.expr x)) = Some x
expr_part (val.expression (part.located p x)) = Some x
expr_part _ = None

abbrev pub as_exprs : Val → EflExprs
as_exprs (val.expression (part.exprs x)) = x
as_exprs _ = NoExpr

abbrev pub as_joins : Val → Joins
as_joins (val.expression (part.joins x)) = x
as_joins _ = []

abbrev pub bare : Tail → Rest
bare t = record { arguments = NoExpr; steps = NoStep; tail = t }

abbrev pub as_rest : Val → Rest
as_rest (val.expression (part.rest x)) = x
as_rest _ = bare (Called [])

abbrev pub as_path : Val → EflPlace
as_path (val.expression (part.path x)) = x
as_path _ = Path [] NoExpr NoStep

abbrev pub as_steps : Val → EflSteps
as_steps (val.expression (part.steps x)) = x
as_steps _ = NoStep

abbrev pub as_names : Val → List Text
as_names (val.count (part.names xs)) = xs
as_names (val.procedure_part (part.heading x xs)) = xs
as_names _ = []

abbrev pub as_integers : Val → List ℤ
as_integers (val.count (part.integers xs)) = xs
as_integers _ = []

abbrev pub range_in : Val → ℕ × ℕ
range_in (val.count (part.range x)) = x
range_in _ = (0, 0)

abbrev pub as_ranges : Val → List (ℕ × ℕ)
as_ranges (val.count (part.ranges xs)) = xs
as_ranges _ = []

-- an upper bound, if the part is one
abbrev pub upper_part : Val → Option (Option ℤ)
upper_part (val.count (part.upper o)) = Some o
upper_part _ = None

abbrev pub count_in : Val → ℕ
count_in (val.count (part.leaving n k)) = n
count_in _ = 1

abbrev pub loop_in : Val → Option LoopKind
loop_in (val.count (part.leaving n k)) = k
loop_in _ = None

abbrev pub type_in : Val → EflType
type_in (val.type_part (part.typed p t)) = t
type_in _ = Integer

abbrev pub bound_in : Val → EflBound
bound_in (val.type_part (part.bound x)) = x
bound_in _ = record { low = None; high = None }

abbrev pub as_bounds : Val → List EflBound
as_bounds (val.type_part (part.bounds xs)) = xs
as_bounds _ = []

abbrev pub var_in : Val → EflVar
var_in (val.type_part (part.var x)) = x
var_in _ = record { name = []; bounds = [] }

abbrev pub as_vars : Val → List EflVar
as_vars (val.type_part (part.vars xs)) = xs
as_vars (val.type_part (part.outline o xs)) = xs
as_vars _ = []

-- the group before those that follow it
abbrev pub with_group : Val → EflGroups → EflGroups
with_group (val.type_part (part.group t xs p)) gs = AndGroup t xs p gs
with_group _ gs = AndGroup Integer [] nowhere gs

abbrev pub as_groups : Val → EflGroups
as_groups (val.type_part (part.groups x)) = x
as_groups _ = NoGroup

abbrev pub groups_part : Val → Option EflGroups
groups_part (val.type_part (part.groups x)) = Some x
groups_part _ = None

abbrev pub outline_groups : Val → Option EflGroups
outline_groups (val.type_part (part.outline o xs)) = o
outline_groups _ = None

abbrev pub constant_in : Val → EflConst
constant_in (val.declaration_part (part.constant x)) = x
constant_in _ = constants.Int (pos 0)

abbrev pub constant_part : Val → Option EflConst
constant_part (val.declaration_part (part.constant x)) = Some x
constant_part _ = None

abbrev pub datum_in : Val → ℕ × EflConst
datum_in (val.declaration_part (part.datum n c)) = (n, c)
datum_in _ = (1, constants.Int (pos 0))

abbrev pub as_data : Val → List (ℕ × EflConst)
as_data (val.declaration_part (part.data_list xs)) = xs
as_data (val.declaration_part (part.preset_values b xs)) = xs
as_data _ = []

abbrev pub is_listed : Val → Bool
is_listed (val.declaration_part (part.preset_values b xs)) = b
is_listed _ = false

abbrev pub preset_in : Val → EflPreset
preset_in (val.declaration_part (part.preset x)) = x
preset_in _ = record { place = Path [] NoExpr NoStep; values = []; listed = false }

abbrev pub as_presets : Val → List EflPreset
as_presets (val.declaration_part (part.presets xs)) = xs
as_presets _ = []

abbrev pub decl_in : Val → EflDeclKind
decl_in (val.declaration_part (part.declared d)) = d
decl_in (val.declaration_part (part.declaration p d)) = d
decl_in _ = Variables None Integer []

abbrev pub edit_in : Val → EflEdit
edit_in (val.record_part (part.edit x)) = x
edit_in _ = edits.Letter

abbrev pub write_item_in : Val → WriteItem
write_item_in (val.record_part (part.write_item x)) = x
write_item_in _ = efl.Skip (pos 0)

abbrev pub as_write_items : Val → List WriteItem
as_write_items (val.record_part (part.write_items xs)) = xs
as_write_items _ = []

abbrev pub read_item_in : Val → ReadItem
read_item_in (val.record_part (part.read_item x)) = x
read_item_in _ = efl.Skip (pos 0)

abbrev pub as_read_items : Val → List ReadItem
as_read_items (val.record_part (part.read_items xs)) = xs
as_read_items _ = []

abbrev pub as_stmt : Val → EflStmt
as_stmt (val.statement (part.stmt x)) = x
as_stmt _ = Statement [] nowhere Empty

abbrev pub stmt_part : Val → Option EflStmt
stmt_part (val.statement (part.stmt x)) = Some x
stmt_part _ = None

-- the condition of `until`, and its place
abbrev pub until_part : Val → Option (EflExpr × Place)
until_part (val.expression (part.located p x)) = Some (x, p)
until_part _ = None

abbrev pub as_stmts : Val → EflStmts
as_stmts (val.statement (part.stmts x)) = x
as_stmts _ = NoStmt

-- the clause before those that follow it
abbrev pub with_clause : Val → EflCases → EflCases
with_clause (val.statement (part.clause f)) = f
with_clause _ = AndCase [] false NoStmt nowhere

abbrev pub as_clauses : Val → EflCases
as_clauses (val.statement (part.clauses x)) = x
as_clauses _ = NoCase

abbrev pub decls_in : Val → List EflDecl
decls_in (val.statement (part.lists ds ss)) = ds
decls_in _ = []

abbrev pub body_in : Val → EflStmts
body_in (val.statement (part.lists ds ss)) = ss
body_in _ = NoStmt

abbrev pub opening_part : Val → Option Opening
opening_part (val.statement (part.opening o)) = Some o
opening_part _ = None

abbrev pub heading_name : Val → Option Text
heading_name (val.procedure_part (part.heading x xs)) = x
heading_name _ = None

abbrev pub as_procedure : Val → EflProcedure
as_procedure (val.procedure_part (part.procedure x)) = x
as_procedure _ = record { result = None; name = None; formals = []; declarations = []; body = NoStmt; place = nowhere; finish = nowhere }

abbrev pub as_procedures : Val → List EflProcedure
as_procedures (val.procedure_part (part.procedures xs)) = xs
as_procedures _ = []

abbrev pub as_program : Val → EflProgram
as_program (val.procedure_part (part.program x)) = x
as_program _ = record { procedures = []; finish = nowhere }
