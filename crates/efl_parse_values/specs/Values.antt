-- What the parts of a text give, as plain data.
use Rattle.std.specs.Prelude.{ℕ, ℤ, zero, suc, Bool, Option, None, Some, List, [], ◌∷◌, map, reverse}
use Rattle.ground.specs.declared.place.Place.{Place}
use Rattle.ground.specs.declared.token.Token.{Token}
use Rattle.std.specs.declared.vec.Vec.{Vec}
use Rattle.std.specs.declared.boxed.Box.{Box}
use Rattle.std.specs.declared.alloc.Global.{Global}
use Rattle.grammar.specs.Stack.{piled}
use Rattle.efl_tree.specs.declared.expression.EflOperator.{EflOperator}
use Rattle.efl_tree.specs.declared.expression.EflExpr as trees
use Rattle.efl_tree.specs.declared.declaration.EflBound.{EflBound}
use Rattle.efl_tree.specs.declared.declaration.EflConst.{EflConst}
use Rattle.efl_tree.specs.declared.declaration.EflGroup as group_trees
use Rattle.efl_tree.specs.declared.statement.EflStmt as stmt_trees
use Rattle.efl_tree.specs.declared.statement.LoopKind.{LoopKind}
use Rattle.efl_tree.specs.declared.statement.EflEdit.{EflEdit}
use Rattle.efl_tree.specs.Syntax.{Text, EflExpr, EflExprs, EflPlace, EflSteps, EflVar, EflType, EflGroups, EflPreset, EflDeclKind, EflDecl, WriteItem, ReadItem, EflStmt, EflStmts, EflCases, EflProcedure, EflProgram}
use Rattle.efl_tree.specs.Views.{expr_of, exprs_of, steps_of, place_of, var_of, vars_of, type_of, type_if_any, groups_of, preset_of, decl_kind_of, decls_of, write_item_of, read_item_of, stmt_of, stmts_of, case_then, cases_of, procedure_of, program_of}
use Rattle.efl_parse_values.specs.declared.value.Value.{Value}
use Rattle.efl_parse_values.specs.declared.value.Value.TheVariants as v
use Rattle.efl_parse_values.specs.declared.value.ExpressionValue.{ExpressionValue}
use Rattle.efl_parse_values.specs.declared.value.ExpressionValue.TheVariants as in_expression
use Rattle.efl_parse_values.specs.declared.value.CountValue.{CountValue}
use Rattle.efl_parse_values.specs.declared.value.CountValue.TheVariants as in_count
use Rattle.efl_parse_values.specs.declared.value.TypeValue.{TypeValue}
use Rattle.efl_parse_values.specs.declared.value.TypeValue.TheVariants as in_type
use Rattle.efl_parse_values.specs.declared.value.DeclarationValue.{DeclarationValue}
use Rattle.efl_parse_values.specs.declared.value.DeclarationValue.TheVariants as in_declaration
use Rattle.efl_parse_values.specs.declared.value.RecordValue.{RecordValue}
use Rattle.efl_parse_values.specs.declared.value.RecordValue.TheVariants as in_record
use Rattle.efl_parse_values.specs.declared.value.StatementValue.{StatementValue}
use Rattle.efl_parse_values.specs.declared.value.StatementValue.TheVariants as in_statement
use Rattle.efl_parse_values.specs.declared.value.ProcedureValue.{ProcedureValue}
use Rattle.efl_parse_values.specs.declared.value.ProcedureValue.TheVariants as in_procedure
use Rattle.efl_parse_values.specs.declared.value.Rest as rests
use Rattle.efl_parse_values.specs.declared.value.Tail as tails
use Rattle.efl_parse_values.specs.declared.value.Tail.TheVariants as in_tail
use Rattle.efl_parse_values.specs.declared.value.Opening as openings
use Rattle.efl_parse_values.specs.declared.value.Opening.TheVariants as in_opening
use Rattle.efl_parse_values.specs.Kinds.{Joins, Tail, Called, Reached, Stored, Rest, Opening, Declares, Begins, Labels, ExpressionVal, CountVal, TypeVal, DeclarationVal, RecordVal, StatementVal, ProcedureVal}
use Rattle.efl_parse_values.specs.Kinds as part

pub data Val : Type 0 where
  nothing : Val
  tok : Token → Val
  expression : ExpressionVal → Val
  count : CountVal → Val
  type_part : TypeVal → Val
  declaration_part : DeclarationVal → Val
  record_part : RecordVal → Val
  statement : StatementVal → Val
  procedure_part : ProcedureVal → Val

abbrev pub expr : EflExpr → Val
expr x = expression (part.expr x)

abbrev pub located : Place → EflExpr → Val
located p x = expression (part.located p x)

abbrev pub exprs : EflExprs → Val
exprs x = expression (part.exprs x)

abbrev pub joins : Joins → Val
joins x = expression (part.joins x)

abbrev pub rest : Rest → Val
rest x = expression (part.rest x)

abbrev pub path : EflPlace → Val
path x = expression (part.path x)

abbrev pub steps : EflSteps → Val
steps x = expression (part.steps x)

abbrev pub names : List Text → Val
names x = count (part.names x)

abbrev pub integer : ℤ → Val
integer x = count (part.integer x)

abbrev pub integers : List ℤ → Val
integers x = count (part.integers x)

abbrev pub upper : Option ℤ → Val
upper x = count (part.upper x)

abbrev pub range : ℕ × ℕ → Val
range x = count (part.range x)

abbrev pub ranges : List (ℕ × ℕ) → Val
ranges x = count (part.ranges x)

abbrev pub leaving : ℕ → Option LoopKind → Val
leaving n k = count (part.leaving n k)

abbrev pub typed : Place → EflType → Val
typed p x = type_part (part.typed p x)

abbrev pub bound : EflBound → Val
bound x = type_part (part.bound x)

abbrev pub bounds : List EflBound → Val
bounds x = type_part (part.bounds x)

abbrev pub var : EflVar → Val
var x = type_part (part.var x)

abbrev pub vars : List EflVar → Val
vars x = type_part (part.vars x)

abbrev pub group : EflType → List EflVar → Place → Val
group t xs p = type_part (part.group t xs p)

abbrev pub groups : EflGroups → Val
groups x = type_part (part.groups x)

abbrev pub outline : Option EflGroups → List EflVar → Val
outline o xs = type_part (part.outline o xs)

abbrev pub constant : EflConst → Val
constant x = declaration_part (part.constant x)

abbrev pub datum : ℕ → EflConst → Val
datum n x = declaration_part (part.datum n x)

abbrev pub data_list : List (ℕ × EflConst) → Val
data_list x = declaration_part (part.data_list x)

abbrev pub preset_values : Bool → List (ℕ × EflConst) → Val
preset_values b x = declaration_part (part.preset_values b x)

abbrev pub preset : EflPreset → Val
preset x = declaration_part (part.preset x)

abbrev pub presets : List EflPreset → Val
presets x = declaration_part (part.presets x)

abbrev pub declared : EflDeclKind → Val
declared x = declaration_part (part.declared x)

abbrev pub declaration : Place → EflDeclKind → Val
declaration p x = declaration_part (part.declaration p x)

abbrev pub edit : EflEdit → Val
edit x = record_part (part.edit x)

abbrev pub write_item : WriteItem → Val
write_item x = record_part (part.write_item x)

abbrev pub write_items : List WriteItem → Val
write_items x = record_part (part.write_items x)

abbrev pub read_item : ReadItem → Val
read_item x = record_part (part.read_item x)

abbrev pub read_items : List ReadItem → Val
read_items x = record_part (part.read_items x)

abbrev pub stmt : EflStmt → Val
stmt x = statement (part.stmt x)

abbrev pub stmts : EflStmts → Val
stmts x = statement (part.stmts x)

abbrev pub clause : (EflCases → EflCases) → Val
clause x = statement (part.clause x)

abbrev pub clauses : EflCases → Val
clauses x = statement (part.clauses x)

abbrev pub lists : List EflDecl → EflStmts → Val
lists ds ss = statement (part.lists ds ss)

abbrev pub opening : Opening → Val
opening x = statement (part.opening x)

abbrev pub heading : Option Text → List Text → Val
heading x xs = procedure_part (part.heading x xs)

abbrev pub header : Place → Option EflType → Option Text → List Text → Val
header p t x xs = procedure_part (part.header p t x xs)

abbrev pub procedure : EflProcedure → Val
procedure x = procedure_part (part.procedure x)

abbrev pub procedures : List EflProcedure → Val
procedures x = procedure_part (part.procedures x)

abbrev pub program : EflProgram → Val
program x = procedure_part (part.program x)

abbrev pub join_of : EflOperator × trees.EflExpr → EflOperator × EflExpr
join_of p = (p.0, expr_of p.1)

-- lists in memory have the last item first
abbrev pub joins_of : List (EflOperator × trees.EflExpr) → Joins
joins_of all = map join_of (reverse all)

abbrev pub tail_of : tails.Tail → Tail
tail_of (in_tail.Called all) = Called (joins_of all.items)
tail_of (in_tail.Reached all) = Reached (joins_of all.items)
tail_of (in_tail.Stored o a) = Stored o (expr_of a.value)

abbrev pub rest_of : rests.Rest → Rest
rest_of r = record { arguments = exprs_of r.arguments.items; steps = steps_of r.steps.items; tail = tail_of r.tail }

abbrev pub groups_if_any : Option (Vec group_trees.EflGroup Global) → Option EflGroups
groups_if_any None = None
groups_if_any (Some all) = Some (groups_of all.items)

abbrev pub stmt_if_any : Option (Box stmt_trees.EflStmt Global) → Option EflStmt
stmt_if_any None = None
stmt_if_any (Some s) = Some (stmt_of s.value)

abbrev pub until_if_any : Option (trees.EflExpr × Place) → Option (EflExpr × Place)
until_if_any None = None
until_if_any (Some u) = Some (expr_of u.0, u.1)

abbrev pub opening_of : openings.Opening → Opening
opening_of (in_opening.Declares vs ls) = Declares (vars_of (reverse vs.items)) (decls_of (reverse ls.declarations.items)) (stmts_of (reverse ls.body.items))
opening_of (in_opening.Begins r ss) = Begins (rest_of r) (stmts_of (reverse ss.items))
opening_of (in_opening.Labels s ss) = Labels (stmt_of s) (stmts_of (reverse ss.items))

abbrev pub opening_if_any : Option (Box openings.Opening Global) → Option Opening
opening_if_any None = None
opening_if_any (Some o) = Some (opening_of o.value)

abbrev pub expression_value : ExpressionValue → ExpressionVal
expression_value (in_expression.Expr a) = part.expr (expr_of a)
expression_value (in_expression.Located p a) = part.located p (expr_of a)
expression_value (in_expression.Exprs all) = part.exprs (exprs_of (reverse all.items))
expression_value (in_expression.Joins all) = part.joins (joins_of all.items)
expression_value (in_expression.Rest r) = part.rest (rest_of r)
expression_value (in_expression.Path p) = part.path (place_of p)
expression_value (in_expression.Steps all) = part.steps (steps_of (reverse all.items))

abbrev pub count_value : CountValue → CountVal
count_value (in_count.Names all) = part.names (reverse all.items)
count_value (in_count.Integer n) = part.integer n
count_value (in_count.Integers all) = part.integers (reverse all.items)
count_value (in_count.Upper o) = part.upper o
count_value (in_count.Range r) = part.range r
count_value (in_count.Ranges all) = part.ranges (reverse all.items)
count_value (in_count.Leaving n k) = part.leaving n k

abbrev pub type_value : TypeValue → TypeVal
type_value (in_type.Typed p a) = part.typed p (type_of a)
type_value (in_type.Bound b) = part.bound b
type_value (in_type.Bounds all) = part.bounds (reverse all.items)
type_value (in_type.Var x) = part.var (var_of x)
type_value (in_type.Vars all) = part.vars (vars_of (reverse all.items))
type_value (in_type.Group g) = part.group (type_of g.kind) (vars_of g.variables.items) g.place
type_value (in_type.Groups all) = part.groups (groups_of (reverse all.items))
type_value (in_type.Outline o all) = part.outline (groups_if_any o) (vars_of (reverse all.items))

abbrev pub declaration_value : DeclarationValue → DeclarationVal
declaration_value (in_declaration.Constant c) = part.constant c
declaration_value (in_declaration.Datum n c) = part.datum n c
declaration_value (in_declaration.Data all) = part.data_list (reverse all.items)
declaration_value (in_declaration.Values b all) = part.preset_values b (reverse all.items)
declaration_value (in_declaration.Preset p) = part.preset (preset_of p.value)
declaration_value (in_declaration.Presets all) = part.presets (map preset_of (reverse all.items))
declaration_value (in_declaration.Declared d) = part.declared (decl_kind_of d.value)
declaration_value (in_declaration.Declaration d) = part.declaration d.value.place (decl_kind_of d.value.kind)

abbrev pub record_value : RecordValue → RecordVal
record_value (in_record.Edit f) = part.edit f
record_value (in_record.WriteItem a) = part.write_item (write_item_of a.value)
record_value (in_record.WriteItems all) = part.write_items (map write_item_of (reverse all.items))
record_value (in_record.ReadItem a) = part.read_item (read_item_of a)
record_value (in_record.ReadItems all) = part.read_items (map read_item_of (reverse all.items))

abbrev pub statement_value : StatementValue → StatementVal
statement_value (in_statement.Statement s) = part.stmt (stmt_of s.value)
statement_value (in_statement.Statements all) = part.stmts (stmts_of (reverse all.items))
statement_value (in_statement.Clause c) = part.clause (case_then c)
statement_value (in_statement.Clauses all) = part.clauses (cases_of (reverse all.items))
statement_value (in_statement.Lists ls) = part.lists (decls_of (reverse ls.declarations.items)) (stmts_of (reverse ls.body.items))
statement_value (in_statement.Opening o) = part.opening (opening_of o.value)

abbrev pub procedure_value : ProcedureValue → ProcedureVal
procedure_value (in_procedure.Heading x all) = part.heading x (reverse all.items)
procedure_value (in_procedure.Header h) = part.header h.value.place (type_if_any h.value.result) h.value.name (reverse h.value.formals.items)
procedure_value (in_procedure.Procedure a) = part.procedure (procedure_of a.value)
procedure_value (in_procedure.Procedures all) = part.procedures (map procedure_of (reverse all.items))
procedure_value (in_procedure.Program a) = part.program (program_of a)

abbrev pub value : Value → Val
value v.Nothing = nothing
value (v.Token t) = tok t
value (v.Expression x) = expression (expression_value x)
value (v.Count x) = count (count_value x)
value (v.Type x) = type_part (type_value x)
value (v.Declaration x) = declaration_part (declaration_value x)
value (v.Record x) = record_part (record_value x)
value (v.Statement x) = statement (statement_value x)
value (v.Procedure x) = procedure_part (procedure_value x)

-- the parts of a production stand with the last one first
abbrev pub last_of : List Val → Val
last_of [] = nothing
last_of (v ∷ vs) = v

abbrev pub others : List Val → List Val
others [] = []
others (v ∷ vs) = vs

-- the part that stands so many before the last
abbrev pub at : ℕ → List Val → Val
at zero vs = last_of vs
at (suc n) vs = at n (others vs)

abbrev pub values : List Value → List Val
values parts = piled value parts []
