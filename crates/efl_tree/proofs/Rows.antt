-- The lists inside trees, as the lists that their code goes over.
use Rattle.std.proofs.Common.{◌≡◌, ℤ, Vec, Global, Bool, Option, refl, ap, ◌∙◌}
use Rattle.std.specs.declared.boxed.Box.{Box}
use mathlib.Core.Former.{Count}
use Rattle.ground.specs.declared.place.Place.{Place}
use Rattle.efl_tree.specs.declared.expression.EflOperator.{EflOperator}
use Rattle.efl_tree.specs.declared.expression.EflExpr.{EflExpr}
use Rattle.efl_tree.specs.declared.expression.EflExpr.TheVariants as v
use Rattle.efl_tree.specs.declared.expression.EflExpr.TheBlock as e
use Rattle.efl_tree.specs.declared.expression.EflPlace.{EflPlace}
use Rattle.efl_tree.specs.declared.expression.EflStep.{EflStep}
use Rattle.efl_tree.specs.declared.expression.EflStep.TheVariants as s
use Rattle.efl_tree.specs.declared.declaration.EflType.{EflType}
use Rattle.efl_tree.specs.declared.declaration.EflType.TheVariants as types
use Rattle.efl_tree.specs.declared.declaration.EflType.TheBlock as t
use Rattle.efl_tree.specs.declared.declaration.EflGroup.{EflGroup}
use Rattle.efl_tree.specs.declared.declaration.EflDecl.{EflDecl}
use Rattle.efl_tree.specs.declared.statement.EflKind.{EflKind}
use Rattle.efl_tree.specs.declared.statement.EflKind.TheVariants as kinds
use Rattle.efl_tree.specs.declared.statement.EflKind.TheBlock as k
use Rattle.efl_tree.specs.declared.statement.EflStmt.{EflStmt}
use Rattle.efl_tree.specs.declared.statement.EflCase.{EflCase}
use Rattle.efl_tree.specs.declared.statement.EflCase as cases
use Rattle.efl_tree.specs.Syntax.{Text, AndExpr, Path, EflSteps, AndGroup, Statement, AndStmt, EflCases, AndCase}
use Rattle.efl_tree.specs.Syntax as efl
use Rattle.efl_tree.specs.Views.{expr_of, row_exprs, exprs_of, step_then, row_steps, steps_of, place_of, type_of, vars_of, row_groups, groups_of, decls_of, kind_of, row_stmts, stmts_of, case_then, row_cases, cases_of}

row_exprs_are : (n : _) (row : e.Row_of-EflExpr n) → row_exprs row ≡ exprs_of (e.items-the_row-EflExpr n row)
row_exprs_are n e.end_of-EflExpr = refl
row_exprs_are n (e.more_of-EflExpr a rest) = ap (AndExpr (expr_of a)) (row_exprs_are _ rest)

row_steps_are : (n : _) (row : e.Row_of-EflStep n) → row_steps row ≡ steps_of (e.items-the_row-EflStep n row)
row_steps_are n e.end_of-EflStep = refl
row_steps_are n (e.more_of-EflStep a rest) = ap (step_then a) (row_steps_are _ rest)

abbrev row_of : EflExpr → (n : Count) × e.Row_of-EflExpr n
row_of (e.At' x n row m path) = (_, row)
row_of (e.Call' x n row) = (_, row)
row_of _ = (_, e.end_of-EflExpr)

abbrev path_of : EflExpr → (n : Count) × e.Row_of-EflStep n
path_of (e.At' x n row m path) = (_, path)
path_of _ = (_, e.end_of-EflStep)

pub call_expr : (x : Text) (list : Vec EflExpr Global) → expr_of (v.Call x list) ≡ efl.Call x (exprs_of list.items)
call_expr x list =
    let row = row_of (v.Call x list) in
    ap (efl.Call x) (row_exprs_are row.0 row.1 ∙ ap exprs_of (e.items_hidden-the_row-EflExpr-0 list))

place_rows : (p : EflPlace) → Path p.first (row_exprs (row_of (v.At p)).1) (row_steps (path_of (v.At p)).1) ≡ place_of p
place_rows p =
    let row = row_of (v.At p) in
    let path = path_of (v.At p) in
    ap (λ a. Path p.first a (row_steps path.1)) (row_exprs_are row.0 row.1 ∙ ap exprs_of (e.items_hidden-the_row-EflExpr-0 p.subscripts))
    ∙ ap (Path p.first (exprs_of p.subscripts.items)) (row_steps_are path.0 path.1 ∙ ap steps_of (e.items_hidden-the_row-EflStep-1 p.steps))

pub at_expr : (p : EflPlace) → expr_of (v.At p) ≡ efl.At (place_of p)
at_expr p = ap efl.At (place_rows p)

pub up_expr : (p : EflPlace) → expr_of (v.Up p) ≡ efl.Up (place_of p)
up_expr p = ap efl.Up (place_rows p)

pub down_expr : (p : EflPlace) → expr_of (v.Down p) ≡ efl.Down (place_of p)
down_expr p = ap efl.Down (place_rows p)

pub assign_expr : (o : Option EflOperator) (p : EflPlace) (b : Box EflExpr Global) → expr_of (v.Assign o p b) ≡ efl.Assign o (place_of p) (expr_of b.value)
assign_expr o p b = ap (λ a. efl.Assign o a (expr_of b.value)) (place_rows p)

abbrev step_row_of : EflStep → (n : Count) × e.Row_of-EflExpr n
step_row_of (e.Member' x n row) = (_, row)
step_row_of _ = (_, e.end_of-EflExpr)

pub member_step : (x : Text) (list : Vec EflExpr Global) (rest : EflSteps) → step_then (s.Member x list) rest ≡ efl.Member x (exprs_of list.items) rest
member_step x list rest =
    let row = step_row_of (s.Member x list) in
    ap (λ a. efl.Member x a rest) (row_exprs_are row.0 row.1 ∙ ap exprs_of (e.items_hidden-the_row-EflExpr-0 list))

row_groups_are : (n : _) (row : t.Row_of-EflGroup n) → row_groups row ≡ groups_of (t.items-the_row-EflGroup n row)
row_groups_are n t.end_of-EflGroup = refl
row_groups_are n (t.more_of-EflGroup a vs p rest) = ap (AndGroup (type_of a) (vars_of vs.items) p) (row_groups_are _ rest)

abbrev group_row_of : EflType → (n : Count) × t.Row_of-EflGroup n
group_row_of (t.Shape' x n row) = (_, row)
group_row_of _ = (_, t.end_of-EflGroup)

pub shape_type : (x : Option Text) (list : Vec EflGroup Global) → type_of (types.Shape x list) ≡ efl.Shape x (groups_of list.items)
shape_type x list =
    let row = group_row_of (types.Shape x list) in
    ap (efl.Shape x) (row_groups_are row.0 row.1 ∙ ap groups_of (t.items_hidden-the_row-EflGroup-0 list))

row_stmts_are : (n : _) (row : k.Row_of-EflStmt n) → row_stmts row ≡ stmts_of (k.items-the_row-EflStmt n row)
row_stmts_are n k.end_of-EflStmt = refl
row_stmts_are n (k.more_of-EflStmt ls p s rest) = ap (AndStmt (Statement ls.items p (kind_of s))) (row_stmts_are _ rest)

row_cases_are : (n : _) (row : k.Row_of-EflCase n) → row_cases row ≡ cases_of (k.items-the_row-EflCase n row)
row_cases_are n k.end_of-EflCase = refl
row_cases_are n (k.more_of-EflCase c rest) = ap (case_then c) (row_cases_are _ rest)

abbrev stmt_row_of : EflKind → (n : Count) × k.Row_of-EflStmt n
stmt_row_of (k.Block' ds n row) = (_, row)
stmt_row_of _ = (_, k.end_of-EflStmt)

abbrev case_row_of : EflKind → (n : Count) × k.Row_of-EflCase n
case_row_of (k.Switch' a n row) = (_, row)
case_row_of _ = (_, k.end_of-EflCase)

pub block_kind : (ds : Vec EflDecl Global) (list : Vec EflStmt Global) → kind_of (kinds.Block ds list) ≡ efl.Block (decls_of ds.items) (stmts_of list.items)
block_kind ds list =
    let row = stmt_row_of (kinds.Block ds list) in
    ap (efl.Block (decls_of ds.items)) (row_stmts_are row.0 row.1 ∙ ap stmts_of (k.items_hidden-the_row-EflStmt-0 list))

pub switch_kind : (a : EflExpr) (list : Vec EflCase Global) → kind_of (kinds.Switch a list) ≡ efl.Switch (expr_of a) (cases_of list.items)
switch_kind a list =
    let row = case_row_of (kinds.Switch a list) in
    ap (efl.Switch (expr_of a)) (row_cases_are row.0 row.1 ∙ ap cases_of (k.items_hidden-the_row-EflCase-1 list))

abbrev body_row_of : EflCase → (n : Count) × k.Row_of-EflStmt n
body_row_of (cases.EflCase' tests fallback n row p) = (_, row)

-- a clause, before whatever follows it
pub clause_is : (tests : Vec ℤ Global) (fallback : Bool) (body : Vec EflStmt Global) (p : Place) →
    case_then (cases.roll-EflCase (record { tests = tests; fallback = fallback; body = body; place = p })) ≡ (λ rest. AndCase tests.items fallback (stmts_of body.items) p rest)
unfolding Rattle.efl_tree.specs.declared.statement.EflKind.TheBlock.hidden-the_row-EflStmt-0 cases.roll-EflCase denote.Hole.Carrier.roll
clause_is tests fallback body p =
    let row = body_row_of (cases.roll-EflCase (record { tests = tests; fallback = fallback; body = body; place = p })) in
    ap (λ ss rest. AndCase tests.items fallback ss p rest) (row_stmts_are row.0 row.1 ∙ ap stmts_of (k.items_hidden-the_row-EflStmt-0 body))
