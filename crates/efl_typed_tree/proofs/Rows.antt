-- The lists inside typed trees, as the lists that their code goes over.
use Rattle.std.proofs.Common.{◌≡◌, ℕ, Vec, Global, Bool, ℤ, refl, ap, ◌∙◌}
use mathlib.Core.Former.{Count}
use Rattle.ground.specs.declared.place.Place.{Place}
use Rattle.ground.specs.declared.value.Kind.{Kind}
use Rattle.efl_typed_tree.specs.declared.expression.Intrinsic.{Intrinsic}
use Rattle.efl_typed_tree.specs.declared.expression.TypedExpr as e
use Rattle.efl_typed_tree.specs.declared.statement.TypedStmt.{TypedStmt}
use Rattle.efl_typed_tree.specs.declared.statement.TypedClause.{TypedClause}
use Rattle.efl_typed_tree.specs.declared.statement.TypedClause as clauses
use Rattle.efl_typed_tree.specs.declared.statement.TypedKind.{TypedKind}
use Rattle.efl_typed_tree.specs.declared.statement.TypedKind.TheVariants as kinds
use Rattle.efl_typed_tree.specs.declared.statement.TypedKind.TheBlock as k
use Rattle.efl_program.specs.Typed.{Call, Known, AndExpr, Block, Switch, AndStmt, AndClause}
use Rattle.efl_typed_tree.specs.Views.{intrinsic_of, expr_of, row_exprs, exprs_of, labelled, kind_of, row_stmts, stmts_of, clause_then, row_clauses, clauses_of}

row_exprs_are : (n : _) (row : e.Row_of-TypedExpr n) → row_exprs row ≡ exprs_of (e.items-the_row-TypedExpr n row)
row_exprs_are n e.end_of-TypedExpr = refl
row_exprs_are n (e.more_of-TypedExpr x rest) = ap (AndExpr (expr_of x)) (row_exprs_are _ rest)

abbrev row_of : e.TypedExpr → (n : Count) × e.Row_of-TypedExpr n
row_of (e.Call' v t n row) = (_, row)
row_of (e.Known' f n row) = (_, row)
row_of _ = (_, e.end_of-TypedExpr)

pub call_expr : (v : ℕ) (t : Kind) (list : Vec e.TypedExpr Global) → expr_of (e.Call v t list) ≡ Call v t (exprs_of list.items)
call_expr v t list =
    let row = row_of (e.Call v t list) in
    ap (Call v t) (row_exprs_are row.0 row.1 ∙ ap exprs_of (e.items_hidden-the_row-TypedExpr-0 list))

pub known_expr : (f : Intrinsic) (list : Vec e.TypedExpr Global) → expr_of (e.Known f list) ≡ Known (intrinsic_of f) (exprs_of list.items)
known_expr f list =
    let row = row_of (e.Known f list) in
    ap (Known (intrinsic_of f)) (row_exprs_are row.0 row.1 ∙ ap exprs_of (e.items_hidden-the_row-TypedExpr-0 list))

row_stmts_are : (n : _) (row : k.Row_of-TypedStmt n) → row_stmts row ≡ stmts_of (k.items-the_row-TypedStmt n row)
row_stmts_are n k.end_of-TypedStmt = refl
row_stmts_are n (k.more_of-TypedStmt ls p s rest) = ap (AndStmt (labelled ls.items p (kind_of p s))) (row_stmts_are _ rest)

row_clauses_are : (n : _) (row : k.Row_of-TypedClause n) → row_clauses row ≡ clauses_of (k.items-the_row-TypedClause n row)
row_clauses_are n k.end_of-TypedClause = refl
row_clauses_are n (k.more_of-TypedClause c rest) = ap (clause_then c) (row_clauses_are _ rest)

abbrev stmt_row_of : TypedKind → (n : Count) × k.Row_of-TypedStmt n
stmt_row_of (k.Block' n row) = (_, row)
stmt_row_of _ = (_, k.end_of-TypedStmt)

abbrev clause_row_of : TypedKind → (n : Count) × k.Row_of-TypedClause n
clause_row_of (k.Switch' x n row) = (_, row)
clause_row_of _ = (_, k.end_of-TypedClause)

pub block_kind : (p : Place) (list : Vec TypedStmt Global) → kind_of p (kinds.Block list) ≡ Block p (stmts_of list.items)
block_kind p list =
    let row = stmt_row_of (kinds.Block list) in
    ap (Block p) (row_stmts_are row.0 row.1 ∙ ap stmts_of (k.items_hidden-the_row-TypedStmt-0 list))

pub switch_kind : (p : Place) (x : e.TypedExpr) (list : Vec TypedClause Global) → kind_of p (kinds.Switch x list) ≡ Switch p (expr_of x) (clauses_of list.items)
switch_kind p x list =
    let row = clause_row_of (kinds.Switch x list) in
    ap (Switch p (expr_of x)) (row_clauses_are row.0 row.1 ∙ ap clauses_of (k.items_hidden-the_row-TypedClause-1 list))

abbrev body_row_of : TypedClause → (n : Count) × k.Row_of-TypedStmt n
body_row_of (clauses.TypedClause' tests fallback n row p) = (_, row)

-- a clause, before whatever follows it
pub clause_is : (tests : Vec ℤ Global) (fallback : Bool) (body : Vec TypedStmt Global) (p : Place) →
    clause_then (clauses.roll-TypedClause (record { tests = tests; fallback = fallback; body = body; place = p })) ≡ (λ rest. AndClause tests.items fallback (stmts_of body.items) p rest)
unfolding Rattle.efl_typed_tree.specs.declared.statement.TypedKind.TheBlock.hidden-the_row-TypedStmt-0 clauses.roll-TypedClause denote.Hole.Carrier.roll
clause_is tests fallback body p =
    let row = body_row_of (clauses.roll-TypedClause (record { tests = tests; fallback = fallback; body = body; place = p })) in
    ap (λ ss rest. AndClause tests.items fallback ss p rest) (row_stmts_are row.0 row.1 ∙ ap stmts_of (k.items_hidden-the_row-TypedStmt-0 body))
