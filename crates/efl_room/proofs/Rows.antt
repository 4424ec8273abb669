-- The lists in a tree, one member after another.
use Rattle.std.proofs.Common.{◌≡◌, ℕ, zero, suc, ◌+◌, ◌<◌, ◌≤◌, List, [], ◌∷◌, length, drop, get_or, refl, sym, ap, ◌∙◌, arith, Option, option_map, Vec, Global}
use Rattle.std.proofs.Math.Seq.{drop-cons}
use Rattle.std.proofs.Math.ListN.{drop_of_length-le}
use Rattle.ground.specs.declared.value.Kind.{Kind}
use Rattle.efl_typed_tree.specs.declared.expression.Intrinsic.{Intrinsic}
use Rattle.efl_typed_tree.specs.declared.expression.TypedExpr as e
use Rattle.efl_typed_tree.specs.declared.statement.TypedStmt.{TypedStmt}
use Rattle.efl_typed_tree.specs.declared.statement.TypedClause.{TypedClause, out-TypedClause, roll-out-TypedClause}
use Rattle.efl_typed_tree.specs.declared.statement.TypedRange.{TypedRange}
use Rattle.efl_typed_tree.specs.declared.statement.TypedWriteItem.{TypedWriteItem}
use Rattle.efl_typed_tree.specs.declared.statement.TypedReadItem.{TypedReadItem}
use Rattle.std.specs.declared.boxed.Box.{Box}
use Rattle.efl_typed_tree.specs.declared.statement.TypedKind.{TypedKind}
use Rattle.efl_typed_tree.specs.declared.statement.TypedKind.TheVariants as kinds
use Rattle.ground.specs.declared.place.Place.{Place}
use Rattle.efl_program.specs.Typed.{NoExpr, AndExpr, Call, Known, Block, Do, Switch, Write, Read, NoStmt, AndStmt, Clauses, NoClause, AndClause}
use Rattle.efl_typed_tree.specs.Views.{intrinsic_of, expr_of, exprs_of, kind_of, stmt_of, stmts_of, clauses_of, clause_then, write_items_of, read_items_of}
use Rattle.efl_typed_tree.proofs.Rows.{call_expr, known_expr, block_kind, switch_kind, clause_is}
use Rattle.efl_room.proofs.Sizes.{size_of, size_of_all, size_of_stmt, size_of_stmts, size_of_clauses}

-- the next member of a list
pub next_member : {A : Type 0} (list : List A) (i : ℕ) (x : A) → i < length list → x ≡ get_or list i x → drop i list ≡ x ∷ drop (i + 1) list
next_member list i x lt is =
    let k : suc i ≡ i + 1 = omega arith in
    drop-cons list i x lt ∙ ap (λ y. y ∷ drop (suc i) list) (sym is) ∙ ap (λ m. x ∷ drop m list) k

pub next_copied : {A : Type 0} (list : List A) (i : ℕ) (d : A) → i < length list → drop i list ≡ get_or list i d ∷ drop (i + 1) list
next_copied list i d lt =
    let k : suc i ≡ i + 1 = omega arith in
    drop-cons list i d lt ∙ ap (λ m. get_or list i d ∷ drop m list) k

pub from_call : (x : e.TypedExpr) (v : ℕ) (k : Kind) (list : Vec e.TypedExpr Global) (seen : List e.TypedExpr) → x ≡ e.Call v k list → seen ≡ list.items → expr_of x ≡ Call v k (exprs_of seen)
from_call x v k list seen is same = ap expr_of is ∙ call_expr v k list ∙ ap (λ es. Call v k (exprs_of es)) (sym same)

pub from_known : (x : e.TypedExpr) (f : Intrinsic) (list : Vec e.TypedExpr Global) (seen : List e.TypedExpr) → x ≡ e.Known f list → seen ≡ list.items → expr_of x ≡ Known (intrinsic_of f) (exprs_of seen)
from_known x f list seen is same = ap expr_of is ∙ known_expr f list ∙ ap (λ es. Known (intrinsic_of f) (exprs_of es)) (sym same)

-- the next expression of a list
pub next_expr : (list : List e.TypedExpr) (i : ℕ) (x : e.TypedExpr) → i < length list → x ≡ get_or list i x → exprs_of (drop i list) ≡ AndExpr (expr_of x) (exprs_of (drop (i + 1) list))
next_expr list i x lt is =
    let k : suc i ≡ i + 1 = omega arith in
    ap exprs_of (drop-cons list i x lt) ∙ ap (λ y. AndExpr (expr_of y) (exprs_of (drop (suc i) list))) (sym is) ∙ ap (λ m. AndExpr (expr_of x) (exprs_of (drop m list))) k

pub last_expr : (list : List e.TypedExpr) (i : ℕ) → length list ≤ i → exprs_of (drop i list) ≡ NoExpr
last_expr list i le = ap exprs_of (drop_of_length-le list le)

pub expr_size : (list : List e.TypedExpr) (i : ℕ) (x : e.TypedExpr) → i < length list → x ≡ get_or list i x → size_of (expr_of x) ≤ size_of_all (exprs_of list)
expr_size list i x lt is = let h = ap (λ y. size_of (expr_of y)) is in omega (arith, h, inner list i x lt)
  where
    inner : (xs : List e.TypedExpr) (j : ℕ) (d : e.TypedExpr) → j < length xs → size_of (expr_of (get_or xs j d)) ≤ size_of_all (exprs_of xs)
    inner [] j d p = absurd (omega arith)
    inner (x ∷ xs) zero d p = omega arith
    inner (x ∷ xs) (suc j) d p = omega (arith, inner xs j d (omega arith))

-- ---- statements ----

-- the next statement of a list
pub next_stmt : (list : List TypedStmt) (i : ℕ) (x : TypedStmt) → i < length list → x ≡ get_or list i x → stmts_of (drop i list) ≡ AndStmt (stmt_of x) (stmts_of (drop (i + 1) list))
next_stmt list i x lt is =
    let k : suc i ≡ i + 1 = omega arith in
    ap stmts_of (drop-cons list i x lt) ∙ ap (λ y. AndStmt (stmt_of y) (stmts_of (drop (suc i) list))) (sym is) ∙ ap (λ m. AndStmt (stmt_of x) (stmts_of (drop m list))) k

pub last_stmt : (list : List TypedStmt) (i : ℕ) → length list ≤ i → stmts_of (drop i list) ≡ NoStmt
last_stmt list i le = ap stmts_of (drop_of_length-le list le)

pub stmt_size : (list : List TypedStmt) (i : ℕ) (x : TypedStmt) → i < length list → x ≡ get_or list i x → size_of_stmt (stmt_of x) ≤ size_of_stmts (stmts_of list)
stmt_size list i x lt is = let h = ap (λ y. size_of_stmt (stmt_of y)) is in omega (arith, h, inner list i x lt)
  where
    inner : (xs : List TypedStmt) (j : ℕ) (d : TypedStmt) → j < length xs → size_of_stmt (stmt_of (get_or xs j d)) ≤ size_of_stmts (stmts_of xs)
    inner [] j d p = absurd (omega arith)
    inner (x ∷ xs) zero d p = omega arith
    inner (x ∷ xs) (suc j) d p = omega (arith, inner xs j d (omega arith))

pub from_block : (p : Place) (k : TypedKind) (list : Vec TypedStmt Global) (seen : List TypedStmt) → k ≡ kinds.Block list → seen ≡ list.items → kind_of p k ≡ Block p (stmts_of seen)
from_block p k list seen is same = ap (kind_of p) is ∙ block_kind p list ∙ ap (λ ss. Block p (stmts_of ss)) (sym same)

pub from_switch : (p : Place) (k : TypedKind) (x : e.TypedExpr) (list : Vec TypedClause Global) (seen : List TypedClause) → k ≡ kinds.Switch x list → seen ≡ list.items → kind_of p k ≡ Switch p (expr_of x) (clauses_of seen)
from_switch p k x list seen is same = ap (kind_of p) is ∙ switch_kind p x list ∙ ap (λ cs. Switch p (expr_of x) (clauses_of cs)) (sym same)

pub from_do : (p : Place) (k : TypedKind) (v : ℕ) (x : TypedRange) (body : Box TypedStmt Global) → k ≡ kinds.Do v x body → kind_of p k ≡ Do p v (expr_of x.first) (expr_of x.last) (option_map expr_of x.step) (stmt_of body.value)
from_do p k v x body is = ap (kind_of p) is

pub from_write : (p : Place) (k : TypedKind) (x : Option e.TypedExpr) (list : Vec TypedWriteItem Global) (seen : List TypedWriteItem) → k ≡ kinds.Write x list → seen ≡ list.items → kind_of p k ≡ Write p (option_map expr_of x) (write_items_of seen)
from_write p k x list seen is same = ap (kind_of p) is ∙ ap (λ all. Write p (option_map expr_of x) (write_items_of all)) (sym same)

pub from_read : (p : Place) (k : TypedKind) (x : Option e.TypedExpr) (list : Vec TypedReadItem Global) (seen : List TypedReadItem) → k ≡ kinds.Read x list → seen ≡ list.items → kind_of p k ≡ Read p (option_map expr_of x) (read_items_of seen)
from_read p k x list seen is same = ap (kind_of p) is ∙ ap (λ all. Read p (option_map expr_of x) (read_items_of all)) (sym same)

-- ---- clauses ----

clause_at : (x : TypedClause) (rest : Clauses) → clause_then x rest ≡ AndClause (out-TypedClause x).tests.items (out-TypedClause x).fallback (stmts_of (out-TypedClause x).body.items) (out-TypedClause x).place rest
clause_at x rest =
    let o = out-TypedClause x in
    sym (ap (λ y. clause_then y rest) (roll-out-TypedClause x)) ∙ ap (λ f. f rest) (clause_is o.tests o.fallback o.body o.place)

-- clauses by their first
pub clauses_first : (list : List TypedClause) (x : TypedClause) (others : List TypedClause) → list ≡ x ∷ others →
    clauses_of list ≡ AndClause (out-TypedClause x).tests.items (out-TypedClause x).fallback (stmts_of (out-TypedClause x).body.items) (out-TypedClause x).place (clauses_of others)
clauses_first list x others is = ap clauses_of is ∙ clause_at x (clauses_of others)

-- the next clause of a list
pub next_clause : (list : List TypedClause) (i : ℕ) (x : TypedClause) → i < length list → x ≡ get_or list i x →
    clauses_of (drop i list) ≡ AndClause (out-TypedClause x).tests.items (out-TypedClause x).fallback (stmts_of (out-TypedClause x).body.items) (out-TypedClause x).place (clauses_of (drop (i + 1) list))
next_clause list i x lt is = clauses_first (drop i list) x (drop (i + 1) list) (next_member list i x lt is)

pub last_clause : (list : List TypedClause) (i : ℕ) → length list ≤ i → clauses_of (drop i list) ≡ NoClause
last_clause list i le = ap clauses_of (drop_of_length-le list le)

pub clause_size : (list : List TypedClause) (i : ℕ) (x : TypedClause) → i < length list → x ≡ get_or list i x → size_of_stmts (stmts_of (out-TypedClause x).body.items) + 1 ≤ size_of_clauses (clauses_of list)
clause_size list i x lt is = let h = ap (λ y. size_of_stmts (stmts_of (out-TypedClause y).body.items)) is in omega (arith, h, inner list i x lt)
  where
    inner : (xs : List TypedClause) (j : ℕ) (d : TypedClause) → j < length xs → size_of_stmts (stmts_of (out-TypedClause (get_or xs j d)).body.items) + 1 ≤ size_of_clauses (clauses_of xs)
    inner [] j d p = absurd (omega arith)
    inner (x ∷ xs) zero d p = let e = ap size_of_clauses (clauses_first (x ∷ xs) x xs refl) in omega (arith, e)
    inner (x ∷ xs) (suc j) d p = let e = ap size_of_clauses (clauses_first (x ∷ xs) x xs refl) in omega (arith, e, inner xs j d (omega arith))
