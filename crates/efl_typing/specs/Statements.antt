-- What is made of the parts of a body, wherever they stand: what the typing says, where nothing is unbuilt.
use Rattle.std.specs.Prelude.{◌≡◌, ℕ, ℤ, Bool, true, false, List, Option, option_map}
use Rattle.ground.specs.declared.place.Place.{Place}
use Rattle.efl_tree.specs.Syntax.{EflExpr, EflDecl, EflStmt, EflKind, Block, IfElse, EflStmts, EflCases}
use Rattle.efl_scope.specs.Parts.{into, in_list, parts_of, parts_within, parts_in, clauses_in}
use Rattle.efl_program.specs.Typed.{AndClause}
use Rattle.efl_typed.specs.Typing.{Context, within}
use Rattle.efl_typed.specs.Typing as typing
use Rattle.efl_typed_tree.specs.declared.statement.TypedStmt.{TypedStmt}
use Rattle.efl_typed_tree.specs.declared.statement.TypedKind.{TypedKind}
use Rattle.efl_typed_tree.specs.declared.statement.TypedRange.{TypedRange}
use Rattle.efl_typed_tree.specs.declared.statement.TypedClause.{TypedClause}
use Rattle.efl_typed_tree.specs.Views as views
use Rattle.efl_built.specs.Unbuilt.{unbuilt_expr, unbuilt_if_any, unbuilt_by, are_built}
use Rattle.efl_bindings.specs.declared.scopes.Table.{Table}
use Rattle.efl_bindings.specs.declared.sites.Site.{Site}
use Rattle.efl_bindings.specs.Sites.{IsSite, OpensTo}

-- a statement
pub record IsStatement (s : EflStmt) (at : Site) (t : TypedStmt) : Type 0 where
  pub is : (c : Context) → IsSite c at → are_built (parts_of c.around s) ≡ true → views.stmt_of t ≡ typing.stmt_of c s

-- the statement with this number
pub record IsStatementIn (n : ℕ) (s : EflStmt) (at : Site) (t : TypedStmt) : Type 0 where
  pub is : (c : Context) → IsSite c at → are_built (parts_of (into n c.around) s) ≡ true → views.stmt_of t ≡ typing.stmt_of (within c (into n c.around)) s

-- what a statement is, without its labels
pub record IsKind (k : EflKind) (at : Site) (t : TypedKind) : Type 0 where
  pub is : (c : Context) (p : Place) → IsSite c at → unbuilt_by k ≡ false → are_built (parts_within c.around k) ≡ true → views.kind_of p t ≡ typing.kind_of c p k

-- the statements of a list
pub record AreStatements (ss : EflStmts) (at : Site) (ts : List TypedStmt) : Type 0 where
  pub are : (c : Context) → IsSite c at → are_built (parts_in 0 c.around ss) ≡ true → views.stmts_of ts ≡ typing.stmts_from 0 c ss

-- an `if` of this test, of the statement that was made, and of another behind `else`
pub record IsEither (e : EflExpr) (other : EflStmt) (at : Site) (first : TypedStmt) (t : TypedKind) : Type 0 where
  pub is : (s : EflStmt) → IsStatementIn 0 s at first → IsKind (IfElse e s other) at t

-- the statements of a block of these variables, as a block
pub record IsBlock (ss : EflStmts) (table : Table) (at : Site) (t : TypedKind) : Type 0 where
  pub is : (ds : List EflDecl) → OpensTo ds at table → IsKind (Block ds ss) at t

-- the clause with this number, before whatever follows it
pub record IsClause (n : ℕ) (zs : List ℤ) (fallback : Bool) (ss : EflStmts) (p : Place) (at : Site) (t : TypedClause) : Type 0 where
  pub is : (c : Context) → IsSite c at → are_built (parts_in 0 (in_list ss (into n c.around)) ss) ≡ true →
      views.clause_then t ≡ AndClause zs fallback (typing.stmts_from 0 (within c (in_list ss (into n c.around))) ss) p

-- the clauses of a switch
pub record AreClauses (cs : EflCases) (at : Site) (ts : List TypedClause) : Type 0 where
  pub are : (c : Context) (zs : List ℤ) (seen : Bool) → IsSite c at → are_built (clauses_in 0 c.around zs seen cs) ≡ true → views.clauses_of ts ≡ typing.clauses_from 0 c cs

-- the values of the variable of a `do`
pub record IsRange (first last : EflExpr) (step : Option EflExpr) (at : Site) (t : TypedRange) : Type 0 where
  pub first_is : (c : Context) → IsSite c at → unbuilt_expr first ≡ false → views.expr_of t.first ≡ typing.expr_of c first
  pub last_is : (c : Context) → IsSite c at → unbuilt_expr last ≡ false → views.expr_of t.last ≡ typing.expr_of c last
  pub step_is : (c : Context) → IsSite c at → unbuilt_if_any step ≡ false → option_map views.expr_of t.step ≡ option_map (typing.expr_of c) step
