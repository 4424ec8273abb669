-- What statements need, by their parts.
use Rattle.std.proofs.Common.{◌≡◌, ◌≤◌, ℕ, ◌+◌, ◌*◌, List, [], ◌∷◌, Option, Some, None, option_map, Vec, Box, Global, refl, sym, ap, ◌∙◌, arith}
use Rattle.std.specs.Prelude.{max}
use Rattle.std.proofs.Math.Nat.{le-max_right}
use Rattle.ground.specs.declared.place.Place.{Place}
use Rattle.f66_tree.specs.Syntax.{Text}
use Rattle.efl_program.specs.Typed.{Stmt, Stmts, NoStmt, AndStmt, Clauses, NoClause, AndClause}
use Rattle.efl_typed_tree.specs.declared.expression.TypedExpr.{TypedExpr}
use Rattle.efl_typed_tree.specs.declared.statement.TypedAction.{TypedAction}
use Rattle.efl_typed_tree.specs.declared.statement.TypedRange.{TypedRange}
use Rattle.efl_typed_tree.specs.declared.statement.TypedStmt.{TypedStmt}
use Rattle.efl_typed_tree.specs.declared.statement.TypedClause.{TypedClause}
use Rattle.efl_typed_tree.specs.declared.statement.TypedKind.{TypedKind}
use Rattle.efl_typed_tree.specs.declared.statement.TypedKind.TheVariants as kinds
use Rattle.efl_typed_tree.specs.Views.{labelled, action_of, expr_of, kind_of, stmt_of, stmts_of, clauses_of}
use Rattle.efl_routes.specs.Expressions.{made}
use Rattle.efl_routes.specs.Statements.{made_if_any}
use Rattle.efl_room.specs.Branches.{with_other, with_until}
use Rattle.efl_lowered.specs.Needs.{of_any, needs, all_need, clauses_need}
use Rattle.efl_room.proofs.Rows.{from_block, from_switch}
use Rattle.efl_room.proofs.Sizes.{size_of_stmt, size_of_stmts, size_of_clauses, labelled_size}

-- labels need none
pub labelled_needs : (ls : List Text) (p : Place) (s : Stmt) (n : ℕ) → needs (labelled ls p s) n ≡ needs s n
labelled_needs [] p s n = refl
labelled_needs (l ∷ ls) p s n = labelled_needs ls p s n

-- so many are in use in any case
pub all_above : (ss : Stmts) (n : ℕ) → n ≤ all_need ss n
all_above NoStmt n = omega arith
all_above (AndStmt s ss) n = omega (arith, le-max_right (needs s n) (all_need ss n), all_above ss n)

pub clauses_above : (cs : Clauses) (n : ℕ) → n ≤ clauses_need cs n
clauses_above NoClause n = omega arith
clauses_above (AndClause es fallback ss p cs) n = omega (arith, le-max_right (all_need ss n) (clauses_need cs n), clauses_above cs n)

-- ---- statements by what they are ----

pub kind_needs : (s : TypedStmt) (k : TypedKind) (n : ℕ) → s.kind ≡ k → needs (stmt_of s) n ≡ needs (kind_of s.place k) n
kind_needs s k n is = labelled_needs s.labels.items s.place (kind_of s.place s.kind) n ∙ ap (λ v. needs (kind_of s.place v) n) is

pub kind_size : (s : TypedStmt) (k : TypedKind) → s.kind ≡ k → size_of_stmt (stmt_of s) ≡ size_of_stmt (kind_of s.place k)
kind_size s k is = labelled_size s.labels.items s.place (kind_of s.place s.kind) ∙ ap (λ v. size_of_stmt (kind_of s.place v)) is

-- the size of the statement behind `else`
abbrev pub other_size : Option (Box TypedStmt Global) → ℕ
other_size None = 0
other_size (Some other) = size_of_stmt (stmt_of other.value)

-- the parts of a statement, as they are seen
module _ (s : TypedStmt) (n : ℕ) where
  pub block_needs : (list : Vec TypedStmt Global) (seen : List TypedStmt) → s.kind ≡ kinds.Block list → seen ≡ list.items → needs (stmt_of s) n ≡ all_need (stmts_of seen) n
  block_needs list seen is same = kind_needs s s.kind n refl ∙ ap (λ v. needs v n) (from_block s.place s.kind list seen is same)

  pub switch_needs : (e : TypedExpr) (list : Vec TypedClause Global) (seen : List TypedClause) → s.kind ≡ kinds.Switch e list → seen ≡ list.items →
      needs (stmt_of s) n ≡ max (n + made (expr_of e)) (clauses_need (clauses_of seen) (n + made (expr_of e)))
  switch_needs e list seen is same = kind_needs s s.kind n refl ∙ ap (λ v. needs v n) (from_switch s.place s.kind e list seen is same)

  pub if_needs : (e : TypedExpr) (body : Box TypedStmt Global) (o : Option (Box TypedStmt Global)) (seen : TypedStmt) → s.kind ≡ kinds.If e body o → seen ≡ body.value →
      needs (stmt_of s) n ≡ max (n + made (expr_of e)) (with_other o n (needs (stmt_of seen) n))
  if_needs e body o seen is same = kind_needs s (kinds.If e body o) n is ∙ each o ∙ ap (λ x. max (n + made (expr_of e)) (with_other o n (needs (stmt_of x) n))) (sym same)
    where
      each : (o : Option (Box TypedStmt Global)) → needs (kind_of s.place (kinds.If e body o)) n ≡ max (n + made (expr_of e)) (with_other o n (needs (stmt_of body.value) n))
      each None = refl
      each (Some other) = refl

  pub while_needs : (e : TypedExpr) (body : Box TypedStmt Global) (seen : TypedStmt) → s.kind ≡ kinds.While e body → seen ≡ body.value → needs (stmt_of s) n ≡ max (n + made (expr_of e)) (needs (stmt_of seen) n)
  while_needs e body seen is same = kind_needs s (kinds.While e body) n is ∙ ap (λ x. max (n + made (expr_of e)) (needs (stmt_of x) n)) (sym same)

  pub for_needs : (a : Option TypedAction) (e : Option TypedExpr) (b : Option TypedAction) (body : Box TypedStmt Global) (seen : TypedStmt) → s.kind ≡ kinds.For a e b body → seen ≡ body.value →
      needs (stmt_of s) n ≡ max (of_any (option_map action_of a) n) (max (n + made_if_any (option_map expr_of e)) (max (of_any (option_map action_of b) n) (needs (stmt_of seen) n)))
  for_needs a e b body seen is same =
      kind_needs s (kinds.For a e b body) n is ∙ ap (λ x. max (of_any (option_map action_of a) n) (max (n + made_if_any (option_map expr_of e)) (max (of_any (option_map action_of b) n) (needs (stmt_of x) n)))) (sym same)

  pub repeat_needs : (body : Box TypedStmt Global) (u : Option (TypedExpr × Place)) (seen : TypedStmt) → s.kind ≡ kinds.Repeat body u → seen ≡ body.value → needs (stmt_of s) n ≡ with_until u n (needs (stmt_of seen) n)
  repeat_needs body u seen is same = kind_needs s (kinds.Repeat body u) n is ∙ each u ∙ ap (λ x. with_until u n (needs (stmt_of x) n)) (sym same)
    where
      each : (u : Option (TypedExpr × Place)) → needs (kind_of s.place (kinds.Repeat body u)) n ≡ with_until u n (needs (stmt_of body.value) n)
      each None = refl
      each (Some u) = refl

  pub do_needs : (v : ℕ) (r : TypedRange) (body : Box TypedStmt Global) (seen : TypedStmt) → s.kind ≡ kinds.Do v r body → seen ≡ body.value →
      needs (stmt_of s) n ≡ (let kept = n + made (expr_of r.last) + made_if_any (option_map expr_of r.step) in max (kept + made (expr_of r.first)) (max (kept + 2) (needs (stmt_of seen) kept)))
  do_needs v r body seen is same =
      let kept = n + made (expr_of r.last) + made_if_any (option_map expr_of r.step) in
      kind_needs s (kinds.Do v r body) n is ∙ ap (λ x. max (kept + made (expr_of r.first)) (max (kept + 2) (needs (stmt_of x) kept))) (sym same)

module _ (s : TypedStmt) where
  pub block_size : (list : Vec TypedStmt Global) (seen : List TypedStmt) → s.kind ≡ kinds.Block list → seen ≡ list.items → size_of_stmt (stmt_of s) ≡ size_of_stmts (stmts_of seen) + 1
  block_size list seen is same = kind_size s s.kind refl ∙ ap size_of_stmt (from_block s.place s.kind list seen is same)

  pub switch_size : (e : TypedExpr) (list : Vec TypedClause Global) (seen : List TypedClause) → s.kind ≡ kinds.Switch e list → seen ≡ list.items → size_of_stmt (stmt_of s) ≡ 2 * size_of_clauses (clauses_of seen) + 2
  switch_size e list seen is same = kind_size s s.kind refl ∙ ap size_of_stmt (from_switch s.place s.kind e list seen is same)

  pub if_size : (e : TypedExpr) (body : Box TypedStmt Global) (o : Option (Box TypedStmt Global)) (seen : TypedStmt) → s.kind ≡ kinds.If e body o → seen ≡ body.value → size_of_stmt (stmt_of s) ≡ size_of_stmt (stmt_of seen) + other_size o + 1
  if_size e body o seen is same = kind_size s (kinds.If e body o) is ∙ each o ∙ ap (λ x. size_of_stmt (stmt_of x) + other_size o + 1) (sym same)
    where
      each : (o : Option (Box TypedStmt Global)) → size_of_stmt (kind_of s.place (kinds.If e body o)) ≡ size_of_stmt (stmt_of body.value) + other_size o + 1
      each None = omega arith
      each (Some other) = refl

  pub while_size : (e : TypedExpr) (body : Box TypedStmt Global) (seen : TypedStmt) → s.kind ≡ kinds.While e body → seen ≡ body.value → size_of_stmt (stmt_of s) ≡ size_of_stmt (stmt_of seen) + 2
  while_size e body seen is same = kind_size s (kinds.While e body) is ∙ ap (λ x. size_of_stmt (stmt_of x) + 2) (sym same)

  pub for_size : (a : Option TypedAction) (e : Option TypedExpr) (b : Option TypedAction) (body : Box TypedStmt Global) (seen : TypedStmt) → s.kind ≡ kinds.For a e b body → seen ≡ body.value → size_of_stmt (stmt_of s) ≡ size_of_stmt (stmt_of seen) + 2
  for_size a e b body seen is same = kind_size s (kinds.For a e b body) is ∙ ap (λ x. size_of_stmt (stmt_of x) + 2) (sym same)

  pub repeat_size : (body : Box TypedStmt Global) (u : Option (TypedExpr × Place)) (seen : TypedStmt) → s.kind ≡ kinds.Repeat body u → seen ≡ body.value → size_of_stmt (stmt_of s) ≡ size_of_stmt (stmt_of seen) + 2
  repeat_size body u seen is same = kind_size s (kinds.Repeat body u) is ∙ each u ∙ ap (λ x. size_of_stmt (stmt_of x) + 2) (sym same)
    where
      each : (u : Option (TypedExpr × Place)) → size_of_stmt (kind_of s.place (kinds.Repeat body u)) ≡ size_of_stmt (stmt_of body.value) + 2
      each None = refl
      each (Some u) = refl

  pub do_size : (v : ℕ) (r : TypedRange) (body : Box TypedStmt Global) (seen : TypedStmt) → s.kind ≡ kinds.Do v r body → seen ≡ body.value → size_of_stmt (stmt_of s) ≡ size_of_stmt (stmt_of seen) + 2
  do_size v r body seen is same = kind_size s (kinds.Do v r body) is ∙ ap (λ x. size_of_stmt (stmt_of x) + 2) (sym same)

-- ---- lists one after another ----

-- the most of what came before and of what is left is that of all
pub record SoFar (number most left all : ℕ) : Type 0 where
  pub enough : number ≤ most
  pub most_of : max most left ≡ all

pub begun : (number all : ℕ) → number ≤ all → SoFar number number all all
begun number all le = record { enough = omega arith; most_of = omega arith }

-- one member more
pub one_more : (one : ℕ) {number most more here left all : ℕ} → here ≡ max one left → SoFar number most here all → more ≡ max most one → SoFar number more left all
one_more one {number} {most} {more} {here} {left} {all} is h m = record {
  enough = omega (arith, h.enough, m);
  most_of = omega (arith, is, h.most_of, m);
}

pub ended : {number most left all : ℕ} → left ≡ number → SoFar number most left all → most ≡ all
ended {number} {most} {left} {all} is h = omega (arith, is, h.enough, h.most_of)
