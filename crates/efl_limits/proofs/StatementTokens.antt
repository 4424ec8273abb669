-- The typed tree of a statement is no larger than its tokens are many, in whatever context it stands.
use Rattle.std.proofs.Common.{◌≤◌, ◌≡◌, ℕ, ◌+◌, ℤ, arith, false, List, [], ◌∷◌, length, map, Option, refl}
use Rattle.std.specs.Prelude.{option_map}
use Rattle.ground.specs.declared.place.Place.{Place}
use Rattle.efl_tree.specs.declared.statement.EflEdit.{EflEdit}
use Rattle.efl_tree.specs.declared.statement.LoopKind.{LoopKind}
use Rattle.efl_tree.specs.declared.statement.LoopKind.TheVariants as loops
use Rattle.efl_tree.specs.Syntax as efl
use Rattle.efl_tree.specs.Syntax.{Text, EflExpr, EflStmt, EflKind, EflStmts, EflCases}
use Rattle.efl_scope.specs.Parts.{into, in_loop, in_list, opened}
use Rattle.efl_program.specs.Typed.{Stmt, WriteItem, ReadItem}
use Rattle.efl_typed.specs.Typing.{Context, within, expr_of, labelled, written, taken, stmt_of, kind_of, stmts_from, clauses_from}
use Rattle.rat_grammar.specs.Tokens.{Tokens, Perhaps, Several, place_at}
use Rattle.efl_grammar.specs.Tokens.{Whole}
use Rattle.efl_grammar.specs.Expressions.{Expr, Condition}
use Rattle.efl_grammar.specs.Statements.{Kind, Leaving, Sep, Edit, Skip, Comma, WriteItem as AWriteItem, ReadItem as AReadItem, Labels, Statement, Statements, Body, Clauses}
use Rattle.efl_grammar.specs.Statements as s
use Rattle.efl_limits.specs.Sizes.{size_if, items_size, taken_size, clause_size, stmt_size, stmts_size, clauses_size}
use Rattle.efl_limits.proofs.Tokens.{Before, one, word, name, lines, stop, goto, each_listed, perhaps, several, natural, whole}
use Rattle.efl_limits.proofs.ExpressionTokens.{expr, place, condition, act, act_if}
use Rattle.efl_limits.proofs.DeclarationTokens.{inner}

-- ---- items ----

pub edit : {a b : Tokens} {k : EflEdit} → Edit a b k → Before 1 a b
edit (Edit.whole w o n k) = omega (arith, word w, one o, one n, one k)
edit (Edit.truth w o n k) = omega (arith, word w, one o, one n, one k)
edit (s.letter w) = word w

pub skip : {a b : Tokens} {z : ℤ} → Skip a b z → Before 0 a b
skip (Skip.skip o w p n k) = omega (arith, one o, word w, one p, one n, one k)

module _ (c : Context) where
  -- an item before others
  item_written : {a b : Tokens} {x : efl.WriteItem} (items : List WriteItem) → AWriteItem a b x → items_size (written c x ∷ items) + length b ≤ items_size items + length a
  item_written items (s.value q o k) = omega (arith, expr c q, one o, edit k)
  item_written items (AWriteItem.skip q) = omega (arith, skip q)
  item_written items (s.chars q) = omega (arith, one q)

  all_written : {a b : Tokens} {xs : List efl.WriteItem} → Several (Comma AWriteItem) a b xs → Before (items_size (map (written c) xs)) a b
  all_written Several.none = omega arith
  all_written (Several.more {xs = xs} (Comma.comma o q) rest) = omega (arith, one o, item_written (map (written c) xs) q, all_written rest)

  item_read : {a b : Tokens} {x : efl.ReadItem} (items : List ReadItem) → AReadItem a b x → taken_size (taken c x ∷ items) + length b ≤ taken_size items + length a
  item_read items (s.take q o k) = omega (arith, place c q, one o, edit k)
  item_read items (AReadItem.skip q) = omega (arith, skip q)

  all_read : {a b : Tokens} {xs : List efl.ReadItem} → Several (Comma AReadItem) a b xs → Before (taken_size (map (taken c) xs)) a b
  all_read Several.none = omega arith
  all_read (Several.more {xs = xs} (Comma.comma o q) rest) = omega (arith, one o, item_read (map (taken c) xs) q, all_read rest)

  -- ---- expressions where there is one ----

  expr_if : {a b : Tokens} {o : Option EflExpr} → Perhaps Expr a b o → Before (size_if (option_map (expr_of c) o)) a b
  expr_if Perhaps.none = omega arith
  expr_if (Perhaps.some q) = expr c q

  step_if : {a b : Tokens} {o : Option EflExpr} → Perhaps (Comma Expr) a b o → Before (size_if (option_map (expr_of c) o)) a b
  step_if Perhaps.none = omega arith
  step_if (Perhaps.some (Comma.comma o q)) = omega (arith, one o, expr c q)

  condition_if : {a b : Tokens} {o : Option EflExpr} → Perhaps Condition a b o → Before (size_if (option_map (expr_of c) o)) a b
  condition_if Perhaps.none = omega arith
  condition_if (Perhaps.some q) = omega (arith, condition c q)

-- ---- words and labels ----

kind : {a b : Tokens} {k : LoopKind} → Kind a b k → Before 0 a b
kind (Kind.while w) = omega (arith, word w)
kind (Kind.for w) = omega (arith, word w)
kind (Kind.repeat w) = omega (arith, word w)
kind (Kind.do_ w) = omega (arith, word w)
kind (Kind.switch w) = omega (arith, word w)

pub leaving : {a b : Tokens} {n : ℕ} {k : Option LoopKind} → Leaving a b n k → Before 0 a b
leaving s.bare = omega arith
leaving (Leaving.number n k) = omega (arith, natural n, perhaps (λ a b x. kind) k)
leaving (s.kind k) = kind k
leaving (s.kind_number k n) = omega (arith, kind k, natural n)

pub sep : {a b : Tokens} → Sep a b → Before 1 a b
sep (Sep.comma q) = one q
sep (s.semicolon q) = one q

pub labels : {a b : Tokens} {xs : List Text} → Labels a b xs → Before (length xs) a b
labels Labels.none = omega arith
labels (s.label y o rest) = omega (arith, name y, one o, labels rest)

pub integer : {a b : Tokens} {z : ℤ} → Whole a b z → Before 0 a b
integer q = omega (arith, whole q)

labelled_size : (ls : List Text) (p : Place) (x : Stmt) → stmt_size (labelled ls p x) ≡ length ls + stmt_size x
labelled_size [] p x = omega arith
labelled_size (l ∷ ls) p x = omega (arith, labelled_size ls p x)

-- a clause that is not the default counts once
plain_clause : (zs : List ℤ) (n : ℕ) → clause_size zs false n ≡ n
plain_clause [] n = refl
plain_clause (z ∷ zs) n = refl

-- ---- statements ----

mutual
  statement : {a b : Tokens} {x : EflStmt} (c : Context) → Statement a b x → Before (stmt_size (stmt_of c x)) a b
  statement c (s.statement {b = m} l k) = omega (arith, lines l, body c (place_at m) k)

  pub statements : {a b : Tokens} {xs : EflStmts} (n : ℕ) (c : Context) → Statements a b xs → Before (stmts_size (stmts_from n c xs)) a b
  statements n c s.no_statement = omega arith
  statements n c (s.listed {c = m} {xs = xs} {k = k} l ls q rest) =
      omega (
        arith,
        lines l,
        labels ls,
        body (within c (into n c.around)) (place_at m) q,
        statements (n + 1) c rest,
        labelled_size xs (place_at m) (kind_of (within c (into n c.around)) (place_at m) k),
      )

  body : {a b : Tokens} {k : EflKind} (c : Context) (p : Place) → Body a b k → Before (stmt_size (kind_of c p k)) a b
  body c p (s.empty q) = omega (arith, one q)
  body c p (s.block {ds = ds} {ss = xs} begin es ss l close) =
      omega (arith, one begin, several (inner c) es, statements 0 (within c (in_list xs (opened ds c.around))) ss, lines l, one close)
  body c p (s.act f st) = omega (arith, act c f, stop st)
  body c p (s.if_ w d x none) = omega (arith, word w, condition c d, statement c x)
  body c p (s.if_else w d x l v y) =
      omega (arith, word w, condition c d, statement (within c (into 0 c.around)) x, lines l, word v, statement (within c (into 1 c.around)) y)
  body c p (Body.while w d x) = omega (arith, word w, condition c d, statement (within c (in_loop loops.While c.around)) x)
  body c p (Body.for w begin x y z u v close inside) =
      omega (arith, word w, one begin, act_if c x, sep y, expr_if c z, sep u, act_if c v, one close, statement (within c (in_loop loops.For c.around)) inside)
  body c p (Body.repeat w x none) = omega (arith, word w, statement (within c (in_loop loops.Repeat c.around)) x)
  body c p (s.repeat_until w x l v d st) =
      omega (arith, word w, statement (within c (in_loop loops.Repeat c.around)) x, lines l, word v, condition c d, stop st)
  body c p (Body.do_ w x is f o u by inside) =
      omega (arith, word w, name x, one is, expr c f, one o, expr c u, step_if c by, statement (within c (in_loop loops.Do c.around)) inside)
  body c p (Body.switch w d l begin cs m close) =
      omega (arith, word w, condition c d, lines l, one begin, clauses 0 (within c (in_loop loops.Switch c.around)) cs, lines m, one close)
  body c p (s.break_ w n st) = omega (arith, word w, leaving n, stop st)
  body c p (s.next w n st) = omega (arith, word w, leaving n, stop st)
  body c p (s.return_ w f st) = omega (arith, word w, condition_if c f, stop st)
  body c p (s.goto w x st) = omega (arith, goto w, name x, stop st)
  body c p (s.write w begin f is' close st) = omega (arith, word w, one begin, expr_if c f, all_written c is', one close, stop st)
  body c p (s.read w begin f is' close st) = omega (arith, word w, one begin, expr_if c f, all_read c is', one close, stop st)

  clauses : {a b : Tokens} {cs : EflCases} (n : ℕ) (c : Context) → Clauses a b cs → Before (clauses_size (clauses_from n c cs)) a b
  clauses n c s.no_clause = omega arith
  clauses n c (s.case {zs = zs} {ss = xs} l w ys colon ss rest) =
      omega (
        arith,
        lines l,
        word w,
        each_listed (λ a b x. whole) ys,
        one colon,
        statements 0 (within c (in_list xs (into n c.around))) ss,
        clauses (n + 1) c rest,
        plain_clause zs (stmts_size (stmts_from 0 (within c (in_list xs (into n c.around))) xs)),
      )
  clauses n c (s.default {ss = xs} l w colon ss rest) =
      omega (arith, lines l, word w, one colon, statements 0 (within c (in_list xs (into n c.around))) ss, clauses (n + 1) c rest)
