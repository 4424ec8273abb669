-- The labels of statements, one after another.
use Rattle.std.proofs.Common.{◌≡◌, ℤ, Bool, List, [], ◌∷◌, ◌++◌, Option, None, Some, Vec, Box, Global, refl, sym, ap, ◌∙◌}
use Rattle.std.proofs.lemmas.List.{append-nil}
use Rattle.ground.specs.declared.place.Place.{Place}
use Rattle.f66_tree.specs.Syntax.{Text}
use Rattle.efl_program.specs.Typed.{Stmt, Stmts, NoStmt, AndStmt, Clauses, NoClause, AndClause}
use Rattle.efl_typed_tree.specs.declared.expression.TypedExpr.{TypedExpr}
use Rattle.efl_typed_tree.specs.declared.statement.TypedClause.{TypedClause}
use Rattle.efl_typed_tree.specs.declared.statement.TypedStmt.{TypedStmt}
use Rattle.efl_typed_tree.specs.declared.statement.TypedKind.{TypedKind}
use Rattle.efl_typed_tree.specs.declared.statement.TypedKind.TheVariants as kinds
use Rattle.efl_typed_tree.specs.Views.{labelled, kind_of, stmt_of, stmts_of, clauses_of}
use Rattle.efl_lowered.specs.Labels.{labels_of, all_labels, clause_labels}
use Rattle.efl_room.proofs.Rows.{from_block, from_switch}
use Rattle.efl_units.specs.Numbered.{Numbered, adding, adding_all, other_labels}

pub adding_both : (xs ys : List Text) (s : Numbered) → adding_all (xs ++ ys) s ≡ adding_all ys (adding_all xs s)
adding_both [] ys s = refl
adding_both (x ∷ xs) ys s = adding_both xs ys (adding x s)

labelled_labels : (ls : List Text) (p : Place) (s : Stmt) → labels_of (labelled ls p s) ≡ ls ++ labels_of s
labelled_labels [] p s = refl
labelled_labels (l ∷ ls) p s = ap (λ all. l ∷ all) (labelled_labels ls p s)

-- labels before a statement, and then its own
pub kind_added : (s : TypedStmt) (k : TypedKind) (all : List Text) (a b c : Numbered) → s.kind ≡ k → all ≡ s.labels.items → b ≡ adding_all all a → c ≡ adding_all (labels_of (kind_of s.place k)) b → c ≡ adding_all (labels_of (stmt_of s)) a
kind_added s k all a b c is same before after =
    after ∙ ap (adding_all (labels_of (kind_of s.place k))) (before ∙ ap (λ ls. adding_all ls a) same) ∙ sym (adding_both s.labels.items (labels_of (kind_of s.place k)) a)
    ∙ ap (λ v. adding_all (s.labels.items ++ labels_of (kind_of s.place v)) a) (sym is) ∙ ap (λ ls. adding_all ls a) (sym (labelled_labels s.labels.items s.place (kind_of s.place s.kind)))

-- the next statement of a list, and the next clause
pub stmts_more : (here left : Stmts) (s : Stmt) (a b : Numbered) → here ≡ AndStmt s left → b ≡ adding_all (labels_of s) a → adding_all (all_labels left) b ≡ adding_all (all_labels here) a
stmts_more here left s a b is more = ap (adding_all (all_labels left)) more ∙ sym (adding_both (labels_of s) (all_labels left) a) ∙ ap (λ ss. adding_all (all_labels ss) a) (sym is)

pub stmts_over : (left : Stmts) (a : Numbered) → left ≡ NoStmt → adding_all (all_labels left) a ≡ a
stmts_over left a is = ap (λ ss. adding_all (all_labels ss) a) is

pub clauses_more : (here left : Clauses) (zs : List ℤ) (fallback : Bool) (ss : Stmts) (p : Place) (a b : Numbered) → here ≡ AndClause zs fallback ss p left → b ≡ adding_all (all_labels ss) a →
    adding_all (clause_labels left) b ≡ adding_all (clause_labels here) a
clauses_more here left zs fallback ss p a b is more = ap (adding_all (clause_labels left)) more ∙ sym (adding_both (all_labels ss) (clause_labels left) a) ∙ ap (λ cs. adding_all (clause_labels cs) a) (sym is)

pub clauses_over : (left : Clauses) (a : Numbered) → left ≡ NoClause → adding_all (clause_labels left) a ≡ a
clauses_over left a is = ap (λ cs. adding_all (clause_labels cs) a) is

-- ---- statements with lists ----

pub block_added : (s : TypedStmt) (list : Vec TypedStmt Global) (seen : List TypedStmt) (all : List Text) (a b c : Numbered) → s.kind ≡ kinds.Block list → seen ≡ list.items → all ≡ s.labels.items → b ≡ adding_all all a →
    c ≡ adding_all (all_labels (stmts_of seen)) b → c ≡ adding_all (labels_of (stmt_of s)) a
block_added s list seen all a b c is same before_is before after =
    kind_added s s.kind all a b c refl before_is before (after ∙ ap (λ v. adding_all (labels_of v) b) (sym (from_block s.place s.kind list seen is same)))

pub switch_added : (s : TypedStmt) (e : TypedExpr) (list : Vec TypedClause Global) (seen : List TypedClause) (all : List Text) (a b c : Numbered) → s.kind ≡ kinds.Switch e list → seen ≡ list.items → all ≡ s.labels.items → b ≡ adding_all all a →
    c ≡ adding_all (clause_labels (clauses_of seen)) b → c ≡ adding_all (labels_of (stmt_of s)) a
switch_added s e list seen all a b c is same before_is before after =
    kind_added s s.kind all a b c refl before_is before (after ∙ ap (λ v. adding_all (labels_of v) b) (sym (from_switch s.place s.kind e list seen is same)))

pub if_added : (s : TypedStmt) (e : TypedExpr) (body : Box TypedStmt Global) (o : Option (Box TypedStmt Global)) (seen : TypedStmt) (all : List Text) (a b c : Numbered) → s.kind ≡ kinds.If e body o → seen ≡ body.value →
    all ≡ s.labels.items → b ≡ adding_all all a → c ≡ adding_all (labels_of (stmt_of seen) ++ other_labels o) b → c ≡ adding_all (labels_of (stmt_of s)) a
if_added s e body o seen all a b c is same before_is before after =
    kind_added s (kinds.If e body o) all a b c is before_is before (after ∙ ap (λ x. adding_all (labels_of (stmt_of x) ++ other_labels o) b) same ∙ ap (λ ls. adding_all ls b) (each o))
  where
    each : (o : Option (Box TypedStmt Global)) → labels_of (stmt_of body.value) ++ other_labels o ≡ labels_of (kind_of s.place (kinds.If e body o))
    each None = append-nil (labels_of (stmt_of body.value))
    each (Some other) = refl

pub repeat_added : (s : TypedStmt) (body : Box TypedStmt Global) (u : Option (TypedExpr × Place)) (seen : TypedStmt) (all : List Text) (a b c : Numbered) → s.kind ≡ kinds.Repeat body u → seen ≡ body.value →
    all ≡ s.labels.items → b ≡ adding_all all a → c ≡ adding_all (labels_of (stmt_of seen)) b → c ≡ adding_all (labels_of (stmt_of s)) a
repeat_added s body u seen all a b c is same before_is before after =
    kind_added s (kinds.Repeat body u) all a b c is before_is before (after ∙ ap (λ x. adding_all (labels_of (stmt_of x)) b) same ∙ ap (λ ls. adding_all ls b) (each u))
  where
    each : (u : Option (TypedExpr × Place)) → labels_of (stmt_of body.value) ≡ labels_of (kind_of s.place (kinds.Repeat body u))
    each None = refl
    each (Some u) = refl
