-- Statements one behind the other, and the clauses of a switch.
use Rattle.std.proofs.Common.{◌≡◌, ℕ, ◌+◌, ◌<◌, ℤ, Bool, true, ◌||◌, List, [], ◌∷◌, ◌++◌, Vec, Global, length, drop, get_or, refl, sym, ap, ◌∙◌, append_assoc}
use Rattle.std.proofs.lemmas.List.{append-nil}
use Rattle.ground.specs.declared.place.Place.{Place}
use Rattle.efl_tree.specs.Syntax.{Text, EflStmt, Statement, EflKind, EflStmts, NoStmt, AndStmt, EflCases, NoCase, AndCase}
use Rattle.efl_tree.specs.declared.statement.EflCase.{EflCase, out-EflCase, roll-out-EflCase}
use Rattle.efl_tree.specs.Views.{stmts_of, case_then, cases_of}
use Rattle.efl_tree.proofs.Rows.{clause_is as case_is}
use Rattle.efl_scope.proofs.TreeLemmas.{drop_next}
use Rattle.efl_scope.specs.Parts.{part, States, Chooses, into, in_list, parts_of, parts_within, parts_in, clauses_in}
use Rattle.efl_program.specs.Typed as program
use Rattle.efl_typed.specs.Typing.{Context, within}
use Rattle.efl_typed.specs.Typing as typing
use Rattle.efl_typed_tree.specs.declared.statement.TypedStmt.{TypedStmt}
use Rattle.efl_typed_tree.specs.declared.statement.TypedClause.{TypedClause, roll-TypedClause}
use Rattle.efl_typed_tree.specs.Views as views
use Rattle.efl_typed_tree.proofs.Rows.{clause_is}
use Rattle.efl_built.specs.Unbuilt.{are_built}
use Rattle.efl_bindings.specs.declared.sites.Site.{Site}
use Rattle.efl_bindings.specs.Sites.{IsSite}
use Rattle.efl_bindings.proofs.SiteLemmas.{in_list_site}
use Rattle.efl_typing.specs.Statements.{IsStatement, IsStatementIn, IsKind, AreStatements, IsClause, AreClauses}
use Rattle.efl_typing.proofs.BuiltLemmas.{before_built, behind_built, first_built, rest_built}

-- ---- a statement ----

labelled_same : (ls : List Text) (p : Place) (s : program.Stmt) → views.labelled ls p s ≡ typing.labelled ls p s
labelled_same [] p s = refl
labelled_same (l ∷ ls) p s = ap (program.Labelled l p) (labelled_same ls p s)

pub statement_made : (ls : List Text) (p : Place) (k : EflKind) (at : Site) (t : TypedStmt) → IsKind k at t.kind → t.labels.items ≡ ls → t.place ≡ p → IsStatement (Statement ls p k) at t
statement_made ls p k at t kind same placed = record {
  is = λ c here built.
      ap (λ xs. views.labelled xs t.place (views.kind_of t.place t.kind)) same ∙ ap (λ q. views.labelled ls q (views.kind_of q t.kind)) placed
      ∙ labelled_same ls p (views.kind_of p t.kind)
      ∙ ap (typing.labelled ls p) (kind.is c p here (first_built (part c.around p (States ls k)) (parts_within c.around k) built) (rest_built (part c.around p (States ls k)) (parts_within c.around k) built));
}

pub within_made : (n : ℕ) (s : EflStmt) (at inside : Site) (t : TypedStmt) → ((c : Context) → IsSite c at → IsSite (within c (into n c.around)) inside) → IsStatement s inside t → IsStatementIn n s at t
within_made n s at inside t moves typed = record { is = λ c here built. typed.is (within c (into n c.around)) (moves c here) built }

-- ---- a list ----

-- what the statements so far are, where those that are left follow
pub record StatementsLeft (all : EflStmts) (at : Site) (n : ℕ) (rest : EflStmts) (made : List TypedStmt) : Type 0 where
  pub built : (c : Context) → IsSite c at → are_built (parts_in 0 c.around all) ≡ true → are_built (parts_in n c.around rest) ≡ true
  pub so : (c : Context) → IsSite c at → are_built (parts_in 0 c.around all) ≡ true → (more : List TypedStmt) → views.stmts_of more ≡ typing.stmts_from n c rest →
      views.stmts_of (made ++ more) ≡ typing.stmts_from 0 c all

pub statements_begun : (all : EflStmts) (at : Site) → StatementsLeft all at 0 all []
statements_begun all at = record { built = λ c here h. h; so = λ c here h more e. e }

pub statement_passed : (all : EflStmts) (at : Site) (n : ℕ) (s : EflStmt) (rest : EflStmts) (made : List TypedStmt) (t : TypedStmt) →
    StatementsLeft all at n (AndStmt s rest) made → IsStatementIn n s at t → StatementsLeft all at (n + 1) rest (made ++ t ∷ [])
statement_passed all at n s rest made t left typed = record {
  built = λ c here h. behind_built (parts_of (into n c.around) s) (parts_in (n + 1) c.around rest) (left.built c here h);
  so = λ c here h more e.
      let own = typed.is c here (before_built (parts_of (into n c.around) s) (parts_in (n + 1) c.around rest) (left.built c here h)) in
      ap views.stmts_of (append_assoc made (t ∷ []) more)
      ∙ left.so c here h (t ∷ more) (ap (λ x. program.AndStmt x (views.stmts_of more)) own ∙ ap (program.AndStmt (typing.stmt_of (within c (into n c.around)) s)) e);
}

pub statements_ended : (all : EflStmts) (at : Site) (n : ℕ) (made : List TypedStmt) → StatementsLeft all at n NoStmt made → AreStatements all at made
statements_ended all at n made left = record { are = λ c here h. ap views.stmts_of (sym (append-nil made)) ∙ left.so c here h [] refl }

-- ---- clauses ----

pub clause_made : (n : ℕ) (zs : List ℤ) (fallback : Bool) (ss : EflStmts) (p : Place) (at inside : Site) (tests : Vec ℤ Global) (body : Vec TypedStmt Global) →
    ((c : Context) → IsSite c at → IsSite (within c (into n c.around)) inside) → tests.items ≡ zs → AreStatements ss inside body.items →
    IsClause n zs fallback ss p at (roll-TypedClause (record { tests = tests; fallback = fallback; body = body; place = p }))
clause_made n zs fallback ss p at inside tests body moves same typed = record {
  is = λ c here built.
      let a = within c (into n c.around) in
      clause_is tests fallback body p ∙ ap (λ xs rest. program.AndClause xs fallback (views.stmts_of body.items) p rest) same
      ∙ ap (λ ts rest. program.AndClause zs fallback ts p rest) (typed.are (within a (in_list ss a.around)) (in_list_site ss a inside (moves c here)) built);
}

case_then-is : (c : EflCase) (rest : EflCases) → case_then c rest ≡ AndCase (out-EflCase c).tests.items (out-EflCase c).fallback (stmts_of (out-EflCase c).body.items) (out-EflCase c).place rest
case_then-is c rest =
    let o = out-EflCase c in
    sym (ap (λ x. case_then x rest) (roll-out-EflCase c)) ∙ ap (λ f. f rest) (case_is o.tests o.fallback o.body o.place)

-- the clauses from one on
pub clauses_next : (list : List EflCase) (i : ℕ) (c : EflCase) → i < length list → c ≡ get_or list i c →
    cases_of (drop i list) ≡ AndCase (out-EflCase c).tests.items (out-EflCase c).fallback (stmts_of (out-EflCase c).body.items) (out-EflCase c).place (cases_of (drop (i + 1) list))
clauses_next list i c lt is = ap cases_of (drop_next list i c lt is) ∙ case_then-is c (cases_of (drop (i + 1) list))

-- what the clauses so far are, where those that are left follow
pub record ClausesLeft (all : EflCases) (at : Site) (n : ℕ) (rest : EflCases) (made : List TypedClause) : Type 0 where
  pub before : List ℤ → List ℤ
  pub seen : Bool → Bool
  pub built : (c : Context) (zs : List ℤ) (b : Bool) → IsSite c at → are_built (clauses_in 0 c.around zs b all) ≡ true → are_built (clauses_in n c.around (before zs) (seen b) rest) ≡ true
  pub so : (c : Context) (zs : List ℤ) (b : Bool) → IsSite c at → are_built (clauses_in 0 c.around zs b all) ≡ true → (more : List TypedClause) → views.clauses_of more ≡ typing.clauses_from n c rest →
      views.clauses_of (made ++ more) ≡ typing.clauses_from 0 c all

pub clauses_begun : (all : EflCases) (at : Site) → ClausesLeft all at 0 all []
clauses_begun all at = record { before = λ zs. zs; seen = λ b. b; built = λ c zs b here h. h; so = λ c zs b here h more e. e }

pub clause_passed : (all : EflCases) (at : Site) (n : ℕ) (zs : List ℤ) (fallback : Bool) (ss : EflStmts) (p : Place) (rest : EflCases) (made : List TypedClause) (t : TypedClause) →
    ClausesLeft all at n (AndCase zs fallback ss p rest) made → IsClause n zs fallback ss p at t → ClausesLeft all at (n + 1) rest (made ++ t ∷ [])
clause_passed all at n zs fallback ss p rest made t left typed =
    let behind = λ (ys : List ℤ). left.before ys ++ zs in
    let after = λ (b : Bool). left.seen b || fallback in
    record {
      before = behind;
      seen = after;
      built = λ c ys b here h.
          behind_built (parts_in 0 (in_list ss (into n c.around)) ss) (clauses_in (n + 1) c.around (behind ys) (after b) rest)
          (rest_built (part c.around p (Chooses zs fallback (left.before ys) (left.seen b))) (parts_in 0 (in_list ss (into n c.around)) ss ++ clauses_in (n + 1) c.around (behind ys) (after b) rest) (left.built c ys b here h));
      so = λ c ys b here h more e.
          let own = typed.is c here
          (before_built (parts_in 0 (in_list ss (into n c.around)) ss) (clauses_in (n + 1) c.around (behind ys) (after b) rest)
          (rest_built (part c.around p (Chooses zs fallback (left.before ys) (left.seen b))) (parts_in 0 (in_list ss (into n c.around)) ss ++ clauses_in (n + 1) c.around (behind ys) (after b) rest) (left.built c ys b here h))) in
          ap views.clauses_of (append_assoc made (t ∷ []) more)
          ∙ left.so c ys b here h (t ∷ more)
          (ap (λ f. f (views.clauses_of more)) own ∙ ap (program.AndClause zs fallback (typing.stmts_from 0 (within c (in_list ss (into n c.around))) ss) p) e);
    }

pub clauses_ended : (all : EflCases) (at : Site) (n : ℕ) (made : List TypedClause) → ClausesLeft all at n NoCase made → AreClauses all at made
clauses_ended all at n made left = record { are = λ c zs b here h. ap views.clauses_of (sym (append-nil made)) ∙ left.so c zs b here h [] refl }
