-- The calls of uses one behind the other, and what a walk over statements and blocks passes.
use Rattle.std.proofs.Common.{◌≡◌, ◌+◌, ◌==◌, ◌<◌, ℕ, Bool, true, false, List, [], ◌∷◌, ◌++◌, length, drop, get_or, Option, refl, sym, ap, ◌∙◌}
use Rattle.std.proofs.lemmas.Grind.{common_steps}
use Rattle.std.proofs.lemmas.List.{append-nil}
use Rattle.ground.specs.declared.place.Place.{Place}
use Rattle.efl_tree.specs.declared.expression.EflExpr.{EflExpr}
use Rattle.efl_tree.specs.declared.expression.EflStep.{EflStep}
use Rattle.efl_tree.specs.declared.expression.EflExpr.TheBlock as e
use Rattle.efl_tree.specs.declared.statement.EflCase.{EflCase, out-EflCase, roll-out-EflCase}
use Rattle.efl_tree.specs.Syntax.{Text, EflSteps, NoStep, EflDecl, EflStmts, EflCases, AndCase, Block, EflProcedure}
use Rattle.efl_tree.specs.Views.{row_exprs, exprs_of, case_then, step_then, stmts_of, cases_of}
use Rattle.efl_tree.proofs.Rows.{clause_is}
use Rattle.efl_scope.specs.Uses.{Use, Applied, named, uses_of_all, uses_behind}
use Rattle.efl_scope.proofs.TreeLemmas.{drop_next}
use Rattle.efl_whole.specs.Roles.{Roles, no_role, behind_all, with_formals, Listed, listed}
use Rattle.efl_whole.specs.Calls.{Calls, Site, using, using_all, entering, outside, declarations_calls, within_calls, statements_calls, clauses_calls, procedure_calls}

pub using_all-append : (s : Site) (p : Place) (us vs : List Use) (cs : Calls) → using_all s p (us ++ vs) cs ≡ using_all s p vs (using_all s p us cs)
using_all-append s p [] vs cs = refl
using_all-append s p (u ∷ us) vs cs = using_all-append s p us vs (using s p u cs)

pub nothing_more : (s : Site) (p : Place) (us : List Use) (cs : Calls) → using_all s p us cs ≡ using_all s p (us ++ []) cs
nothing_more s p us cs = ap (λ vs. using_all s p vs cs) (sym (append-nil us))

-- a name before parentheses
pub some_named : (x : Text) (all : List EflExpr) (b : Bool) → b ≡ (length all == 0) → b ≡ false → named x (exprs_of all) ≡ Applied x
some_named x [] b is off = absurd (let d : true ≡ false = sym is ∙ off in cc)
some_named x (a ∷ all) b is off = refl

-- a step, and those behind it
pub step_behind : (s : Site) (p : Place) (a : EflStep) (rest : EflSteps) (cs : Calls) →
    using_all s p (uses_behind (step_then a rest)) cs ≡ using_all s p (uses_behind rest) (using_all s p (uses_behind (step_then a NoStep)) cs)
step_behind s p (e.Member' x n all) rest cs =
    using_all-append s p (uses_of_all (row_exprs all)) (uses_behind rest) cs ∙ ap (using_all s p (uses_behind rest)) (nothing_more s p (uses_of_all (row_exprs all)) cs)
step_behind s p (e.Overlay x) rest cs = refl

pub ruleset use_steps = (common_steps, using_all-append, step_behind)

-- ---- statements ----

clause_then-is : (c : EflCase) (rest : EflCases) → case_then c rest ≡ AndCase (out-EflCase c).tests.items (out-EflCase c).fallback (stmts_of (out-EflCase c).body.items) (out-EflCase c).place rest
clause_then-is c rest =
    let o = out-EflCase c in
    sym (ap (λ x. case_then x rest) (roll-out-EflCase c)) ∙ ap (λ f. f rest) (clause_is o.tests o.fallback o.body o.place)

-- one clause more of a switch
pub clause_passed : (s : Site) (list : List EflCase) (i : ℕ) (c : EflCase) (cs ds : Calls) → i < length list → c ≡ get_or list i c →
    ds ≡ statements_calls s (stmts_of (out-EflCase c).body.items) cs →
    clauses_calls s (cases_of (drop (i + 1) list)) ds ≡ clauses_calls s (cases_of (drop i list)) cs
clause_passed s list i c cs ds lt is seen =
    ap (clauses_calls s (cases_of (drop (i + 1) list))) seen
    ∙ sym (ap (λ xs. clauses_calls s (cases_of xs) cs) (drop_next list i c lt is) ∙ ap (λ xs. clauses_calls s xs cs) (clause_then-is c (cases_of (drop (i + 1) list))))

-- a block: what its declarations list, the calls of these, and those of its statements
pub block_passed : (s : Site) (ds : List EflDecl) (ss : EflStmts) (l : Listed) (own : Roles) (cs cs1 cs2 : Calls) →
    l ≡ listed s.roles ds → own ≡ behind_all ds l.variables → cs1 ≡ declarations_calls s ds l.variables cs → cs2 ≡ statements_calls (entering own s) ss cs1 →
    cs2 ≡ within_calls s (Block ds ss) cs
block_passed s ds ss l own cs cs1 cs2 are known declared stated =
    stated ∙ ap (λ f. statements_calls (entering f s) ss cs1) known ∙ ap (statements_calls (entering (behind_all ds l.variables) s) ss) declared
    ∙ ap (λ k. statements_calls (entering (behind_all ds k.variables) s) ss (declarations_calls s ds k.variables cs)) are

-- a procedure, of which formals come behind its own variables
pub procedure_passed : (numbers : Text → Option ℕ) (n : ℕ) (u : EflProcedure) (l : Listed) (own all : Roles) (cs cs1 cs2 : Calls) →
    l ≡ listed no_role u.declarations → own ≡ with_formals l.letters u.formals l.variables → all ≡ behind_all u.declarations own →
    cs1 ≡ declarations_calls (outside numbers n) u.declarations own cs → cs2 ≡ statements_calls (entering all (outside numbers n)) u.body cs1 →
    cs2 ≡ procedure_calls numbers n u cs
procedure_passed numbers n u l own all cs cs1 cs2 are formals known declared stated =
    let s = outside numbers n in
    stated ∙ ap (λ f. statements_calls (entering f s) u.body cs1) known ∙ ap (statements_calls (entering (behind_all u.declarations own) s) u.body) declared
    ∙ ap (λ f. statements_calls (entering (behind_all u.declarations f) s) u.body (declarations_calls s u.declarations f cs))
    (formals ∙ ap (λ k. with_formals k.letters u.formals k.variables) are)
