-- What a walk finds first is the first part of a program that is not built, and the forms of trees in memory.
use Rattle.std.proofs.Common.{◌≡◌, ◌+◌, ◌==◌, ◌<◌, ℕ, ℤ, Bool, true, false, ◌||◌, ◌&&◌, List, [], ◌∷◌, ◌++◌, length, drop, get_or, Option, Some, None, Vec, Box, Global, refl, sym, ap, ◌∙◌, arith}
use Rattle.std.specs.Prelude.{not, cond, find, option_map}
use Rattle.std.specs.Option.{option_or}
use Rattle.std.proofs.lemmas.List.Folds.{find-append}
use Rattle.std.proofs.lemmas.Option.{none-some}
use Rattle.std.proofs.lemmas.Bool.Decides.{nat_tests}
use Rattle.ground.specs.declared.place.Place.{Place}
use Rattle.efl_tree.specs.declared.expression.EflExpr.{EflExpr}
use Rattle.efl_tree.specs.declared.expression.EflExpr.TheVariants as v
use Rattle.efl_tree.specs.declared.expression.EflOperator.{EflOperator}
use Rattle.efl_tree.specs.declared.expression.EflPlace.{EflPlace}
use Rattle.efl_tree.specs.declared.expression.EflStep.{EflStep}
use Rattle.efl_tree.specs.declared.expression.EflExpr.TheBlock as e
use Rattle.efl_tree.specs.declared.statement.EflKind as kinds
use Rattle.efl_tree.specs.declared.statement.EflKind.TheVariants as k'
use Rattle.efl_tree.specs.declared.statement.EflStmt as stmts
use Rattle.efl_tree.specs.declared.statement.EflCase.{EflCase, out-EflCase, roll-out-EflCase}
use Rattle.efl_tree.specs.declared.statement.LoopKind.TheVariants as loops
use Rattle.efl_tree.specs.Syntax.{Text, EflType, Integer, Logical, Real, Complex, Named, Shape, EflGroups, NoGroup, AndGroup, EflDeclKind, Implicit, Initial, Variables, Area, Structure, EflDecl, EflStmt, Statement, EflKind, Empty, Block, Act, If, IfElse, While, For, Repeat, RepeatUntil, Do, Switch, Break, Next, Return, Goto, Write, Read, EflStmts, NoStmt, AndStmt, EflCases, NoCase, AndCase, EflProcedure, EflProgram}
use Rattle.efl_tree.specs.Views.{expr_of, exprs_of, step_then, steps_of, place_of, case_then, stmt_of, kind_of, stmts_of, cases_of}
use Rattle.efl_tree.proofs.Rows.{at_expr, up_expr, down_expr, call_expr, assign_expr, clause_is}
use Rattle.efl_scope.specs.Scopes.{behind, behind_declaration, behind_all, outer}
use Rattle.efl_scope.specs.Parts.{Declares, States, Until, Around, Part, part, among, into, in_loop, in_list, opening, opened, names_of, names_by, shapes_in, groups_in, members_in, area_groups, groups_by, declarations_in, parts_of, parts_within, parts_in, clauses_in, header_type_groups, around_unit, parts_by, parts_from, program_parts}
use Rattle.efl_scope.proofs.TreeLemmas.{drop_next}
use Rattle.efl_types.specs.Types.{ends}
use Rattle.efl_built.specs.Unbuilt.{is_bare, unbuilt_target, unbuilt_expr, unbuilt_exprs, unbuilt_place, unbuilt_in, first_unbuilt, are_built}
use Rattle.efl_built.specs.Walks.{place_if, first_declared, first_stated, first_within, first_listed, first_chosen, first_in_procedure, first_in_procedures, first_until}

-- ---- lists in memory ----

not_empty : {X : Type 0} (a : X) (list : List X) → (length (a ∷ list) == 0) ≡ false
not_empty a list = grind (arith, nat_tests)

pub bare_if_empty : (list : List EflExpr) → (length list == 0) ≡ is_bare (exprs_of list)
bare_if_empty [] = refl
bare_if_empty (a ∷ list) = not_empty a list

pub ends_if_empty : (list : List EflStep) → (length list == 0) ≡ ends (steps_of list)
ends_if_empty [] = refl
ends_if_empty (a ∷ list) = not_empty a list ∙ by a
  where
    by : (s : EflStep) → false ≡ ends (step_then s (steps_of list))
    by (e.Member' x n all) = refl
    by (e.Overlay x) = refl

-- ---- expressions in memory ----

pub at_unbuilt : (a : EflExpr) (p : EflPlace) → a ≡ v.At p → unbuilt_place (place_of p) ≡ unbuilt_expr (expr_of a)
at_unbuilt a p is = sym (ap (λ x. unbuilt_expr (expr_of x)) is ∙ ap unbuilt_expr (at_expr p))

pub up_unbuilt : (a : EflExpr) (p : EflPlace) → a ≡ v.Up p → unbuilt_target (place_of p) ≡ unbuilt_expr (expr_of a)
up_unbuilt a p is = sym (ap (λ x. unbuilt_expr (expr_of x)) is ∙ ap unbuilt_expr (up_expr p))

pub down_unbuilt : (a : EflExpr) (p : EflPlace) → a ≡ v.Down p → unbuilt_target (place_of p) ≡ unbuilt_expr (expr_of a)
down_unbuilt a p is = sym (ap (λ x. unbuilt_expr (expr_of x)) is ∙ ap unbuilt_expr (down_expr p))

pub call_unbuilt : (a : EflExpr) (x : Text) (list : Vec EflExpr Global) (seen : List EflExpr) → a ≡ v.Call x list → seen ≡ list.items →
    unbuilt_exprs (exprs_of seen) ≡ unbuilt_expr (expr_of a)
call_unbuilt a x list seen is at = ap (λ xs. unbuilt_exprs (exprs_of xs)) at ∙ sym (ap (λ y. unbuilt_expr (expr_of y)) is ∙ ap unbuilt_expr (call_expr x list))

-- an assignment, of which it is known whether its place is built
pub assign_unbuilt : (a : EflExpr) (o : Option EflOperator) (p : EflPlace) (b : Box EflExpr Global) (seen : EflExpr) (stored : Bool) →
    a ≡ v.Assign o p b → seen ≡ b.value → unbuilt_target (place_of p) ≡ stored → (stored || unbuilt_expr (expr_of seen)) ≡ unbuilt_expr (expr_of a)
assign_unbuilt a o p b seen stored is at known =
    ap (λ s. s || unbuilt_expr (expr_of seen)) (sym known) ∙ ap (λ x. unbuilt_target (place_of p) || unbuilt_expr (expr_of x)) at
    ∙ sym (ap (λ x. unbuilt_expr (expr_of x)) is ∙ ap unbuilt_expr (assign_expr o p b))

-- ---- statements in memory ----

or_none : (o : Option Place) → option_or o None ≡ o
or_none None = refl
or_none (Some x) = refl

-- a loop with or without `until`
pub repeat_is : (k : kinds.EflKind) (b : Box stmts.EflStmt Global) (u : Option (EflExpr × Place)) → k ≡ k'.Repeat b u →
    option_or (first_stated (stmt_of b.value)) (first_until u) ≡ first_within (kind_of k)
repeat_is k b u is = by u ∙ sym (ap (λ x. first_within (kind_of x)) is)
  where
    by : (o : Option (EflExpr × Place)) → option_or (first_stated (stmt_of b.value)) (first_until o) ≡ first_within (kind_of (k'.Repeat b o))
    by None = or_none (first_stated (stmt_of b.value))
    by (Some w) = refl

clause_then-is : (c : EflCase) (rest : EflCases) → case_then c rest ≡ AndCase (out-EflCase c).tests.items (out-EflCase c).fallback (stmts_of (out-EflCase c).body.items) (out-EflCase c).place rest
clause_then-is c rest =
    let o = out-EflCase c in
    sym (ap (λ x. case_then x rest) (roll-out-EflCase c)) ∙ ap (λ f. f rest) (clause_is o.tests o.fallback o.body o.place)

-- ---- clauses in memory ----

-- one clause more of a switch
pub clause_passed : (list : List EflCase) (i : ℕ) (c : EflCase) (found : Option Place) → i < length list → c ≡ get_or list i c →
    found ≡ first_listed (stmts_of (out-EflCase c).body.items) → option_or found (first_chosen (cases_of (drop (i + 1) list))) ≡ first_chosen (cases_of (drop i list))
clause_passed list i c found lt is seen =
    ap (λ o. option_or o (first_chosen (cases_of (drop (i + 1) list)))) seen
    ∙ sym (ap (λ xs. first_chosen (cases_of xs)) (drop_next list i c lt is) ∙ ap first_chosen (clause_then-is c (cases_of (drop (i + 1) list))))

-- ---- the first part ----

-- the first of these parts that is not built
abbrev pub first_in : List Part → Option Place
first_in vs = option_map (λ v. v.place) (find (λ v. unbuilt_in v.form) vs)

or_map : (a b : Option Part) → option_map (λ v. v.place) (option_or a b) ≡ option_or (option_map (λ v. v.place) a) (option_map (λ v. v.place) b)
or_map None b = refl
or_map (Some x) b = refl

first_in-append : (vs ws : List Part) → first_in (vs ++ ws) ≡ option_or (first_in vs) (first_in ws)
first_in-append vs ws = ap (option_map (λ v. v.place)) (find-append (λ v. unbuilt_in v.form) vs ws) ∙ or_map (find (λ v. unbuilt_in v.form) vs) (find (λ v. unbuilt_in v.form) ws)

-- a part, and those behind it
first_in-more : (v : Part) (vs : List Part) → first_in (v ∷ vs) ≡ option_or (place_if (unbuilt_in v.form) v.place) (first_in vs)
first_in-more v vs = by (unbuilt_in v.form)
  where
    by : (b : Bool) → option_map (λ w. w.place) (cond b (Some v) (find (λ w. unbuilt_in w.form) vs)) ≡ option_or (place_if b v.place) (first_in vs)
    by true = refl
    by false = refl

both : (vs ws : List Part) (o q : Option Place) → first_in vs ≡ o → first_in ws ≡ q → first_in (vs ++ ws) ≡ option_or o q
both vs ws o q first second = first_in-append vs ws ∙ ap (λ x. option_or x (first_in ws)) first ∙ ap (option_or o) second

-- what is found in nothing before
behind_none : (vs ws : List Part) (q : Option Place) → first_in vs ≡ None → first_in ws ≡ q → first_in (vs ++ ws) ≡ q
behind_none vs ws q first second = both vs ws None q first second

-- ---- groups are never found ----

mutual
  groups_none : (t : EflType) (a : Around) → first_in (groups_in a t) ≡ None
  groups_none Integer a = refl
  groups_none Logical a = refl
  groups_none (Real long) a = refl
  groups_none (Complex long) a = refl
  groups_none (Named x) a = refl
  groups_none (Shape o gs) a = members_none gs a []

  members_none : (gs : EflGroups) (a : Around) (before : List Text) → first_in (members_in a before gs) ≡ None
  members_none NoGroup a before = refl
  members_none (AndGroup t vs p gs) a before = behind_none (groups_in a t) _ None (groups_none t a) (members_none gs (among (behind a.blocks t) a) (before ++ names_of vs))

area_none : (gs : EflGroups) (a : Around) (before : List Text) → first_in (area_groups a before gs) ≡ None
area_none NoGroup a before = refl
area_none (AndGroup t vs p gs) a before = behind_none (groups_in a t) _ None (groups_none t a) (area_none gs (among (behind a.blocks t) a) (before ++ shapes_in t ++ names_of vs))

kind_none : (k : EflDeclKind) (a : Around) (before : List Text) → first_in (groups_by a before k) ≡ None
kind_none (Implicit rs t) a before = groups_none t a
kind_none (Initial ps) a before = refl
kind_none (Variables q t vs) a before = groups_none t a
kind_none (Area q gs) a before = area_none gs a (a.formals ++ before)
kind_none (Structure x gs) a before = members_none gs a []

header_none : (a : Around) (o : Option EflType) → first_in (header_type_groups a o) ≡ None
header_none a None = refl
header_none a (Some t) = groups_none t (among [] a)

-- ---- declarations ----

declared_is : (ds : List EflDecl) (a : Around) (before : List Text) → first_in (declarations_in a before ds) ≡ first_declared ds
declared_is [] a before = refl
declared_is (d ∷ ds) a before =
    let rest = declarations_in (among (behind_declaration a.blocks d.kind) a) (before ++ names_by d.kind) ds in
    first_in-more (part a d.place (Declares before d.kind)) (groups_by a before d.kind ++ rest)
    ∙ ap (option_or (place_if (unbuilt_in (Declares before d.kind)) d.place))
    (behind_none (groups_by a before d.kind) rest (first_declared ds) (kind_none d.kind a before) (declared_is ds (among (behind_declaration a.blocks d.kind) a) (before ++ names_by d.kind)))

-- ---- statements ----

mutual
  stated_is : (s : EflStmt) (a : Around) → first_in (parts_of a s) ≡ first_stated s
  stated_is (Statement ls p k) a = first_in-more (part a p (States ls k)) (parts_within a k) ∙ ap (option_or (place_if (unbuilt_in (States ls k)) p)) (within_is k a)

  within_is : (k : EflKind) (a : Around) → first_in (parts_within a k) ≡ first_within k
  within_is (Block ds ss) a =
      both (declarations_in (opening ds a) [] ds) (parts_in 0 (in_list ss (opened ds a)) ss) (first_declared ds) (first_listed ss)
      (declared_is ds (opening ds a) []) (listed_is ss 0 (in_list ss (opened ds a)))
  within_is (If e s) a = stated_is s a
  within_is (IfElse e s t) a = both (parts_of (into 0 a) s) (parts_of (into 1 a) t) (first_stated s) (first_stated t) (stated_is s (into 0 a)) (stated_is t (into 1 a))
  within_is (While e s) a = stated_is s (in_loop loops.While a)
  within_is (For b e c s) a = stated_is s (in_loop loops.For a)
  within_is (Repeat s) a = stated_is s (in_loop loops.Repeat a)
  within_is (RepeatUntil s e p) a =
      both (parts_of (in_loop loops.Repeat a) s) (part a p (Until e) ∷ []) (first_stated s) (place_if (unbuilt_expr e) p)
      (stated_is s (in_loop loops.Repeat a)) (first_in-more (part a p (Until e)) [] ∙ or_none (place_if (unbuilt_expr e) p))
  within_is (Do x b c d s) a = stated_is s (in_loop loops.Do a)
  within_is (Switch e cs) a = chosen_is cs 0 (in_loop loops.Switch a) [] false
  within_is Empty a = refl
  within_is (Act e) a = refl
  within_is (Break n o) a = refl
  within_is (Next n o) a = refl
  within_is (Return e) a = refl
  within_is (Goto l) a = refl
  within_is (Write e is') a = refl
  within_is (Read e is') a = refl

  listed_is : (ss : EflStmts) (n : ℕ) (a : Around) → first_in (parts_in n a ss) ≡ first_listed ss
  listed_is NoStmt n a = refl
  listed_is (AndStmt s ss) n a = both (parts_of (into n a) s) (parts_in (n + 1) a ss) (first_stated s) (first_listed ss) (stated_is s (into n a)) (listed_is ss (n + 1) a)

  chosen_is : (cs : EflCases) (n : ℕ) (a : Around) (zs : List ℤ) (seen : Bool) → first_in (clauses_in n a zs seen cs) ≡ first_chosen cs
  chosen_is NoCase n a zs seen = refl
  chosen_is (AndCase es fallback ss p cs) n a zs seen =
      both (parts_in 0 (in_list ss (into n a)) ss) (clauses_in (n + 1) a (zs ++ es) (seen || fallback) cs) (first_listed ss) (first_chosen cs)
      (listed_is ss 0 (in_list ss (into n a))) (chosen_is cs (n + 1) a (zs ++ es) (seen || fallback))

-- ---- procedures ----

procedure_is : (n : ℕ) (u : EflProcedure) → first_in (parts_by n u) ≡ first_in_procedure u
procedure_is n u =
    let a = around_unit n u in
    let body = parts_in 0 (among (behind_all (outer u) u.declarations) a) u.body in
    both (header_type_groups a u.result ++ declarations_in a [] u.declarations) body (first_declared u.declarations) (first_listed u.body)
    (behind_none (header_type_groups a u.result) (declarations_in a [] u.declarations) (first_declared u.declarations) (header_none a u.result) (declared_is u.declarations a []))
    (listed_is u.body 0 (among (behind_all (outer u) u.declarations) a))

procedures_are : (us : List EflProcedure) (n : ℕ) → first_in (parts_from n us) ≡ first_in_procedures us
procedures_are [] n = refl
procedures_are (u ∷ us) n = both (parts_by n u) (parts_from (n + 1) us) (first_in_procedure u) (first_in_procedures us) (procedure_is n u) (procedures_are us (n + 1))

-- what the walk finds is the first part that is not built
pub walk_finds : (p : EflProgram) → first_in_procedures p.procedures ≡ first_unbuilt p
walk_finds p = sym (procedures_are p.procedures 0)

-- ---- programs without such forms ----

all_built : (vs : List Part) → first_in vs ≡ None → are_built vs ≡ true
all_built [] none = refl
all_built (v ∷ vs) none = by (unbuilt_in v.form) refl (all_built vs)
  where
    by : (b : Bool) → unbuilt_in v.form ≡ b → (first_in vs ≡ None → are_built vs ≡ true) → are_built (v ∷ vs) ≡ true
    by true on rest = absurd (none-some v.place (sym none ∙ ap (λ c. option_map (λ w. w.place) (cond c (Some v) (find (λ w. unbuilt_in w.form) vs))) on))
    by false off rest =
        ap (λ c. not c && are_built vs) off
        ∙ rest (sym (ap (λ c. option_map (λ w. w.place) (cond c (Some v) (find (λ w. unbuilt_in w.form) vs))) off) ∙ none)

-- a program of which nothing is found has only parts that are built
pub built_parts : (p : EflProgram) → first_unbuilt p ≡ None → are_built (program_parts p) ≡ true
built_parts p none = all_built (program_parts p) none
