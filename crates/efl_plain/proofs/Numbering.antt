-- The labels that stand in the routes of a body are those of its text: where these are in a range, so are they.
use Rattle.std.proofs.Common.{◌≡◌, ℕ, zero, suc, ◌+◌, ◌≤◌, ℤ, Bool, true, false, List, [], ◌∷◌, Some, None, refl, arith, if◌then◌else◌}
use Rattle.std.specs.Prelude.{nat_eq, nat_le}
use Rattle.std.proofs.lemmas.Bool.{leb-true, leb-false, eqb-true}
use Rattle.ground.specs.declared.place.Place.{Place}
use Rattle.ground.specs.declared.value.Kind.{Kind}
use Rattle.f66_tree.specs.Syntax.{Text, Formula}
use Rattle.efl_tree.specs.declared.statement.LoopKind.TheVariants as loop_kinds
use Rattle.efl_program.specs.Typed as efl
use Rattle.efl_program.specs.Typed.{Stmt, Empty, Act, If, IfElse, While, For, Repeat, RepeatUntil, Do, Switch, Return, Goto, Write, Read, Stmts, NoStmt, AndStmt, Clauses, NoClause, AndClause}
use Rattle.efl_typed.proofs.Each.{Each, each_left, each_right}
use Rattle.routes.specs.Routes.{Route, Block, Routes, NoRoute}
use Rattle.routes.specs.Numbered.{bit, given, all_given}
use Rattle.efl_routes.specs.Expressions.{made, formula}
use Rattle.efl_routes.specs.Statements as st
use Rattle.efl_routes.specs.Statements.{Around, Other, Behind, Next, made_if_any, route, all_route, clause_route, default_route}
use Rattle.efl_lowered.specs.Labels.{labels_of, all_labels, clause_labels}
use Rattle.efl_lowered.proofs.TypedChecks.{each_fact}
use Rattle.efl_plain.proofs.Passing.{Passes, expr_passes, any_act_passes, unless_passes, first_passes, items_pass, stores_pass}

-- from 1 on
abbrev pub IsWithin : ℕ → ℕ → Type 0
IsWithin top l = (1 ≤ l) × (l ≤ top)

module _ (home : ℕ → Text) (temp : Kind → ℕ → Text) (callee : ℕ → Text) (label : Text → ℕ) (own : Text) where
  abbrev one : Stmt → List Around → ℕ → Route
  one s rs n = route home temp callee label own s rs n

  abbrev all : Stmts → List Around → ℕ → Routes
  all ss rs n = all_route home temp callee label own ss rs n

  module _ (l : ℕ) where
    -- a text whose number is another one
    abbrev Differs : Text → Type 0
    Differs q = bit (nat_eq (label q) l) ≡ 0

    abbrev Lacks : Routes → ℕ → Type 0
    Lacks rs d = all_given l rs ≡ 0

    lacking : Passes Lacks
    lacking = record { ends = λ d. refl; set = λ p t e rest d h. omega (h, arith); call = λ p x es rest d h. omega (h, arith); test = λ p c rest d h. omega (h, arith); ring = λ p inner rest d h k. omega (h, k, arith) }

    cases_lack : (p : Place) (v : Formula) (zs : List ℤ) → all_given l (st.case_routes home temp callee label own p v zs) ≡ 0
    cases_lack p v [] = refl
    cases_lack p v (z ∷ zs) = let it = cases_lack p v zs in omega (it, arith)

    mutual
      route_lacks : (s : Stmt) (rs : List Around) (n : ℕ) → Each Differs (labels_of s) → given l (one s rs n) ≡ 0
      route_lacks (Empty p) rs n h = refl
      route_lacks (efl.Block p ss) rs n h = all_lack ss rs n h
      route_lacks (Act p a) rs n h = any_act_passes Lacks lacking home temp callee label own p (Some a) n NoRoute 0 refl
      route_lacks (If p e s) rs n h = let it = route_lacks s (Other ∷ rs) n h in expr_passes Lacks lacking home temp callee p e n _ 0 (omega (it, arith))
      route_lacks (IfElse p e s t) rs n h =
          let it = route_lacks s (Other ∷ Other ∷ rs) n (each_left Differs (labels_of s) (labels_of t) h) in
          let other = route_lacks t (Other ∷ rs) n (each_right Differs (labels_of s) (labels_of t) h) in
          expr_passes Lacks lacking home temp callee p e n _ 0 (omega (it, other, arith))
      route_lacks (While p e s) rs n h =
          let it = route_lacks s (Next loop_kinds.While ∷ Behind loop_kinds.While ∷ rs) n h in
          let top = unless_passes Lacks lacking home temp callee label own p (Some e) n NoRoute 0 refl in omega (it, top, arith)
      route_lacks (For p a e b s) rs n h =
          let it = route_lacks s (Next loop_kinds.For ∷ Behind loop_kinds.For ∷ rs) n h in
          let top = unless_passes Lacks lacking home temp callee label own p e n NoRoute 0 refl in
          let step = any_act_passes Lacks lacking home temp callee label own p b n NoRoute 0 refl in
          any_act_passes Lacks lacking home temp callee label own p a n _ 0 (omega (it, top, step, arith))
      route_lacks (Repeat p s) rs n h = let it = route_lacks s (Next loop_kinds.Repeat ∷ Behind loop_kinds.Repeat ∷ rs) n h in omega (it, arith)
      route_lacks (RepeatUntil p s e q) rs n h =
          let it = route_lacks s (Next loop_kinds.Repeat ∷ Behind loop_kinds.Repeat ∷ rs) n h in
          let end : all_given l (st.where_so home temp callee label own q e n 0 NoRoute) ≡ 0 = expr_passes Lacks lacking home temp callee q e n _ 0 refl in omega (it, end, arith)
      route_lacks (Do p v a z d s) rs n h =
          let kept = n + made z + made_if_any d in
          let it = route_lacks s (Next loop_kinds.Do ∷ Behind loop_kinds.Do ∷ rs) kept h in
          expr_passes Lacks lacking home temp callee p z n _ 0
          (first_passes Lacks lacking home temp callee label own p d (n + made z) _ 0 (expr_passes Lacks lacking home temp callee p a kept _ 0 (omega (it, arith))))
      route_lacks (Switch p e cs) rs n h =
          let it = clauses_lack p (formula home temp callee e n) cs (default_route home temp callee label own cs) (Behind loop_kinds.Switch ∷ rs) (n + made e) h (λ as'. default_lacks cs as' (n + made e) h) in
          expr_passes Lacks lacking home temp callee p e n _ 0 (omega (it, arith))
      route_lacks (efl.Break p i o) rs n h = refl
      route_lacks (efl.Next p i o) rs n h = refl
      route_lacks (Return p None) rs n h = refl
      route_lacks (Return p (Some e)) rs n h = expr_passes Lacks lacking home temp callee p e n _ 0 refl
      route_lacks (Goto p q) rs n h = refl
      route_lacks (Write p u items) rs n h =
          first_passes Lacks lacking home temp callee label own p u n _ 0 (items_pass Lacks lacking home temp callee label own p items (n + made_if_any u) _ 0 refl)
      route_lacks (Read p u items) rs n h =
          let stores = stores_pass Lacks lacking home temp callee label own p items (n + made_if_any u) 0 in first_passes Lacks lacking home temp callee label own p u n _ 0 (omega (stores, arith))
      route_lacks (efl.Labelled q p s) rs n h = let it = route_lacks s rs n h.1 in let first = h.0 in omega (it, first, arith)

      all_lack : (ss : Stmts) (rs : List Around) (n : ℕ) → Each Differs (all_labels ss) → all_given l (all ss rs n) ≡ 0
      all_lack NoStmt rs n h = refl
      all_lack (AndStmt s ss) rs n h =
          let it = route_lacks s rs n (each_left Differs (labels_of s) (all_labels ss) h) in
          let later = all_lack ss rs n (each_right Differs (labels_of s) (all_labels ss) h) in omega (it, later, arith)

      clauses_lack : (p : Place) (v : Formula) (cs : Clauses) (other : List Around → ℕ → Route) (rs : List Around) (n : ℕ) → Each Differs (clause_labels cs) → ((as' : List Around) → given l (other as' n) ≡ 0) →
          given l (clause_route home temp callee label own p v cs other rs n) ≡ 0
      clauses_lack p v NoClause other rs n h o = o rs
      clauses_lack p v (AndClause [] fallback ss q cs) other rs n h o = clauses_lack p v cs other rs n (each_right Differs (all_labels ss) (clause_labels cs) h) o
      clauses_lack p v (AndClause (z ∷ zs) fallback ss q cs) other rs n h o =
          let cases = cases_lack p v (z ∷ zs) in
          let it = all_lack ss (Other ∷ Other ∷ rs) n (each_left Differs (all_labels ss) (clause_labels cs) h) in
          let later = clauses_lack p v cs other (Other ∷ rs) n (each_right Differs (all_labels ss) (clause_labels cs) h) o in omega (cases, it, later, arith)

      default_lacks : (cs : Clauses) (rs : List Around) (n : ℕ) → Each Differs (clause_labels cs) → given l (default_route home temp callee label own cs rs n) ≡ 0
      default_lacks NoClause rs n h = refl
      default_lacks (AndClause es fallback ss p cs) rs n h =
          by_flag fallback (Block (all ss rs n)) (default_route home temp callee label own cs rs n) (all_lack ss rs n (each_left Differs (all_labels ss) (clause_labels cs) h))
          (default_lacks cs rs n (each_right Differs (all_labels ss) (clause_labels cs) h))
        where
          by_flag : (b : Bool) (r s : Route) → given l r ≡ 0 → given l s ≡ 0 → given l (if b then r else s) ≡ 0
          by_flag true r s x y = x
          by_flag false r s x y = y

    differs : (q : Text) → (label q ≡ l → ⊥) → Differs q
    differs q ne = by_same (nat_eq (label q) l) refl
      where
        by_same : (b : Bool) → nat_eq (label q) l ≡ b → bit b ≡ 0
        by_same true e = absurd (ne (eqb-true (label q) l e))
        by_same false e = refl

  module _ (top : ℕ) where
    -- a number that is not in the range is none of a label
    lacks : (ss : Stmts) (rs : List Around) (n l : ℕ) → Each (λ q. IsWithin top (label q)) (all_labels ss) → (IsWithin top l → ⊥) → all_given l (all ss rs n) ≡ 0
    lacks ss rs n l h out = all_lack l ss rs n (each_fact (λ q. IsWithin top (label q)) (Differs l) (all_labels ss) (λ q w. differs l q (λ e. let a = w.0 in let b = w.1 in out (omega (a, e, arith), omega (b, e, arith)))) h)

    pub all_within : (ss : Stmts) (rs : List Around) (n l : ℕ) → Each (λ q. IsWithin top (label q)) (all_labels ss) → 1 ≤ all_given l (all ss rs n) → IsWithin top l
    all_within ss rs n zero h some = let none = lacks ss rs n 0 h (λ w. let a = w.0 in omega (a, arith)) in absurd (omega (none, some, arith))
    all_within ss rs n (suc k) h some = by_top (nat_le (suc k) top) refl
      where
        by_top : (b : Bool) → nat_le (suc k) top ≡ b → IsWithin top (suc k)
        by_top true e = (omega arith, leb-true (suc k) top e)
        by_top false e = let lt = leb-false (suc k) top e in let none = lacks ss rs n (suc k) h (λ w. let a = w.1 in omega (a, lt, arith)) in absurd (omega (none, some, arith))
