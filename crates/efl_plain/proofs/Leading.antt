-- The routes of a body whose scopes have no fault lead somewhere: each `break`, `next` and `goto` has where to go.
use Rattle.std.proofs.Common.{◌≡◌, ◌⊎◌, inl, inr, ℕ, suc, ◌+◌, ◌≤◌, ◌<◌, ℤ, Bool, true, false, true≢false, List, [], ◌∷◌, length, Some, None, refl, sym, ap, arith, if◌then◌else◌, ◌||◌}
use Rattle.std.specs.Prelude.{nat_eq}
use Rattle.std.specs.Str.{bytes_eq}
use Rattle.std.proofs.lemmas.Bool.{eq-eqb}
use Rattle.ground.specs.declared.place.Place.{Place}
use Rattle.ground.specs.declared.value.Kind.{Kind}
use Rattle.f66_tree.specs.Syntax.{Text, Formula}
use Rattle.efl_tree.specs.declared.statement.LoopKind.{LoopKind}
use Rattle.efl_tree.specs.declared.statement.LoopKind.TheVariants as loop_kinds
use Rattle.efl_tree.specs.Syntax.{EflProgram}
use Rattle.efl_program.specs.Typed as efl
use Rattle.efl_program.specs.Typed.{Stmt, Empty, Act, If, IfElse, While, For, Repeat, RepeatUntil, Do, Switch, Next, Return, Goto, Write, Read, Stmts, NoStmt, AndStmt, Clauses, NoClause, AndClause}
use Rattle.efl_program.specs.Meaning.{pred_of, has_own_label, stands}
use Rattle.efl_program.specs.Scoped.{Scoped, AllScoped, ClausesScoped}
use Rattle.efl_typed.specs.Laws.{IsAccepted, AcceptedIsScoped}
use Rattle.efl_typed.specs.Typing.{bodies_of}
use Rattle.routes.specs.Routes.{Route, Block, Routes, NoRoute}
use Rattle.routes.specs.Numbered.{bit, given, all_given}
use Rattle.efl_routes.specs.Expressions.{made, formula}
use Rattle.efl_routes.specs.Statements as st
use Rattle.efl_routes.specs.Statements.{Around, Other, Behind, made_if_any, route, all_route, clause_route, default_route}
use Rattle.efl_lowered.specs.Naming.{Naming}
use Rattle.efl_lowered.specs.Lowering.{routes_of}
use Rattle.efl_lowered.proofs.Lists.{text_is}
use Rattle.routed_units.specs.Routed.{RouteLeads, Leads}
use Rattle.efl_plain.proofs.Passing.{Passes, expr_passes, any_act_passes, unless_passes, first_passes, items_pass, stores_pass}
use Rattle.efl_plain.proofs.Rings.{Fits, outside, in_other, in_loop, in_switch}

module _ (home : ℕ → Text) (temp : Kind → ℕ → Text) (callee : ℕ → Text) (label : Text → ℕ) (own : Text) where
  abbrev one : Stmt → List Around → ℕ → Route
  one s rs n = route home temp callee label own s rs n

  abbrev all : Stmts → List Around → ℕ → Routes
  all ss rs n = all_route home temp callee label own ss rs n

  -- a label that stands in a list is given in its routes
  own_given : (q : Text) (s : Stmt) (rs : List Around) (n : ℕ) → has_own_label q s ≡ true → 1 ≤ given (label q) (one s rs n)
  own_given q (efl.Labelled m p s) rs n h = by_first (bytes_eq m q) refl h (own_given q s rs n)
    where
      by_first : (b : Bool) → bytes_eq m q ≡ b → (b || has_own_label q s) ≡ true → (has_own_label q s ≡ true → 1 ≤ given (label q) (one s rs n)) → 1 ≤ bit (nat_eq (label m) (label q)) + given (label q) (one s rs n)
      by_first true e h later = let is = ap bit (eq-eqb (label m) (label q) (ap label (text_is m q e))) in omega (is, arith)
      by_first false e h later = let it = later h in omega (it, arith)
  own_given q _ rs n h = absurd (true≢false (sym h))

  stands_given : (q : Text) (ss : Stmts) (rs : List Around) (n : ℕ) → stands q ss ≡ true → 1 ≤ all_given (label q) (all ss rs n)
  stands_given q NoStmt rs n h = absurd (true≢false (sym h))
  stands_given q (AndStmt s ss) rs n h = by_first (has_own_label q s) refl h (stands_given q ss rs n)
    where
      by_first : (b : Bool) → has_own_label q s ≡ b → (b || stands q ss) ≡ true → (stands q ss ≡ true → 1 ≤ all_given (label q) (all ss rs n)) → 1 ≤ given (label q) (one s rs n) + all_given (label q) (all ss rs n)
      by_first true e h later = let it = own_given q s rs n e in omega (it, arith)
      by_first false e h later = let it = later h in omega (it, arith)

  module _ (g : ℕ → ℕ) where
    -- the labels in them are counted
    abbrev IsCounted : Route → Type 0
    IsCounted r = (m : ℕ) → given m r ≤ g m

    abbrev pub AreCounted : Routes → Type 0
    AreCounted rs = (m : ℕ) → all_given m rs ≤ g m

    abbrev Lead : Routes → ℕ → Type 0
    Lead rs d = AreCounted rs → Leads rs g d

    leading : Passes Lead
    leading = record {
      ends = λ d h. tt;
      set = λ p t e rest d k h. (tt, k (λ m. let le = h m in omega (le, arith)));
      call = λ p x es rest d k h. (tt, k (λ m. let le = h m in omega (le, arith)));
      test = λ p c rest d k h. (omega arith, k (λ m. let le = h m in omega (le, arith)));
      ring = λ p inner rest d k i h. (k (λ m. let le = h m in omega (le, arith)), i (λ m. let le = h m in omega (le, arith)));
    }

    cases_lead : (p : Place) (v : Formula) (zs : List ℤ) (d : ℕ) → Leads (st.case_routes home temp callee label own p v zs) g (suc (suc d))
    cases_lead p v [] d = (omega arith, tt)
    cases_lead p v (z ∷ zs) d = (omega arith, cases_lead p v zs d)

    -- labels that may be reached are counted
    abbrev pub AreReached : (Text → Type 0) → Type 0
    AreReached R = (q : Text) → R q → 1 ≤ g (label q)

    more_reached : (R : Text → Type 0) (ss : Stmts) (rs : List Around) (n : ℕ) → AreReached R → AreCounted (all ss rs n) → AreReached (λ q. (stands q ss ≡ true) ⊎ R q)
    more_reached R ss rs n reach h q (inl e) = let it = stands_given q ss rs n e in let le = h (label q) in omega (it, le, arith)
    more_reached R ss rs n reach h q (inr r) = reach q r

    module _ (D : ℕ → Type 0) where
      mutual
        route_leads : (s : Stmt) (ks : List LoopKind) (rs : List Around) (R : Text → Type 0) (n : ℕ) → Fits rs ks → Scoped D s ks R → AreReached R → IsCounted (one s rs n) → RouteLeads (one s rs n) g (length rs)
        route_leads (Empty p) ks rs R n fits sc reach h = tt
        route_leads (efl.Block p ss) ks rs R n fits sc reach h = leads ss ks rs (λ q. (stands q ss ≡ true) ⊎ R q) n fits sc (more_reached R ss rs n reach h) h
        route_leads (Act p a) ks rs R n fits sc reach h = any_act_passes Lead leading home temp callee label own p (Some a) n NoRoute (length rs) (λ k. tt) h
        route_leads (If p e s) ks rs R n fits sc reach h =
            expr_passes Lead leading home temp callee p e n _ (length rs)
            (λ k. ((omega arith, (route_leads s ks (Other ∷ rs) R n (in_other rs ks fits) sc.1 reach (λ m. let le = k m in omega (le, arith)), tt)), tt)) h
        route_leads (IfElse p e s t) ks rs R n fits sc reach h =
            let f = in_other rs ks fits in
            expr_passes Lead leading home temp callee p e n _ (length rs)
            (λ k. (
              (
                (omega arith, (route_leads s ks (Other ∷ Other ∷ rs) R n (in_other (Other ∷ rs) ks f) sc.1 reach (λ m. let le = k m in omega (le, arith)), (omega arith, tt))),
                (route_leads t ks (Other ∷ rs) R n f sc.2 reach (λ m. let le = k m in omega (le, arith)), tt),
              ),
              tt,
            )) h
        route_leads (While p e s) ks rs R n fits sc reach h = (
          expr_passes Lead leading home temp callee p e n _ (suc (length rs)) (λ k. (omega arith, tt)) (λ m. let le = h m in omega (le, arith)),
          ((route_leads s (loop_kinds.While ∷ ks) (st.Next loop_kinds.While ∷ Behind loop_kinds.While ∷ rs) R n (in_loop rs ks fits loop_kinds.While) sc.1 reach (λ m. let le = h m in omega (le, arith)), tt), tt),
        )
        route_leads (For p a e b s) ks rs R n fits sc reach h =
            any_act_passes Lead leading home temp callee label own p a n _ (length rs)
            (λ k. (
              (
                unless_passes Lead leading home temp callee label own p e n NoRoute (length rs) (λ i. tt) (λ m. let le = k m in omega (le, arith)),
                (
                  (route_leads s (loop_kinds.For ∷ ks) (st.Next loop_kinds.For ∷ Behind loop_kinds.For ∷ rs) R n (in_loop rs ks fits loop_kinds.For) sc.3 reach (λ m. let le = k m in omega (le, arith)), tt),
                  any_act_passes Lead leading home temp callee label own p b n NoRoute (suc (length rs)) (λ i. tt) (λ m. let le = k m in omega (le, arith)),
                ),
              ),
              tt,
            )) h
        route_leads (Repeat p s) ks rs R n fits sc reach h = (tt, ((route_leads s (loop_kinds.Repeat ∷ ks) (st.Next loop_kinds.Repeat ∷ Behind loop_kinds.Repeat ∷ rs) R n (in_loop rs ks fits loop_kinds.Repeat) sc reach (λ m. let le = h m in omega (le, arith)), tt), tt))
        route_leads (RepeatUntil p s e q) ks rs R n fits sc reach h = (
          tt,
          (
            (route_leads s (loop_kinds.Repeat ∷ ks) (st.Next loop_kinds.Repeat ∷ Behind loop_kinds.Repeat ∷ rs) R n (in_loop rs ks fits loop_kinds.Repeat) sc.1 reach (λ m. let le = h m in omega (le, arith)), tt),
            expr_passes Lead leading home temp callee q e n _ (suc (length rs)) (λ k. (omega arith, tt)) (λ m. let le = h m in omega (le, arith)),
          ),
        )
        route_leads (Do p v a z d s) ks rs R n fits sc reach h =
            let kept = n + made z + made_if_any d in
            expr_passes Lead leading home temp callee p z n _ (length rs)
            (first_passes Lead leading home temp callee label own p d (n + made z) _ (length rs)
            (expr_passes Lead leading home temp callee p a kept _ (length rs)
            (λ k. (tt, (((tt, (tt, (omega arith, tt))), ((route_leads s (loop_kinds.Do ∷ ks) (st.Next loop_kinds.Do ∷ Behind loop_kinds.Do ∷ rs) R kept (in_loop rs ks fits loop_kinds.Do) sc.3 reach (λ m. let le = k m in omega (le, arith)), tt), (tt, (tt, (tt, tt))))), tt))))) h
        route_leads (Switch p e cs) ks rs R n fits sc reach h =
            let f = in_switch rs ks fits in
            expr_passes Lead leading home temp callee p e n _ (length rs)
            (λ k. (
              (
                clauses_lead p (formula home temp callee e n) cs (default_route home temp callee label own cs) (loop_kinds.Switch ∷ ks) (Behind loop_kinds.Switch ∷ rs) R (n + made e) f sc.1 reach
                    (λ as' i j. default_leads cs (loop_kinds.Switch ∷ ks) as' R (n + made e) i sc.1 reach j) (λ m. let le = k m in omega (le, arith)),
                tt,
              ),
              tt,
            )) h
        route_leads (efl.Break p i o) ks rs R n fits sc reach h = fits.leave o (pred_of i) sc
        route_leads (Next p i o) ks rs R n fits sc reach h = fits.turn o (pred_of i) sc
        route_leads (Return p None) ks rs R n fits sc reach h = tt
        route_leads (Return p (Some e)) ks rs R n fits sc reach h = expr_passes Lead leading home temp callee p e n _ (length rs) (λ k. (tt, (tt, tt))) h
        route_leads (Goto p q) ks rs R n fits sc reach h = reach q sc
        route_leads (Write p u items) ks rs R n fits sc reach h =
            first_passes Lead leading home temp callee label own p u n _ (length rs) (items_pass Lead leading home temp callee label own p items (n + made_if_any u) _ (length rs) (λ k. (tt, tt))) h
        route_leads (Read p u items) ks rs R n fits sc reach h =
            first_passes Lead leading home temp callee label own p u n _ (length rs) (λ k. (tt, stores_pass Lead leading home temp callee label own p items (n + made_if_any u) (length rs) (λ m. let le = k m in omega (le, arith)))) h
        route_leads (efl.Labelled q p s) ks rs R n fits sc reach h = route_leads s ks rs R n fits sc reach (λ m. let le = h m in omega (le, arith))

        pub leads : (ss : Stmts) (ks : List LoopKind) (rs : List Around) (R : Text → Type 0) (n : ℕ) → Fits rs ks → AllScoped D ss ks R → AreReached R → AreCounted (all ss rs n) → Leads (all ss rs n) g (length rs)
        leads NoStmt ks rs R n fits sc reach h = tt
        leads (AndStmt s ss) ks rs R n fits sc reach h =
            (route_leads s ks rs R n fits sc.0 reach (λ m. let le = h m in omega (le, arith)), leads ss ks rs R n fits sc.1 reach (λ m. let le = h m in omega (le, arith)))

        clauses_lead : (p : Place) (v : Formula) (cs : Clauses) (other : List Around → ℕ → Route) (ks : List LoopKind) (rs : List Around) (R : Text → Type 0) (n : ℕ) → Fits rs ks → ClausesScoped D cs ks R → AreReached R →
            ((as' : List Around) → Fits as' ks → IsCounted (other as' n) → RouteLeads (other as' n) g (length as')) → IsCounted (clause_route home temp callee label own p v cs other rs n) →
            RouteLeads (clause_route home temp callee label own p v cs other rs n) g (length rs)
        clauses_lead p v NoClause other ks rs R n fits sc reach o h = o rs fits h
        clauses_lead p v (AndClause [] fallback ss q cs) other ks rs R n fits sc reach o h = clauses_lead p v cs other ks rs R n fits sc.1 reach o h
        clauses_lead p v (AndClause (z ∷ zs) fallback ss q cs) other ks rs R n fits sc reach o h =
            let f = in_other rs ks fits in
            let counted : AreCounted (all ss (Other ∷ Other ∷ rs) n) = λ m. let le = h m in omega (le, arith) in (
              (
                cases_lead p v (z ∷ zs) (suc (length rs)),
                (leads ss ks (Other ∷ Other ∷ rs) (λ l. (stands l ss ≡ true) ⊎ R l) n (in_other (Other ∷ rs) ks f) sc.0 (more_reached R ss (Other ∷ Other ∷ rs) n reach counted) counted, (omega arith, tt)),
              ),
              (clauses_lead p v cs other ks (Other ∷ rs) R n f sc.1 reach o (λ m. let le = h m in omega (le, arith)), tt),
            )

        default_leads : (cs : Clauses) (ks : List LoopKind) (rs : List Around) (R : Text → Type 0) (n : ℕ) → Fits rs ks → ClausesScoped D cs ks R → AreReached R → IsCounted (default_route home temp callee label own cs rs n) →
            RouteLeads (default_route home temp callee label own cs rs n) g (length rs)
        default_leads NoClause ks rs R n fits sc reach h = tt
        default_leads (AndClause es fallback ss p cs) ks rs R n fits sc reach h =
            by_flag fallback
            (Block (all ss rs n)) (default_route home temp callee label own cs rs n) (λ k. leads ss ks rs (λ l. (stands l ss ≡ true) ⊎ R l) n fits sc.0 (more_reached R ss rs n reach k) k) (λ k. default_leads cs ks rs R n fits sc.1 reach k) h
          where
            by_flag : (b : Bool) (r s : Route) → (IsCounted r → RouteLeads r g (length rs)) → (IsCounted s → RouteLeads s g (length rs)) → IsCounted (if b then r else s) → RouteLeads (if b then r else s) g (length rs)
            by_flag true r s x y k = x k
            by_flag false r s x y k = y k

-- the routes of each procedure of an accepted program, where all labels of the source that stand in them are given
pub routes_lead : AcceptedIsScoped → (p : EflProgram) (ranks : List ℕ) → IsAccepted p ranks → (names : Naming) (n : ℕ) → Leads (routes_of names p n) (λ l. all_given l (routes_of names p n)) 0
routes_lead scoped p ranks accepted names n =
    let rs = routes_of names p n in
    let scoping = scoped p ranks accepted in
    let ss = bodies_of p n in
    leads names.home names.temp names.callee (names.label n) (names.callee n) (λ l. all_given l rs) (λ u. scoping.rank u < scoping.rank n) ss [] [] (λ q. (stands q ss ≡ true) ⊎ ⊥) 0 outside (scoping.scoped n) reached
    (λ m. omega arith)
  where
    reached : (q : Text) → (stands q (bodies_of p n) ≡ true) ⊎ ⊥ → 1 ≤ all_given (names.label n q) (routes_of names p n)
    reached q (inl e) = stands_given names.home names.temp names.callee (names.label n) (names.callee n) q (bodies_of p n) [] 0 e
    reached q (inr e) = absurd e
