-- Only the labels of a procedure matter: where these are apart, all may be taken to be, since the lines are the same.
use Rattle.std.proofs.Common.{◌≡◌, ℕ, suc, ◌+◌, ◌<◌, Bool, true, false, true≢false, List, [], ◌∷◌, ◌++◌, map, None, Some, refl, sym, ap, ◌∙◌, subst, arith, if◌then◌else◌, ◌||◌}
use Rattle.std.specs.Prelude.{is_none}
use Rattle.std.specs.List.{list_any, enumerate_from}
use Rattle.std.specs.Str.{bytes_eq}
use Rattle.ground.specs.declared.place.Place.{Place}
use Rattle.ground.specs.declared.value.Kind.{Kind}
use Rattle.ground.specs.declared.value.Kind.TheVariants.{Integer, Logical}
use Rattle.f66_tree.specs.Syntax as f66
use Rattle.f66_tree.specs.Syntax.{Text, Formula, Line, Routine}
use Rattle.f66_tree.specs.OneUnit.{list_number}
use Rattle.f66_tree.proofs.ListNumbers.{numbers_differ}
use Rattle.f66_program.specs.Linking.{IsLinkage}
use Rattle.efl_tree.specs.declared.statement.LoopKind.TheVariants as loop_kinds
use Rattle.efl_tree.specs.Syntax.{EflProcedure, EflProgram}
use Rattle.efl_scope.specs.Marks.{program_variables}
use Rattle.efl_program.specs.Typed as efl
use Rattle.efl_program.specs.Typed.{Stmt, Empty, Act, If, IfElse, While, For, Repeat, RepeatUntil, Do, Switch, Next, Return, Goto, Write, Read, Stmts, NoStmt, AndStmt, Clauses, NoClause, AndClause}
use Rattle.efl_typed.specs.Typing.{bodies_of}
use Rattle.efl_typed.proofs.Each.{Each, each_left, each_right}
use Rattle.routes.specs.Routes.{Route, Plain, BreakIf, Break, Ring, Cycle, Block, InTurn, Labelled, NoRoute, AndRoute, only}
use Rattle.routes.specs.Code.{all_code}
use Rattle.routes.specs.Units.{ending}
use Rattle.routes.specs.Numbered.{IsNumbered}
use Rattle.efl_routes.specs.Expressions.{made, sets, formula, routes}
use Rattle.efl_routes.specs.Statements as st
use Rattle.efl_routes.specs.Statements.{Around, Other, Behind as Behind_it, Next as Next_of, made_if_any, route, all_route, clause_route, default_route}
use Rattle.efl_lowered.specs.Naming.{Naming}
use Rattle.efl_lowered.specs.Lowering.{header_of, typed_of, routes_of, unit_of, units_of}
use Rattle.efl_lowered.specs.Labels.{labels_of, all_labels, clause_labels}
use Rattle.efl_lowered.specs.Facts.{is_unit}
use Rattle.efl_lowered.specs.Names.{AreNames}
use Rattle.efl_lowered.specs.Laws.{AreCodes, ScalarUnitsAgree}
use Rattle.efl_lowered.proofs.Lists.{or_left, or_right, same_text, text_is}
use Rattle.efl_lowered.proofs.Agrees.{units_agree}

-- ---- routes ----

module _ (home : ℕ → Text) (temp : Kind → ℕ → Text) (callee : ℕ → Text) (own : Text) (f g : Text → ℕ) where
  -- both have the same numbers for these labels
  abbrev pub Alike : List Text → Type 0
  Alike ls = Each (λ l. f l ≡ g l) ls

  abbrev one : Stmt → List Around → ℕ → Route
  one s rs n = route home temp callee f own s rs n

  abbrev two : Stmt → List Around → ℕ → Route
  two s rs n = route home temp callee g own s rs n

  abbrev value : efl.Expr → ℕ → Formula
  value e n = formula home temp callee e n

  chosen : (b : Bool) (r r1 s s1 : Route) → r ≡ r1 → s ≡ s1 → (if b then r else s) ≡ (if b then r1 else s1)
  chosen true r r1 s s1 h k = h
  chosen false r r1 s s1 h k = k

  mutual
    same_route : (s : Stmt) (rs : List Around) (n : ℕ) → Alike (labels_of s) → one s rs n ≡ two s rs n
    same_route (Empty p) rs n h = refl
    same_route (efl.Block p ss) rs n h = ap Block (same_all ss rs n h)
    same_route (Act p a) rs n h = refl
    same_route (If p e s) rs n h = ap (λ r. InTurn (routes home temp callee p e n (only (Ring p (AndRoute (BreakIf p (f66.Not (value e n)) 0) (only r)))))) (same_route s (Other ∷ rs) n h)
    same_route (IfElse p e s t) rs n h =
        ap (λ r. InTurn (routes home temp callee p e n (only (Ring p (AndRoute (Ring p (AndRoute (BreakIf p (f66.Not (value e n)) 0) (AndRoute r (only (Break p 1))))) (only (one t (Other ∷ rs) n)))))))
        (same_route s (Other ∷ Other ∷ rs) n (each_left (λ l. f l ≡ g l) (labels_of s) (labels_of t) h))
        ∙ ap (λ r. InTurn (routes home temp callee p e n (only (Ring p (AndRoute (Ring p (AndRoute (BreakIf p (f66.Not (value e n)) 0) (AndRoute (two s (Other ∷ Other ∷ rs) n) (only (Break p 1))))) (only r))))))
        (same_route t (Other ∷ rs) n (each_right (λ l. f l ≡ g l) (labels_of s) (labels_of t) h))
    same_route (While p e s) rs n h = ap (λ r. Cycle p (st.unless home temp callee f own p e n 0 NoRoute) (only (Ring p (only r)))) (same_route s (Next_of loop_kinds.While ∷ Behind_it loop_kinds.While ∷ rs) n h)
    same_route (For p a e b s) rs n h =
        ap (λ r. InTurn (st.if_any home temp callee f own p a n (only (Cycle p (st.unless_any home temp callee f own p e n NoRoute) (AndRoute (Ring p (only r)) (st.if_any home temp callee f own p b n NoRoute))))))
        (same_route s (Next_of loop_kinds.For ∷ Behind_it loop_kinds.For ∷ rs) n h)
    same_route (Repeat p s) rs n h = ap (λ r. Cycle p NoRoute (only (Ring p (only r)))) (same_route s (Next_of loop_kinds.Repeat ∷ Behind_it loop_kinds.Repeat ∷ rs) n h)
    same_route (RepeatUntil p s e q) rs n h =
        ap (λ r. Cycle p NoRoute (AndRoute (Ring p (only r)) (st.where_so home temp callee f own q e n 0 NoRoute))) (same_route s (Next_of loop_kinds.Repeat ∷ Behind_it loop_kinds.Repeat ∷ rs) n h)
    same_route (Do p v a z d s) rs n h =
        let m = n + made z + made_if_any d in
        ap (λ r. InTurn (routes home temp callee p z n (st.first_if_any home temp callee f own p d (n + made z) (routes home temp callee p a m (AndRoute (sets p (f66.Ref (home v)) (value a m))
        (only (Cycle p (st.limit_routes home temp callee f own p v (value z n) m) (AndRoute (Ring p (only r)) (st.step_routes home temp callee f own p v (st.value_or_one home temp callee f own d (n + made z)) m)))))))))
        (same_route s (Next_of loop_kinds.Do ∷ Behind_it loop_kinds.Do ∷ rs) m h)
    same_route (Switch p e cs) rs n h =
        ap (λ r. InTurn (routes home temp callee p e n (only (Ring p (only r)))))
        (same_clauses p (value e n) cs (default_route home temp callee f own cs) (default_route home temp callee g own cs) (Behind_it loop_kinds.Switch ∷ rs) (n + made e) (λ as' i. same_default cs as' i h) h)
    same_route (efl.Break p i o) rs n h = refl
    same_route (Next p i o) rs n h = refl
    same_route (Return p None) rs n h = refl
    same_route (Return p (Some e)) rs n h = refl
    same_route (Goto p l) rs n h = ap (λ m. Plain p (f66.Goto m)) h.0
    same_route (Write p u items) rs n h = refl
    same_route (Read p u items) rs n h = refl
    same_route (efl.Labelled l p s) rs n h = ap (λ m. Labelled m p (one s rs n)) h.0 ∙ ap (λ r. Labelled (g l) p r) (same_route s rs n h.1)

    pub same_all : (ss : Stmts) (rs : List Around) (n : ℕ) → Alike (all_labels ss) → all_route home temp callee f own ss rs n ≡ all_route home temp callee g own ss rs n
    same_all NoStmt rs n h = refl
    same_all (AndStmt s ss) rs n h =
        ap (λ r. AndRoute r (all_route home temp callee f own ss rs n)) (same_route s rs n (each_left (λ l. f l ≡ g l) (labels_of s) (all_labels ss) h))
        ∙ ap (AndRoute (two s rs n)) (same_all ss rs n (each_right (λ l. f l ≡ g l) (labels_of s) (all_labels ss) h))

    same_clauses : (p : Place) (v : Formula) (cs : Clauses) (a b : List Around → ℕ → Route) (rs : List Around) (n : ℕ) → ((as' : List Around) (i : ℕ) → a as' i ≡ b as' i) → Alike (clause_labels cs) →
        clause_route home temp callee f own p v cs a rs n ≡ clause_route home temp callee g own p v cs b rs n
    same_clauses p v NoClause a b rs n e h = e rs n
    same_clauses p v (AndClause [] fallback ss q cs) a b rs n e h = same_clauses p v cs a b rs n e (each_right (λ l. f l ≡ g l) (all_labels ss) (clause_labels cs) h)
    same_clauses p v (AndClause (z ∷ zs) fallback ss q cs) a b rs n e h =
        ap (λ r. Ring p (AndRoute (Ring p (AndRoute (Ring p (st.case_routes home temp callee f own p v (z ∷ zs))) (AndRoute (Block r) (only (Break p 1))))) (only (clause_route home temp callee f own p v cs a (Other ∷ rs) n))))
        (same_all ss (Other ∷ Other ∷ rs) n (each_left (λ l. f l ≡ g l) (all_labels ss) (clause_labels cs) h))
        ∙ ap (λ r. Ring p (AndRoute (Ring p (AndRoute (Ring p (st.case_routes home temp callee f own p v (z ∷ zs))) (AndRoute (Block (all_route home temp callee g own ss (Other ∷ Other ∷ rs) n)) (only (Break p 1))))) (only r)))
        (same_clauses p v cs a b (Other ∷ rs) n e (each_right (λ l. f l ≡ g l) (all_labels ss) (clause_labels cs) h))

    same_default : (cs : Clauses) (rs : List Around) (n : ℕ) → Alike (clause_labels cs) → default_route home temp callee f own cs rs n ≡ default_route home temp callee g own cs rs n
    same_default NoClause rs n h = refl
    same_default (AndClause es fallback ss p cs) rs n h =
        chosen fallback (Block (all_route home temp callee f own ss rs n)) (Block (all_route home temp callee g own ss rs n)) (default_route home temp callee f own cs rs n) (default_route home temp callee g own cs rs n)
        (ap Block (same_all ss rs n (each_left (λ l. f l ≡ g l) (all_labels ss) (clause_labels cs) h))) (same_default cs rs n (each_right (λ l. f l ≡ g l) (all_labels ss) (clause_labels cs) h))

-- ---- numbers for all labels ----

-- a number above those of all labels of a list
abbrev above : (Text → ℕ) → List Text → ℕ
above f [] = 0
above f (l ∷ ls) = suc (f l + above f ls)

is_below : (f : Text → ℕ) (q : Text) (ls : List Text) → list_any (bytes_eq q) ls ≡ true → f q < above f ls
is_below f q [] h = absurd (true≢false (sym h))
is_below f q (l ∷ ls) h = by_first (bytes_eq q l) refl (is_below f q ls)
  where
    by_first : (b : Bool) → bytes_eq q l ≡ b → (list_any (bytes_eq q) ls ≡ true → f q < above f ls) → f q < suc (f l + above f ls)
    by_first true e later = let is = ap f (text_is q l e) in omega (is, arith)
    by_first false e later = let lt = later (sym (ap (λ b. b || list_any (bytes_eq q) ls) e) ∙ h) in omega (lt, arith)

abbrev extended : (Text → ℕ) → List Text → Text → ℕ
extended f ls q = if (list_any (bytes_eq q) ls) then (f q) else (above f ls + list_number q)

pub each_in : (P : Text → Type 0) (ls : List Text) → ((q : Text) → list_any (bytes_eq q) ls ≡ true → P q) → Each P ls
each_in P [] h = tt
each_in P (l ∷ ls) h = (h l (or_left (bytes_eq l l) (list_any (bytes_eq l) ls) (same_text l)), each_in P ls (λ q e. h q (or_right (bytes_eq q l) (list_any (bytes_eq q) ls) e)))

extended_same : (f : Text → ℕ) (ls : List Text) → Each (λ q. extended f ls q ≡ f q) ls
extended_same f ls = each_in (λ q. extended f ls q ≡ f q) ls (λ q e. ap (λ b. if b then (f q) else (above f ls + list_number q)) e)

extended_apart : (f : Text → ℕ) (ls : List Text) → ((q m : Text) → list_any (bytes_eq q) ls ≡ true → list_any (bytes_eq m) ls ≡ true → f q ≡ f m → q ≡ m) → (q m : Text) → extended f ls q ≡ extended f ls m → q ≡ m
extended_apart f ls apart q m = by_both (list_any (bytes_eq q) ls) (list_any (bytes_eq m) ls) refl refl
  where
    by_both : (b c : Bool) → list_any (bytes_eq q) ls ≡ b → list_any (bytes_eq m) ls ≡ c → (if b then (f q) else (above f ls + list_number q)) ≡ (if c then (f m) else (above f ls + list_number m)) → q ≡ m
    by_both true true h k e = apart q m h k e
    by_both true false h k e = let lt = is_below f q ls h in absurd (omega (lt, e, arith))
    by_both false true h k e = let lt = is_below f m ls k in absurd (omega (lt, e, arith))
    by_both false false h k e = numbers_differ q m (omega (e, arith))

-- ---- units ----

same_map : {X Y : Type 0} (f g : X → Y) → ((x : X) → f x ≡ g x) → (xs : List X) → map f xs ≡ map g xs
same_map f g h [] = refl
same_map f g h (x ∷ xs) = ap (λ y. y ∷ map f xs) (h x) ∙ ap (λ ys. g x ∷ ys) (same_map f g h xs)

module _ (p : EflProgram) (names : Naming) (are : AreNames p names) where
  -- the same names, and all labels apart
  abbrev wide : Naming
  wide = record { home = names.home; callee = names.callee; label = λ n. extended (names.label n) (all_labels (bodies_of p n)); made = names.made; temp = names.temp; room = names.room }

  same_routes : (n : ℕ) → routes_of wide p n ≡ routes_of names p n
  same_routes n = same_all names.home names.temp names.callee (names.callee n) (wide.label n) (names.label n) (bodies_of p n) [] 0 (extended_same (names.label n) (all_labels (bodies_of p n)))

  same_unit : (n : ℕ) (u : EflProcedure) → unit_of wide p n u ≡ unit_of names p n u
  same_unit n u =
      ap {B = Routine} (λ rs. record { header = header_of names (program_variables p) n u; lines = typed_of names p n Integer u.place ++ typed_of names p n Logical u.place ++ all_code (names.made n) rs 0 [] (ending (is_none u.name) u.finish); place = u.place }) (same_routes n)

  same_units : units_of names p ≡ units_of wide p
  same_units = same_map (λ x. unit_of names p x.0 x.1) (λ x. unit_of wide p x.0 x.1) (λ x. sym (same_unit x.0 x.1)) (enumerate_from 0 p.procedures)

  wide_labels : (n : ℕ) (q m : Text) → is_unit p n ≡ true → wide.label n q ≡ wide.label n m → q ≡ m
  wide_labels n q m is = extended_apart (names.label n) (all_labels (bodies_of p n)) (λ a b h k e. are.labels n a b is h k e) q m

  wide_names : AreNames p wide
  wide_names = record {
    apart = are.apart;
    procedures = are.procedures;
    labels = λ n q m is h k e. wide_labels n q m is e;
    numbered = λ n is. subst (λ rs. IsNumbered (names.made n) rs) (sym (same_routes n)) (are.numbered n is);
  }

-- however the places of the units are numbered, a run of them shows what the program means
pub scalar_units_agree : ScalarUnitsAgree
scalar_units_agree p ranks accepted over names are ready l linked codes coded input =
    units_agree p ranks accepted over (wide p names are) (wide_names p names are) (wide_labels p names are) (record { one_main = ready.one_main; no_formals = ready.no_formals; formal = ready.formal; bodies = ready.bodies }) l
    (subst (λ rs. IsLinkage rs l) (same_units p names are) linked) codes (subst (λ rs. AreCodes rs codes) (same_units p names are) coded) input
