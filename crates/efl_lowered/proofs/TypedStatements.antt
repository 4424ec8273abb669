-- Where no part of a statement breaks a rule of types, and the names that they use are fine, its typed statement can be lowered.
use Rattle.std.proofs.Common.{◌≡◌, ◌≤◌, ℕ, ◌+◌, Bool, true, false, true≢false, List, [], ◌∷◌, ◌++◌, map, Option, None, Some, refl, sym, ap, ◌∙◌, subst, arith}
use Rattle.std.specs.Prelude.{ℤ, not, max, ◌||◌, flat_map, option_map, unwrap_or}
use Rattle.std.specs.List.{slice_get}
use Rattle.ground.specs.declared.place.Place.{Place}
use Rattle.ground.specs.declared.value.Kind.{Kind}
use Rattle.ground.specs.declared.value.Kind.TheVariants as kinds
use Rattle.efl_tree.specs.declared.statement.LoopKind.TheVariants as loops
use Rattle.efl_tree.specs.Syntax as efl
use Rattle.efl_tree.specs.Syntax.{Text, EflExpr, EflStmt, Statement, EflKind, Empty, Block, Act, If, IfElse, While, For, Repeat, RepeatUntil, Do, Switch, Break, Next, Return, Goto, Write, Read, EflStmts, NoStmt, AndStmt, EflCases, NoCase, AndCase, EflProcedure}
use Rattle.efl_scope.specs.Parts.{States, Until, Part, Around, part, into, in_loop, in_list, opening, opened, declarations_in, parts_of, parts_within, parts_in, clauses_in}
use Rattle.efl_scope.specs.Marks.{Located}
use Rattle.efl_scope.specs.Uses.{Use, uses_in, uses_of, uses_if, uses_written, uses_read, uses_by}
use Rattle.efl_types.specs.declared.rule.TypeRule.TheVariants.{TypeClash, BadFormat}
use Rattle.efl_types.specs.Signatures.{Result, Nothing, Gives, Unknown, variable_type, result_of}
use Rattle.efl_types.specs.Types.{fits}
use Rattle.efl_types.specs.Expressions.{when, variable_faults, wants, faults}
use Rattle.efl_types.specs.Statements.{is_subroutine, act_if, value_faults, value_if, returns, return_faults, written_faults, read_faults, statement_faults}
use Rattle.efl_types.specs.TypeRules.{names_of, faults_by, part_faults}
use Rattle.efl_program.specs.Typed.{Stmt}
use Rattle.efl_typed.specs.Typing.{Context, numbered, expr_of, action_of, written, taken, stmt_of, kind_of, labelled, stmts_from, clauses_from, context_in, base_names}
use Rattle.efl_typed.proofs.Each.{Each, each_left, each_right}
use Rattle.efl_routes.specs.Expressions.{made, type_of, Scalars}
use Rattle.efl_routes.specs.Statements.{made_if_any, ActIfAny, ConditionIfAny, FitIfAny, Ready, AllReady, ClausesReady}
use Rattle.efl_lowered.specs.Grammatical.{operators_of, operators_if, operators_written, operators_by, operators_in}
use Rattle.efl_lowered.specs.Needs.{of_any, of_items, of_taken, needs, all_need, clauses_need}
use Rattle.efl_lowered.proofs.TypedRules.{not_none, none_left, none_right, none_of_three, none_of_five, holds_by, first_within, second_within}
use Rattle.efl_lowered.proofs.TypedExpressions.{Keeps, IsScalarName, Fine, kind_is, expr_typed}
use Rattle.efl_lowered.proofs.TypedActs.{items_above, taken_above, value_fits, fits_if_any, condition_if_any, act_fits, act_if_any, items_fit, taken_fit}

-- the procedures, their variables, and one of them
module _ (us : List EflProcedure) (xs : List Located) (n : ℕ) (u : EflProcedure) (here : slice_get us n ≡ Some u) where
  abbrev pub at : Around → Context
  at a = context_in us xs (base_names us u) a

  -- what a part of the procedure breaks
  pub part_typed : (v : Part) → v.around.unit ≡ n → part_faults us v ≡ [] → faults_by u (names_of us u v) v.around v.form ≡ []
  part_typed v same h =
      subst (λ o. unwrap_or (option_map (λ w. faults_by w (names_of us w v) v.around v.form) o) [] ≡ []) (ap (slice_get us) same ∙ here) h

  module _ (M : ℕ → Kind → Type 0) (F : ℕ → Kind → ℕ → Type 0) (C : ℕ → ℕ → Type 0) (room : ℕ) (gives : Type 0) (giving : (result_of u.result ≡ Nothing → ⊥) → gives) where
    -- a part breaks no rule of types, and the names that it uses are fine
    pub record IsTypedPart (v : Part) : Type 0 where
      pub faults : part_faults us v ≡ []
      pub fine : Each (Fine M F C (at v.around)) (uses_in v.form)
      pub keeps : Each Keeps (operators_in v.form)

    abbrev pub AreTyped : List Part → Type 0
    AreTyped vs = Each IsTypedPart vs

    abbrev GoodUses : Around → List Use → Type 0
    GoodUses a ws = Each (Fine M F C (at a)) ws

    -- ---- statements by themselves ----

    abbrev KindFaults : Around → EflKind → Type 0
    KindFaults a k = statement_faults (at a).names k ≡ []

    returned : (a : Around) (r : Result) (e : EflExpr) → returns (at a).names r e ≡ [] → r ≡ Nothing → ⊥
    returned a Nothing e h g = not_none TypeClash [] h
    returned a (Gives k) e h g = true≢false (sym (ap is_subroutine g))
    returned a Unknown e h g = true≢false (sym (ap is_subroutine g))

    do_name : (a : Around) (x : Text) → IsScalarName M F C (at a) x → fits kinds.Integer (variable_type (at a).names x) ≡ true → M (numbered (at a) x) kinds.Integer
    do_name a x w h = subst (λ k. M (numbered (at a) x) k) (kind_is M F C (at a) (variable_type (at a).names x) w.0 kinds.Integer w.1 h) w.3

    -- a statement of the tree is ready where there is room
    abbrev IsReady : Stmt → ℕ → Type 0
    IsReady s m = Ready M F C room gives s m

    return_ready : (a : Around) (p : Place) (o : Option EflExpr) → return_faults (at a).names o ≡ [] → GoodUses a (uses_if o) → Each Keeps (operators_if o) → (m : ℕ) →
        m + made_if_any (option_map (expr_of (at a)) o) ≤ room → IsReady (kind_of (at a) p (Return o)) m
    return_ready a p None h g k m l = tt
    return_ready a p (Some e) h g k m l =
        let own = returns (at a).names (result_of u.result) e in
        (giving (returned a (result_of u.result) e (none_left own (faults (at a).names e) h)), ((expr_typed M F C (at a) e (none_right own (faults (at a).names e) h) g k).3, l))

    write_ready : (a : Around) (p : Place) (o : Option EflExpr) (is' : List efl.WriteItem) → KindFaults a (Write o is') → GoodUses a (uses_by (Write o is')) → Each Keeps (operators_by (Write o is')) → (m : ℕ) →
        needs (kind_of (at a) p (Write o is')) m ≤ room → IsReady (kind_of (at a) p (Write o is')) m
    write_ready a p o is' h g k m l =
        let unit = value_if (at a).names kinds.Integer o in
        let each = flat_map (written_faults (at a).names) is' in
        let first = none_left (unit ++ each) (when _ BadFormat) h in
        let next = m + made_if_any (option_map (expr_of (at a)) o) in
        let above : next ≤ of_items (map (written (at a)) is') next = items_above (map (written (at a)) is') next in (
          fits_if_any M F C (at a) room gives o (none_left unit each first) (each_left (Fine M F C (at a)) (uses_if o) (flat_map uses_written is') g) (each_left Keeps (operators_if o) (flat_map operators_written is') k) m (omega (above, l, arith)),
          items_fit M F C (at a) room gives is' (none_right unit each first) (each_right (Fine M F C (at a)) (uses_if o) (flat_map uses_written is') g) (each_right Keeps (operators_if o) (flat_map operators_written is') k) next l,
        )

    read_ready : (a : Around) (p : Place) (o : Option EflExpr) (is' : List efl.ReadItem) → KindFaults a (Read o is') → GoodUses a (uses_by (Read o is')) → Each Keeps (operators_by (Read o is')) → (m : ℕ) →
        needs (kind_of (at a) p (Read o is')) m ≤ room → IsReady (kind_of (at a) p (Read o is')) m
    read_ready a p o is' h g k m l =
        let unit = value_if (at a).names kinds.Integer o in
        let each = flat_map (read_faults (at a).names) is' in
        let first = none_left (unit ++ each) (when _ BadFormat) h in
        let next = m + made_if_any (option_map (expr_of (at a)) o) in
        let above : next ≤ of_taken (map (taken (at a)) is') next = taken_above (map (taken (at a)) is') next in (
          fits_if_any M F C (at a) room gives o (none_left unit each first) (each_left (Fine M F C (at a)) (uses_if o) (flat_map uses_read is') g) k m (omega (above, l, arith)),
          taken_fit M F C (at a) room gives is' (none_right unit each first) (each_right (Fine M F C (at a)) (uses_if o) (flat_map uses_read is') g) next l,
        )

    -- labels change nothing
    needs_alike : (ls : List Text) (p : Place) (s : Stmt) (m : ℕ) → needs (labelled ls p s) m ≡ needs s m
    needs_alike [] p s m = refl
    needs_alike (l ∷ ls) p s m = needs_alike ls p s m

    labelled_ready : (ls : List Text) (p : Place) (s : Stmt) (m : ℕ) → IsReady s m → IsReady (labelled ls p s) m
    labelled_ready [] p s m h = h
    labelled_ready (l ∷ ls) p s m h = labelled_ready ls p s m h

    -- ---- what stands before the statements within ----

    -- the value of a condition, and of a `switch`
    abbrev Valued : Around → Kind → EflExpr → ℕ → Type 0
    Valued a k e m = (type_of (expr_of (at a) e) ≡ k) × (Scalars M F (expr_of (at a) e) × (m + made (expr_of (at a) e) ≤ room))

    valued : (a : Around) (k : Kind) (e : EflExpr) → value_faults (at a).names k e ≡ [] → GoodUses a (uses_of e) → Each Keeps (operators_of e) → (m : ℕ) → m + made (expr_of (at a) e) ≤ room → Valued a k e m
    valued a k e h g o m l = let w = value_fits M F C (at a) room gives k e h g o m l in (w.0, (w.1, w.2))

    abbrev OfFor : Around → Option EflExpr → Option EflExpr → Option EflExpr → ℕ → Type 0
    OfFor a b e d m =
        ActIfAny M F C room gives (option_map (action_of (at a)) b) m × ConditionIfAny M F C room gives (option_map (expr_of (at a)) e) m × ActIfAny M F C room gives (option_map (action_of (at a)) d) m

    abbrev ForNeeds : Around → Option EflExpr → Option EflExpr → Option EflExpr → ℕ → ℕ → ℕ
    ForNeeds a b e d m rest = max (of_any (option_map (action_of (at a)) b) m) (max (m + made_if_any (option_map (expr_of (at a)) e)) (max (of_any (option_map (action_of (at a)) d) m) rest))

    for_ready : (a : Around) (b e d : Option EflExpr) (s : EflStmt) → KindFaults a (For b e d s) → GoodUses a (uses_by (For b e d s)) → Each Keeps (operators_by (For b e d s)) → (m rest : ℕ) →
        ForNeeds a b e d m rest ≤ room → OfFor a b e d m
    for_ready a b e d s h g o m rest l =
        let names = (at a).names in
        let hs = none_of_three (act_if names b) (value_if names kinds.Logical e) (act_if names d) h in
        let g1 = each_right (Fine M F C (at a)) (uses_if b) (uses_if e ++ uses_if d) g in
        let o1 = each_right Keeps (operators_if b) (operators_if e ++ operators_if d) o in
        let l1 = second_within (of_any (option_map (action_of (at a)) b) m) (max (m + made_if_any (option_map (expr_of (at a)) e)) (max (of_any (option_map (action_of (at a)) d) m) rest)) room l in
        let l2 = second_within (m + made_if_any (option_map (expr_of (at a)) e)) (max (of_any (option_map (action_of (at a)) d) m) rest) room l1 in (
          act_if_any M F C (at a) room gives b hs.0 (each_left (Fine M F C (at a)) (uses_if b) (uses_if e ++ uses_if d) g) (each_left Keeps (operators_if b) (operators_if e ++ operators_if d) o) m (first_within _ _ room l),
          condition_if_any M F C (at a) room gives e hs.1 (each_left (Fine M F C (at a)) (uses_if e) (uses_if d) g1) (each_left Keeps (operators_if e) (operators_if d) o1) m (first_within _ _ room l1),
          act_if_any M F C (at a) room gives d hs.2 (each_right (Fine M F C (at a)) (uses_if e) (uses_if d) g1) (each_right Keeps (operators_if e) (operators_if d) o1) m (first_within _ _ room l2),
        )

    -- of `do`, with so many temporaries in use behind its limit and its step
    abbrev Kept : Around → EflExpr → Option EflExpr → ℕ → ℕ
    Kept a e d m = m + made (expr_of (at a) e) + made_if_any (option_map (expr_of (at a)) d)

    abbrev OfDo : Around → Text → EflExpr → EflExpr → Option EflExpr → ℕ → Type 0
    OfDo a x b e d m =
        M (numbered (at a) x) kinds.Integer × Valued a kinds.Integer e m × FitIfAny M F C room gives (option_map (expr_of (at a)) d) (m + made (expr_of (at a) e))
        × (Scalars M F (expr_of (at a) b) × (Kept a e d m + made (expr_of (at a) b) ≤ room)) × (Kept a e d m + 2 ≤ room)

    do_ready : (a : Around) (x : Text) (b e : EflExpr) (d : Option EflExpr) (s : EflStmt) → KindFaults a (Do x b e d s) → GoodUses a (uses_by (Do x b e d s)) → Each Keeps (operators_by (Do x b e d s)) → (m rest : ℕ) →
        max (Kept a e d m + made (expr_of (at a) b)) (max (Kept a e d m + 2) rest) ≤ room → OfDo a x b e d m
    do_ready a x b e d s h g o m rest l =
        let names = (at a).names in
        let hs = none_of_five (when (not (fits kinds.Integer (variable_type names x))) TypeClash) (variable_faults names x) (value_faults names kinds.Integer b) (value_faults names kinds.Integer e) (value_if names kinds.Integer d) h in
        let g1 = each_right (Fine M F C (at a)) (uses_of b) (uses_of e ++ uses_if d) g.1 in
        let o1 = each_right Keeps (operators_of b) (operators_of e ++ operators_if d) o in
        let l1 : Kept a e d m + made (expr_of (at a) b) ≤ room = first_within _ _ room l in
        let l2 : Kept a e d m + 2 ≤ room = first_within _ rest room (second_within (Kept a e d m + made (expr_of (at a) b)) (max (Kept a e d m + 2) rest) room l) in (
          do_name a x g.0 (holds_by (fits kinds.Integer (variable_type names x)) TypeClash hs.0),
          valued a kinds.Integer e hs.3 (each_left (Fine M F C (at a)) (uses_of e) (uses_if d) g1) (each_left Keeps (operators_of e) (operators_if d) o1) m (omega (l2, arith)),
          fits_if_any M F C (at a) room gives d hs.4 (each_right (Fine M F C (at a)) (uses_of e) (uses_if d) g1) (each_right Keeps (operators_of e) (operators_if d) o1) (m + made (expr_of (at a) e)) (omega (l2, arith)),
          ((expr_typed M F C (at a) b (none_right (wants names kinds.Integer b) (faults names b) hs.2) (each_left (Fine M F C (at a)) (uses_of b) (uses_of e ++ uses_if d) g.1) (each_left Keeps (operators_of b) (operators_of e ++ operators_if d) o)).3, l1),
          l2,
        )

    -- ---- statements ----

    mutual
      pub stmt_ready : (a : Around) → a.unit ≡ n → (s : EflStmt) → AreTyped (parts_of a s) → (m : ℕ) → needs (stmt_of (at a) s) m ≤ room → IsReady (stmt_of (at a) s) m
      stmt_ready a same (Statement ls p k) h m l =
          let own = h.0 in
          labelled_ready ls p (kind_of (at a) p k) m
          (kind_ready a same p k (part_typed (part a p (States ls k)) same own.faults) own.fine own.keeps h.1 m (subst (λ j. j ≤ room) (needs_alike ls p (kind_of (at a) p k) m) l))

      kind_ready : (a : Around) → a.unit ≡ n → (p : Place) (k : EflKind) → KindFaults a k → GoodUses a (uses_by k) → Each Keeps (operators_by k) → AreTyped (parts_within a k) → (m : ℕ) →
          needs (kind_of (at a) p k) m ≤ room → IsReady (kind_of (at a) p k) m
      kind_ready a same p Empty f g o h m l = tt
      kind_ready a same p (Block ds ss) f g o h m l =
          stmts_ready 0 (in_list ss (opened ds a)) same ss (each_right IsTypedPart (declarations_in (opening ds a) [] ds) (parts_in 0 (in_list ss (opened ds a)) ss) h) m l
      kind_ready a same p (Act e) f g o h m l = act_fits M F C (at a) room gives e f g o m l
      kind_ready a same p (If e s) f g o h m l = (valued a kinds.Logical e f g o m (first_within _ _ room l), stmt_ready a same s h m (second_within (m + made (expr_of (at a) e)) _ room l))
      kind_ready a same p (IfElse e s t) f g o h m l =
          let l1 = second_within (m + made (expr_of (at a) e)) _ room l in (
            valued a kinds.Logical e f g o m (first_within _ _ room l),
            stmt_ready (into 0 a) same s (each_left IsTypedPart (parts_of (into 0 a) s) (parts_of (into 1 a) t) h) m (first_within _ _ room l1),
            stmt_ready (into 1 a) same t (each_right IsTypedPart (parts_of (into 0 a) s) (parts_of (into 1 a) t) h) m (second_within (needs (stmt_of (at (into 0 a)) s) m) _ room l1),
          )
      kind_ready a same p (While e s) f g o h m l = (valued a kinds.Logical e f g o m (first_within _ _ room l), stmt_ready (in_loop loops.While a) same s h m (second_within (m + made (expr_of (at a) e)) _ room l))
      kind_ready a same p (For b e d s) f g o h m l =
          let inner = in_loop loops.For a in
          let w = for_ready a b e d s f g o m (needs (stmt_of (at inner) s) m) l in
          (w.0, w.1, w.2, stmt_ready inner same s h m (second_within (of_any (option_map (action_of (at a)) d) m) _ room (second_within (m + made_if_any (option_map (expr_of (at a)) e)) _ room (second_within (of_any (option_map (action_of (at a)) b) m) _ room l))))
      kind_ready a same p (Repeat s) f g o h m l = stmt_ready (in_loop loops.Repeat a) same s h m l
      kind_ready a same p (RepeatUntil s e q) f g o h m l =
          let inner = in_loop loops.Repeat a in
          let last = each_right IsTypedPart (parts_of inner s) (part a q (Until e) ∷ []) h in
          let own = last.0 in (
            valued a kinds.Logical e (part_typed (part a q (Until e)) same own.faults) own.fine own.keeps m (first_within _ _ room l),
            stmt_ready inner same s (each_left IsTypedPart (parts_of inner s) (part a q (Until e) ∷ []) h) m (second_within (m + made (expr_of (at a) e)) _ room l),
          )
      kind_ready a same p (Do x b e d s) f g o h m l =
          let inner = in_loop loops.Do a in
          let w = do_ready a x b e d s f g o m (needs (stmt_of (at inner) s) (Kept a e d m)) l in
          (w.0, w.1, w.2, w.3, w.4, stmt_ready inner same s h (Kept a e d m) (second_within (Kept a e d m + 2) _ room (second_within (Kept a e d m + made (expr_of (at a) b)) _ room l)))
      kind_ready a same p (Switch e cs) f g o h m l = (
        valued a kinds.Integer e f g o m (first_within _ _ room l),
        clauses_ready 0 (in_loop loops.Switch a) same [] false cs h (m + made (expr_of (at a) e)) (second_within (m + made (expr_of (at a) e)) _ room l),
      )
      kind_ready a same p (Break i o1) f g o h m l = tt
      kind_ready a same p (Next i o1) f g o h m l = tt
      kind_ready a same p (Return e) f g o h m l = return_ready a p e f g o m l
      kind_ready a same p (Goto q) f g o h m l = tt
      kind_ready a same p (Write e is') f g o h m l = write_ready a p e is' f g o m l
      kind_ready a same p (Read e is') f g o h m l = read_ready a p e is' f g o m l

      pub stmts_ready : (j : ℕ) (a : Around) → a.unit ≡ n → (ss : EflStmts) → AreTyped (parts_in j a ss) → (m : ℕ) → all_need (stmts_from j (at a) ss) m ≤ room → AllReady M F C room gives (stmts_from j (at a) ss) m
      stmts_ready j a same NoStmt h m l = tt
      stmts_ready j a same (AndStmt s ss) h m l = (
        stmt_ready (into j a) same s (each_left IsTypedPart (parts_of (into j a) s) (parts_in (j + 1) a ss) h) m (first_within _ _ room l),
        stmts_ready (j + 1) a same ss (each_right IsTypedPart (parts_of (into j a) s) (parts_in (j + 1) a ss) h) m (second_within (needs (stmt_of (at (into j a)) s) m) _ room l),
      )

      clauses_ready : (j : ℕ) (a : Around) → a.unit ≡ n → (zs : List ℤ) (seen : Bool) (cs : EflCases) → AreTyped (clauses_in j a zs seen cs) → (m : ℕ) →
          clauses_need (clauses_from j (at a) cs) m ≤ room → ClausesReady M F C room gives (clauses_from j (at a) cs) m
      clauses_ready j a same zs seen NoCase h m l = tt
      clauses_ready j a same zs seen (AndCase es fallback ss p cs) h m l =
          let inner = in_list ss (into j a) in let rest = clauses_in (j + 1) a (zs ++ es) (seen || fallback) cs in (
            stmts_ready 0 inner same ss (each_left IsTypedPart (parts_in 0 inner ss) rest h.1) m (first_within _ _ room l),
            clauses_ready (j + 1) a same (zs ++ es) (seen || fallback) cs (each_right IsTypedPart (parts_in 0 inner ss) rest h.1) m (second_within (all_need (stmts_from 0 (at inner) ss) m) _ room l),
          )
