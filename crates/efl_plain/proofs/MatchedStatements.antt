-- Where no part of a statement breaks a rule of types, and the names that they use are fine, each actual of a call in its typed statement has
-- the type of its formal.
use Rattle.std.proofs.Common.{◌≡◌, ℕ, ◌+◌, Bool, false, List, [], ◌∷◌, ◌++◌, Option, None, Some}
use Rattle.std.specs.Prelude.{⊤, ℤ, not, nat_le, ◌||◌, sum_by, flat_map, option_map}
use Rattle.std.specs.List.{list_all, slice_get}
use Rattle.ground.specs.declared.place.Place.{Place}
use Rattle.ground.specs.declared.value.Kind.{Kind}
use Rattle.ground.specs.declared.value.Kind.TheVariants as kinds
use Rattle.efl_tree.specs.declared.statement.LoopKind.TheVariants as loops
use Rattle.efl_tree.specs.Syntax as efl
use Rattle.efl_tree.specs.Syntax.{Text, EflExpr, EflStmt, Statement, EflKind, Empty, Block, Act, If, IfElse, While, For, Repeat, RepeatUntil, Do, Switch, Break, Next, Return, Goto, Write, Read, EflStmts, NoStmt, AndStmt, EflCases, NoCase, AndCase, EflProcedure, EflProgram}
use Rattle.efl_scope.specs.Parts.{States, Until, Part, Around, part, into, in_loop, in_list, opening, opened, declarations_in, parts_of, parts_within, parts_in, clauses_in}
use Rattle.efl_scope.specs.Marks.{Located}
use Rattle.efl_scope.specs.Uses.{uses_of, uses_if, uses_written, uses_read, uses_by}
use Rattle.efl_types.specs.declared.rule.TypeRule.TheVariants.{TypeClash, BadFormat}
use Rattle.efl_types.specs.Signatures.{variable_type, result_of}
use Rattle.efl_types.specs.Types.{fits}
use Rattle.efl_types.specs.Expressions.{when, variable_faults, faults}
use Rattle.efl_types.specs.Statements.{act_if, value_faults, value_if, returns, is_width, written_width, read_width, written_faults, read_faults, statement_faults}
use Rattle.efl_program.specs.Typed.{Stmt}
use Rattle.efl_typed.specs.Typing.{Context, expr_of, action_of, stmt_of, kind_of, labelled, stmts_from, clauses_from}
use Rattle.efl_typed.proofs.Each.{Each, each_left, each_right}
use Rattle.efl_lowered.specs.Grammatical.{operators_of, operators_if, operators_written, operators_by}
use Rattle.efl_lowered.proofs.TypedRules.{none_right, none_of_three, none_of_five}
use Rattle.efl_lowered.proofs.TypedExpressions.{Fine}
use Rattle.efl_lowered.proofs.TypedStatements.{at, part_typed, IsTypedPart}
use Rattle.efl_plain.specs.Matched.{ExprCalls, CallsIfAny, ActionIfAny, StmtCalls, StmtsCall, ClausesCall}
use Rattle.efl_plain.proofs.FormalTypes.{KnowsFormals}
use Rattle.efl_plain.proofs.MatchedExpressions.{Fit, expr_matched}
use Rattle.efl_plain.proofs.MatchedActs.{IsGood, GoodIn, good_left, good_right, value_matched, value_if_any, act_matched, act_if_any, items_matched}

-- the procedures, their variables, and one of them
module _ (q : EflProgram) (us : List EflProcedure) (xs : List Located) (n : ℕ) (u : EflProcedure) (here : slice_get us n ≡ Some u) where
  abbrev at1 : Around → Context
  at1 a = at us xs n u here a

  module _ (M : ℕ → Kind → Type 0) (F : ℕ → Kind → ℕ → Type 0) (C : ℕ → ℕ → Type 0) (known : (a : Around) → KnowsFormals q (at1 a)) where
    -- a part breaks no rule of types, and what it names is fine
    abbrev pub IsGoodPart : Part → Type 0
    IsGoodPart v = IsTypedPart us xs n u here M F C 0 ⊤ (λ h. tt) v

    abbrev AreGood : List Part → Type 0
    AreGood vs = Each IsGoodPart vs

    abbrev KindFaults : Around → EflKind → Type 0
    KindFaults a k = statement_faults (at1 a).names k ≡ []

    -- the uses and operators of a statement without those in it
    abbrev GoodBy : Around → EflKind → Type 0
    GoodBy a k = IsGood q M F C (at1 a) (known a) (uses_by k) (operators_by k)

    abbrev Matched : Around → EflExpr → Type 0
    Matched a e = ExprCalls (Fit q) (expr_of (at1 a) e)

    abbrev IsMatched : Stmt → Type 0
    IsMatched s = StmtCalls (Fit q) s

    matched : (a : Around) (k : Kind) (e : EflExpr) → value_faults (at1 a).names k e ≡ [] → GoodIn q M F C (at1 a) (known a) e → Matched a e
    matched a k e h g = value_matched q M F C (at1 a) (known a) k e h g

    -- ---- statements by themselves ----

    return_matched : (a : Around) (p : Place) (o : Option EflExpr) → KindFaults a (Return o) → GoodBy a (Return o) → IsMatched (kind_of (at1 a) p (Return o))
    return_matched a p None h g = tt
    return_matched a p (Some e) h g = expr_matched q M F C (at1 a) (known a) e (none_right (returns (at1 a).names (result_of u.result) e) (faults (at1 a).names e) h) g.0 g.1

    write_matched : (a : Around) (p : Place) (o : Option EflExpr) (is' : List efl.WriteItem) → KindFaults a (Write o is') → GoodBy a (Write o is') → IsMatched (kind_of (at1 a) p (Write o is'))
    write_matched a p o is' h g =
        let c = at1 a in
        let hs = none_of_three (value_if c.names kinds.Integer o) (flat_map (written_faults c.names) is') (when (not (list_all (λ i. is_width (written_width i)) is') || not (nat_le (sum_by written_width is') 132)) BadFormat) h in
        let us1 = flat_map uses_written is' in
        let os1 = flat_map operators_written is' in (
          value_if_any q M F C c (known a) kinds.Integer o hs.0 (good_left q M F C c (known a) (uses_if o) us1 (operators_if o) os1 g),
          items_matched q M F C c (known a) is' hs.1 (good_right q M F C c (known a) (uses_if o) us1 (operators_if o) os1 g),
        )

    read_matched : (a : Around) (p : Place) (o : Option EflExpr) (is' : List efl.ReadItem) → KindFaults a (Read o is') → GoodBy a (Read o is') → IsMatched (kind_of (at1 a) p (Read o is'))
    read_matched a p o is' h g =
        let c = at1 a in
        let hs = none_of_three (value_if c.names kinds.Integer o) (flat_map (read_faults c.names) is') (when (not (list_all (λ i. is_width (read_width i)) is') || not (nat_le (sum_by read_width is') 132)) BadFormat) h in
        value_if_any q M F C c (known a) kinds.Integer o hs.0 (each_left (Fine M F C c) (uses_if o) (flat_map uses_read is') g.0, g.1)

    labelled_matched : (ls : List Text) (p : Place) (s : Stmt) → IsMatched s → IsMatched (labelled ls p s)
    labelled_matched [] p s h = h
    labelled_matched (l ∷ ls) p s h = labelled_matched ls p s h

    -- ---- what stands before the statements within ----

    abbrev OfFor : Around → Option EflExpr → Option EflExpr → Option EflExpr → Type 0
    OfFor a b e d =
        ActionIfAny (Fit q) (option_map (action_of (at1 a)) b) × CallsIfAny (Fit q) (option_map (expr_of (at1 a)) e) × ActionIfAny (Fit q) (option_map (action_of (at1 a)) d)

    for_matched : (a : Around) (b e d : Option EflExpr) (s : EflStmt) → KindFaults a (For b e d s) → GoodBy a (For b e d s) → OfFor a b e d
    for_matched a b e d s h g =
        let c = at1 a in
        let hs = none_of_three (act_if c.names b) (value_if c.names kinds.Logical e) (act_if c.names d) h in
        let g1 = good_right q M F C c (known a) (uses_if b) (uses_if e ++ uses_if d) (operators_if b) (operators_if e ++ operators_if d) g in (
          act_if_any q M F C c (known a) b hs.0 (good_left q M F C c (known a) (uses_if b) (uses_if e ++ uses_if d) (operators_if b) (operators_if e ++ operators_if d) g),
          value_if_any q M F C c (known a) kinds.Logical e hs.1 (good_left q M F C c (known a) (uses_if e) (uses_if d) (operators_if e) (operators_if d) g1),
          act_if_any q M F C c (known a) d hs.2 (good_right q M F C c (known a) (uses_if e) (uses_if d) (operators_if e) (operators_if d) g1),
        )

    abbrev OfDo : Around → EflExpr → EflExpr → Option EflExpr → Type 0
    OfDo a b e d = Matched a b × Matched a e × CallsIfAny (Fit q) (option_map (expr_of (at1 a)) d)

    do_matched : (a : Around) (x : Text) (b e : EflExpr) (d : Option EflExpr) (s : EflStmt) → KindFaults a (Do x b e d s) → GoodBy a (Do x b e d s) → OfDo a b e d
    do_matched a x b e d s h g =
        let c = at1 a in
        let hs = none_of_five (when (not (fits kinds.Integer (variable_type c.names x))) TypeClash) (variable_faults c.names x) (value_faults c.names kinds.Integer b) (value_faults c.names kinds.Integer e) (value_if c.names kinds.Integer d) h in
        let g0 : IsGood q M F C c (known a) (uses_of b ++ (uses_of e ++ uses_if d)) (operators_of b ++ (operators_of e ++ operators_if d)) = (g.0.1, g.1) in
        let g1 = good_right q M F C c (known a) (uses_of b) (uses_of e ++ uses_if d) (operators_of b) (operators_of e ++ operators_if d) g0 in (
          matched a kinds.Integer b hs.2 (good_left q M F C c (known a) (uses_of b) (uses_of e ++ uses_if d) (operators_of b) (operators_of e ++ operators_if d) g0),
          matched a kinds.Integer e hs.3 (good_left q M F C c (known a) (uses_of e) (uses_if d) (operators_of e) (operators_if d) g1),
          value_if_any q M F C c (known a) kinds.Integer d hs.4 (good_right q M F C c (known a) (uses_of e) (uses_if d) (operators_of e) (operators_if d) g1),
        )

    -- ---- statements ----

    mutual
      stmt_matched : (a : Around) → a.unit ≡ n → (s : EflStmt) → AreGood (parts_of a s) → IsMatched (stmt_of (at1 a) s)
      stmt_matched a same (Statement ls p k) h =
          let own = h.0 in
          labelled_matched ls p (kind_of (at1 a) p k) (kind_matched a same p k (part_typed us xs n u here (part a p (States ls k)) same own.faults) (own.fine, own.keeps) h.1)

      kind_matched : (a : Around) → a.unit ≡ n → (p : Place) (k : EflKind) → KindFaults a k → GoodBy a k → AreGood (parts_within a k) → IsMatched (kind_of (at1 a) p k)
      kind_matched a same p Empty f g h = tt
      kind_matched a same p (Block ds ss) f g h =
          stmts_matched 0 (in_list ss (opened ds a)) same ss (each_right IsGoodPart (declarations_in (opening ds a) [] ds) (parts_in 0 (in_list ss (opened ds a)) ss) h)
      kind_matched a same p (Act e) f g h = act_matched q M F C (at1 a) (known a) e f g
      kind_matched a same p (If e s) f g h = (matched a kinds.Logical e f g, stmt_matched a same s h)
      kind_matched a same p (IfElse e s t) f g h = (
        matched a kinds.Logical e f g,
        stmt_matched (into 0 a) same s (each_left IsGoodPart (parts_of (into 0 a) s) (parts_of (into 1 a) t) h),
        stmt_matched (into 1 a) same t (each_right IsGoodPart (parts_of (into 0 a) s) (parts_of (into 1 a) t) h),
      )
      kind_matched a same p (While e s) f g h = (matched a kinds.Logical e f g, stmt_matched (in_loop loops.While a) same s h)
      kind_matched a same p (For b e d s) f g h = let w = for_matched a b e d s f g in (w.0, w.1, w.2, stmt_matched (in_loop loops.For a) same s h)
      kind_matched a same p (Repeat s) f g h = stmt_matched (in_loop loops.Repeat a) same s h
      kind_matched a same p (RepeatUntil s e z) f g h =
          let inner = in_loop loops.Repeat a in
          let last = (each_right IsGoodPart (parts_of inner s) (part a z (Until e) ∷ []) h).0 in (
            stmt_matched inner same s (each_left IsGoodPart (parts_of inner s) (part a z (Until e) ∷ []) h),
            matched a kinds.Logical e (part_typed us xs n u here (part a z (Until e)) same last.faults) (last.fine, last.keeps),
          )
      kind_matched a same p (Do x b e d s) f g h = let w = do_matched a x b e d s f g in (w.0, w.1, w.2, stmt_matched (in_loop loops.Do a) same s h)
      kind_matched a same p (Switch e cs) f g h = (matched a kinds.Integer e f g, clauses_matched 0 (in_loop loops.Switch a) same [] false cs h)
      kind_matched a same p (Break i o1) f g h = tt
      kind_matched a same p (Next i o1) f g h = tt
      kind_matched a same p (Return e) f g h = return_matched a p e f g
      kind_matched a same p (Goto l) f g h = tt
      kind_matched a same p (Write e is') f g h = write_matched a p e is' f g
      kind_matched a same p (Read e is') f g h = read_matched a p e is' f g

      pub stmts_matched : (j : ℕ) (a : Around) → a.unit ≡ n → (ss : EflStmts) → AreGood (parts_in j a ss) → StmtsCall (Fit q) (stmts_from j (at1 a) ss)
      stmts_matched j a same NoStmt h = tt
      stmts_matched j a same (AndStmt s ss) h = (
        stmt_matched (into j a) same s (each_left IsGoodPart (parts_of (into j a) s) (parts_in (j + 1) a ss) h),
        stmts_matched (j + 1) a same ss (each_right IsGoodPart (parts_of (into j a) s) (parts_in (j + 1) a ss) h),
      )

      clauses_matched : (j : ℕ) (a : Around) → a.unit ≡ n → (zs : List ℤ) (seen : Bool) (cs : EflCases) → AreGood (clauses_in j a zs seen cs) → ClausesCall (Fit q) (clauses_from j (at1 a) cs)
      clauses_matched j a same zs seen NoCase h = tt
      clauses_matched j a same zs seen (AndCase es fallback ss p cs) h =
          let inner = in_list ss (into j a) in
          let rest = clauses_in (j + 1) a (zs ++ es) (seen || fallback) cs in (
            stmts_matched 0 inner same ss (each_left IsGoodPart (parts_in 0 inner ss) rest h.1),
            clauses_matched (j + 1) a same (zs ++ es) (seen || fallback) cs (each_right IsGoodPart (parts_in 0 inner ss) rest h.1),
          )
