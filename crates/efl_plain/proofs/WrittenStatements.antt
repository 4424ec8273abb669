-- Where no part of a statement breaks a rule of types, the names that they use are fine, and numbers and texts are as tokens give them, its
-- typed statement is written.
use Rattle.std.proofs.Common.{◌≡◌, ◌≤◌, ℕ, ◌+◌, Bool, true, false, List, [], ◌∷◌, ◌++◌, Option, None, Some, refl, sym, ap, ◌∙◌, subst}
use Rattle.std.specs.Prelude.{⊤, ℤ, not, nat_le, ◌||◌, sum_by, flat_map, option_map}
use Rattle.std.specs.List.{list_all, slice_get}
use Rattle.std.proofs.lemmas.Bool.{and_from, leb-true}
use Rattle.ground.specs.declared.place.Place.{Place}
use Rattle.ground.specs.declared.value.Kind.{Kind}
use Rattle.ground.specs.declared.value.Kind.TheVariants as kinds
use Rattle.efl_tree.specs.declared.statement.LoopKind.TheVariants as loops
use Rattle.efl_tree.specs.Syntax as efl
use Rattle.efl_tree.specs.Syntax.{Text, EflExpr, EflStmt, Statement, EflKind, Empty, Block, Act, If, IfElse, While, For, Repeat, RepeatUntil, Do, Switch, Break, Next, Return, Goto, Write, Read, EflStmts, NoStmt, AndStmt, EflCases, NoCase, AndCase, EflProcedure}
use Rattle.efl_scope.specs.Parts.{States, Until, Part, Around, part, into, in_loop, in_list, opening, opened, declarations_in, parts_of, parts_within, parts_in, clauses_in}
use Rattle.efl_scope.specs.Marks.{Located}
use Rattle.efl_scope.specs.Uses.{uses_of, uses_if, uses_written, uses_read, uses_by}
use Rattle.efl_types.specs.declared.rule.TypeRule.TheVariants.{TypeClash, BadFormat}
use Rattle.efl_types.specs.Signatures.{Result, Nothing, Gives, Unknown, variable_type, result_of}
use Rattle.efl_types.specs.Types.{fits}
use Rattle.efl_types.specs.Expressions.{when, variable_faults, wants, faults}
use Rattle.efl_types.specs.Statements.{act_if, value_faults, value_if, returns, is_width, written_width, read_width, written_faults, read_faults, statement_faults}
use Rattle.efl_program.specs.Typed.{Stmt}
use Rattle.efl_typed.specs.Typing.{Context, expr_of, action_of, stmt_of, kind_of, labelled, stmts_from, clauses_from}
use Rattle.efl_typed.proofs.Each.{Each, each_left, each_right}
use Rattle.efl_typed.proofs.FoundLemmas.{neither, denied}
use Rattle.efl_routes.specs.Expressions.{type_of}
use Rattle.efl_lowered.specs.Grammatical.{operators_of, operators_if, operators_written, operators_by}
use Rattle.efl_lowered.proofs.TypedRules.{not_none, none_left, none_right, none_of_three, none_of_five, fails}
use Rattle.efl_lowered.proofs.TypedExpressions.{Fine}
use Rattle.efl_lowered.proofs.TypedStatements.{at, part_typed, IsTypedPart}
use Rattle.efl_plain.specs.Written.{IsWritten, WrittenIfAny, is_case, ActionIfAny, StmtIsWritten, AllWritten, ClausesAreWritten}
use Rattle.efl_plain.specs.Tree.{numbers_of, numbers_if, numbers_written, numbers_read, numbers_by, numbers_in, constants_in, text_written, texts_in}
use Rattle.efl_plain.proofs.WrittenExpressions.{Constant}
use Rattle.efl_plain.proofs.WrittenActs.{Printed, Good, GoodIn, good_left, good_right, value_written, value_if_any, act_written, act_if_any, items_written, taken_written, written_widths, taken_widths}

-- a constant of a clause
abbrev pub Case : ℤ → Type 0
Case z = is_case z ≡ true

all_cases : (zs : List ℤ) → Each Case zs → list_all is_case zs ≡ true
all_cases [] h = refl
all_cases (z ∷ zs) h = and_from (is_case z) (list_all is_case zs) h.0 (all_cases zs h.1)

-- what tokens give of a part
pub record IsWrittenPart (v : Part) : Type 0 where
  pub numbers : Each Constant (numbers_in v.form)
  pub constants : Each Case (constants_in v.form)
  pub texts : Each Printed (texts_in v.form)

-- the procedures, their variables, and one of them
module _ (us : List EflProcedure) (xs : List Located) (n : ℕ) (u : EflProcedure) (here : slice_get us n ≡ Some u) where
  abbrev at1 : Around → Context
  at1 a = at us xs n u here a

  module _ (M : ℕ → Kind → Type 0) (F : ℕ → Kind → ℕ → Type 0) (C : ℕ → ℕ → Type 0) where
    -- a part breaks no rule of types, and what it names and has is fine
    abbrev pub IsGoodPart : Part → Type 0
    IsGoodPart v = IsTypedPart us xs n u here M F C 0 ⊤ (λ h. tt) v × IsWrittenPart v

    abbrev pub AreGood : List Part → Type 0
    AreGood vs = Each IsGoodPart vs

    -- it gives a value of the type K if it gives one
    module _ (K : Kind) (giving : (k : Kind) → result_of u.result ≡ Gives k → k ≡ K) (known : result_of u.result ≡ Unknown → ⊥) where
      abbrev KindFaults : Around → EflKind → Type 0
      KindFaults a k = statement_faults (at1 a).names k ≡ []

      -- the uses, operators and numbers of a statement without those in it
      abbrev GoodBy : Around → EflKind → Type 0
      GoodBy a k = Good M F C (at1 a) (uses_by k) (operators_by k) (numbers_by k)

      abbrev Valued : Around → Kind → EflExpr → Type 0
      Valued a k e = (type_of (expr_of (at1 a) e) ≡ k) × IsWritten (expr_of (at1 a) e)

      abbrev IsWritten1 : Stmt → Type 0
      IsWritten1 s = StmtIsWritten K s

      valued : (a : Around) (k : Kind) (e : EflExpr) → value_faults (at1 a).names k e ≡ [] → GoodIn M F C (at1 a) e → Valued a k e
      valued a k e h g = value_written M F C (at1 a) k e h g

      -- ---- statements by themselves ----

      returned : (a : Around) (r : Result) (e : EflExpr) → result_of u.result ≡ r → returns (at1 a).names r e ≡ [] → wants (at1 a).names K e ≡ []
      returned a Nothing e s h = absurd (not_none TypeClash [] h)
      returned a (Gives k) e s h = subst (λ j. wants (at1 a).names j e ≡ []) (giving k s) h
      returned a Unknown e s h = absurd (known s)

      both_none : (a : Around) (e : EflExpr) → wants (at1 a).names K e ≡ [] → faults (at1 a).names e ≡ [] → value_faults (at1 a).names K e ≡ []
      both_none a e h g = ap (λ rs. rs ++ faults (at1 a).names e) h ∙ g

      return_written : (a : Around) (p : Place) (o : Option EflExpr) → KindFaults a (Return o) → GoodBy a (Return o) → IsWritten1 (kind_of (at1 a) p (Return o))
      return_written a p None h g = tt
      return_written a p (Some e) h g =
          let own = returns (at1 a).names (result_of u.result) e in
          let rest = faults (at1 a).names e in valued a K e (both_none a e (returned a (result_of u.result) e refl (none_left own rest h)) (none_right own rest h)) g

      -- widths and their sum are in their range
      fit_widths : (a b : Bool) → when (not a || not b) BadFormat ≡ [] → a ≡ true
      fit_widths a b h = denied a (neither (not a) (not b) (fails (not a || not b) BadFormat h)).0

      fit_sums : (a : Bool) (m : ℕ) → when (not a || not (nat_le m 132)) BadFormat ≡ [] → m ≤ 132
      fit_sums a m h = leb-true m 132 (denied (nat_le m 132) (neither (not a) (not (nat_le m 132)) (fails (not a || not (nat_le m 132)) BadFormat h)).1)

      write_written : (a : Around) (p : Place) (o : Option EflExpr) (is' : List efl.WriteItem) → KindFaults a (Write o is') → GoodBy a (Write o is') → Each Printed (flat_map text_written is') →
          IsWritten1 (kind_of (at1 a) p (Write o is'))
      write_written a p o is' h g t =
          let c = at1 a in
          let hs = none_of_three (value_if c.names kinds.Integer o) (flat_map (written_faults c.names) is') (when (not (list_all (λ i. is_width (written_width i)) is') || not (nat_le (sum_by written_width is') 132)) BadFormat) h in
          let us1 = flat_map uses_written is' in
          let os1 = flat_map operators_written is' in
          let zs1 = flat_map numbers_written is' in (
            value_if_any M F C c kinds.Integer o hs.0 (good_left M F C c (uses_if o) us1 (operators_if o) os1 (numbers_if o) zs1 g),
            items_written M F C c is' hs.1 (good_right M F C c (uses_if o) us1 (operators_if o) os1 (numbers_if o) zs1 g) t (fit_widths (list_all (λ i. is_width (written_width i)) is') (nat_le (sum_by written_width is') 132) hs.2),
            subst (λ m. m ≤ 132) (sym (written_widths c is')) (fit_sums (list_all (λ i. is_width (written_width i)) is') (sum_by written_width is') hs.2),
          )

      read_written : (a : Around) (p : Place) (o : Option EflExpr) (is' : List efl.ReadItem) → KindFaults a (Read o is') → GoodBy a (Read o is') → IsWritten1 (kind_of (at1 a) p (Read o is'))
      read_written a p o is' h g =
          let c = at1 a in
          let hs = none_of_three (value_if c.names kinds.Integer o) (flat_map (read_faults c.names) is') (when (not (list_all (λ i. is_width (read_width i)) is') || not (nat_le (sum_by read_width is') 132)) BadFormat) h in (
            value_if_any M F C c kinds.Integer o hs.0 (each_left (Fine M F C c) (uses_if o) (flat_map uses_read is') g.0, g.1, each_left Constant (numbers_if o) (flat_map numbers_read is') g.2),
            taken_written M F C c is' (fit_widths (list_all (λ i. is_width (read_width i)) is') (nat_le (sum_by read_width is') 132) hs.2),
            subst (λ m. m ≤ 132) (sym (taken_widths c is')) (fit_sums (list_all (λ i. is_width (read_width i)) is') (sum_by read_width is') hs.2),
          )

      labelled_written : (ls : List Text) (p : Place) (s : Stmt) → IsWritten1 s → IsWritten1 (labelled ls p s)
      labelled_written [] p s h = h
      labelled_written (l ∷ ls) p s h = labelled_written ls p s h

      -- ---- what stands before the statements within ----

      abbrev OfFor : Around → Option EflExpr → Option EflExpr → Option EflExpr → Type 0
      OfFor a b e d =
          ActionIfAny (option_map (action_of (at1 a)) b) × WrittenIfAny (option_map (expr_of (at1 a)) e) × ActionIfAny (option_map (action_of (at1 a)) d)

      for_written : (a : Around) (b e d : Option EflExpr) (s : EflStmt) → KindFaults a (For b e d s) → GoodBy a (For b e d s) → OfFor a b e d
      for_written a b e d s h g =
          let c = at1 a in
          let hs = none_of_three (act_if c.names b) (value_if c.names kinds.Logical e) (act_if c.names d) h in
          let g1 = good_right M F C c (uses_if b) (uses_if e ++ uses_if d) (operators_if b) (operators_if e ++ operators_if d) (numbers_if b) (numbers_if e ++ numbers_if d) g in (
            act_if_any M F C c b hs.0 (good_left M F C c (uses_if b) (uses_if e ++ uses_if d) (operators_if b) (operators_if e ++ operators_if d) (numbers_if b) (numbers_if e ++ numbers_if d) g),
            value_if_any M F C c kinds.Logical e hs.1 (good_left M F C c (uses_if e) (uses_if d) (operators_if e) (operators_if d) (numbers_if e) (numbers_if d) g1),
            act_if_any M F C c d hs.2 (good_right M F C c (uses_if e) (uses_if d) (operators_if e) (operators_if d) (numbers_if e) (numbers_if d) g1),
          )

      abbrev OfDo : Around → EflExpr → EflExpr → Option EflExpr → Type 0
      OfDo a b e d = Valued a kinds.Integer b × IsWritten (expr_of (at1 a) e) × WrittenIfAny (option_map (expr_of (at1 a)) d)

      do_written : (a : Around) (x : Text) (b e : EflExpr) (d : Option EflExpr) (s : EflStmt) → KindFaults a (Do x b e d s) → GoodBy a (Do x b e d s) → OfDo a b e d
      do_written a x b e d s h g =
          let c = at1 a in
          let hs = none_of_five (when (not (fits kinds.Integer (variable_type c.names x))) TypeClash) (variable_faults c.names x) (value_faults c.names kinds.Integer b) (value_faults c.names kinds.Integer e) (value_if c.names kinds.Integer d) h in
          let g0 : Good M F C c (uses_of b ++ (uses_of e ++ uses_if d)) (operators_of b ++ (operators_of e ++ operators_if d)) (numbers_of b ++ (numbers_of e ++ numbers_if d)) = (g.0.1, g.1, g.2) in
          let g1 = good_right M F C c (uses_of b) (uses_of e ++ uses_if d) (operators_of b) (operators_of e ++ operators_if d) (numbers_of b) (numbers_of e ++ numbers_if d) g0 in (
            valued a kinds.Integer b hs.2 (good_left M F C c (uses_of b) (uses_of e ++ uses_if d) (operators_of b) (operators_of e ++ operators_if d) (numbers_of b) (numbers_of e ++ numbers_if d) g0),
            (valued a kinds.Integer e hs.3 (good_left M F C c (uses_of e) (uses_if d) (operators_of e) (operators_if d) (numbers_of e) (numbers_if d) g1)).1,
            value_if_any M F C c kinds.Integer d hs.4 (good_right M F C c (uses_of e) (uses_if d) (operators_of e) (operators_if d) (numbers_of e) (numbers_if d) g1),
          )

      -- ---- statements ----

      mutual
        stmt_written : (a : Around) → a.unit ≡ n → (s : EflStmt) → AreGood (parts_of a s) → IsWritten1 (stmt_of (at1 a) s)
        stmt_written a same (Statement ls p k) h =
            let typed = h.0.0 in
            let own = h.0.1 in
            labelled_written ls p (kind_of (at1 a) p k)
            (kind_written a same p k ls (part_typed us xs n u here (part a p (States ls k)) same typed.faults) (typed.fine, typed.keeps, own.numbers) own.texts h.1)

        kind_written : (a : Around) → a.unit ≡ n → (p : Place) (k : EflKind) (ls : List Text) → KindFaults a k → GoodBy a k → Each Printed (texts_in (States ls k)) → AreGood (parts_within a k) →
            IsWritten1 (kind_of (at1 a) p k)
        kind_written a same p Empty ls f g t h = tt
        kind_written a same p (Block ds ss) ls f g t h =
            stmts_written 0 (in_list ss (opened ds a)) same ss (each_right IsGoodPart (declarations_in (opening ds a) [] ds) (parts_in 0 (in_list ss (opened ds a)) ss) h)
        kind_written a same p (Act e) ls f g t h = act_written M F C (at1 a) e f g
        kind_written a same p (If e s) ls f g t h = ((valued a kinds.Logical e f g).1, stmt_written a same s h)
        kind_written a same p (IfElse e s s1) ls f g t h = (
          (valued a kinds.Logical e f g).1,
          stmt_written (into 0 a) same s (each_left IsGoodPart (parts_of (into 0 a) s) (parts_of (into 1 a) s1) h),
          stmt_written (into 1 a) same s1 (each_right IsGoodPart (parts_of (into 0 a) s) (parts_of (into 1 a) s1) h),
        )
        kind_written a same p (While e s) ls f g t h = ((valued a kinds.Logical e f g).1, stmt_written (in_loop loops.While a) same s h)
        kind_written a same p (For b e d s) ls f g t h = let w = for_written a b e d s f g in (w.0, w.1, w.2, stmt_written (in_loop loops.For a) same s h)
        kind_written a same p (Repeat s) ls f g t h = stmt_written (in_loop loops.Repeat a) same s h
        kind_written a same p (RepeatUntil s e q) ls f g t h =
            let inner = in_loop loops.Repeat a in
            let last = (each_right IsGoodPart (parts_of inner s) (part a q (Until e) ∷ []) h).0 in
            let typed = last.0 in
            let own = last.1 in (
              stmt_written inner same s (each_left IsGoodPart (parts_of inner s) (part a q (Until e) ∷ []) h),
              (valued a kinds.Logical e (part_typed us xs n u here (part a q (Until e)) same typed.faults) (typed.fine, typed.keeps, own.numbers)).1,
            )
        kind_written a same p (Do x b e d s) ls f g t h = let w = do_written a x b e d s f g in (w.0, w.1, w.2, stmt_written (in_loop loops.Do a) same s h)
        kind_written a same p (Switch e cs) ls f g t h = ((valued a kinds.Integer e f g).1, clauses_written 0 (in_loop loops.Switch a) same [] false cs h)
        kind_written a same p (Break i o1) ls f g t h = tt
        kind_written a same p (Next i o1) ls f g t h = tt
        kind_written a same p (Return e) ls f g t h = return_written a p e f g
        kind_written a same p (Goto q) ls f g t h = tt
        kind_written a same p (Write e is') ls f g t h = write_written a p e is' f g t
        kind_written a same p (Read e is') ls f g t h = read_written a p e is' f g

        pub stmts_written : (j : ℕ) (a : Around) → a.unit ≡ n → (ss : EflStmts) → AreGood (parts_in j a ss) → AllWritten K (stmts_from j (at1 a) ss)
        stmts_written j a same NoStmt h = tt
        stmts_written j a same (AndStmt s ss) h = (
          stmt_written (into j a) same s (each_left IsGoodPart (parts_of (into j a) s) (parts_in (j + 1) a ss) h),
          stmts_written (j + 1) a same ss (each_right IsGoodPart (parts_of (into j a) s) (parts_in (j + 1) a ss) h),
        )

        clauses_written : (j : ℕ) (a : Around) → a.unit ≡ n → (zs : List ℤ) (seen : Bool) (cs : EflCases) → AreGood (clauses_in j a zs seen cs) → ClausesAreWritten K (clauses_from j (at1 a) cs)
        clauses_written j a same zs seen NoCase h = tt
        clauses_written j a same zs seen (AndCase es fallback ss p cs) h =
            let own = h.0.1 in
            let inner = in_list ss (into j a) in
            let rest = clauses_in (j + 1) a (zs ++ es) (seen || fallback) cs in (
              all_cases es own.constants,
              stmts_written 0 inner same ss (each_left IsGoodPart (parts_in 0 inner ss) rest h.1),
              clauses_written (j + 1) a same (zs ++ es) (seen || fallback) cs (each_right IsGoodPart (parts_in 0 inner ss) rest h.1),
            )
