-- Conditions, acts and items that break no rule of types fit, where there is room for their temporaries.
use Rattle.std.proofs.Common.{◌≡◌, ◌≤◌, ℕ, ◌+◌, true, true≢false, List, [], ◌∷◌, ◌++◌, map, length, Option, None, Some, refl, sym, ◌∙◌, subst, arith}
use Rattle.std.specs.Prelude.{not, ◌||◌, nat_eq, flat_map, option_map}
use Rattle.std.proofs.lemmas.Bool.{eqb-true}
use Rattle.ground.specs.declared.value.Kind.{Kind}
use Rattle.ground.specs.declared.value.Kind.TheVariants as kinds
use Rattle.efl_tree.specs.declared.statement.EflEdit.{EflEdit}
use Rattle.efl_tree.specs.declared.statement.EflEdit.TheVariants as edits
use Rattle.efl_tree.specs.Syntax as efl
use Rattle.efl_tree.specs.Syntax.{Text, EflExpr, EflExprs, EflPlace}
use Rattle.efl_scope.specs.Uses.{Use, uses_of, uses_at, uses_if, uses_written, uses_read}
use Rattle.efl_types.specs.declared.rule.TypeRule.TheVariants.{TypeClash, WrongCount, MissingUnit}
use Rattle.efl_types.specs.Signatures.{Result, Nothing, Gives, Unknown, Callee, Procedure, Intrinsic, Missing, callee, is_variable, many}
use Rattle.efl_types.specs.Expressions.{when, wants, take_actuals, actual_faults, store_wants, faults, faults_of_all, place_faults}
use Rattle.efl_types.specs.Statements.{is_subroutine, may_be_called, act_faults, act_if, value_faults, value_if, edited, written_faults, read_faults}
use Rattle.efl_program.specs.Typed.{WriteItem, Value, Skip, Chars, ReadItem, Take, Pass}
use Rattle.efl_program.specs.Meaning.{kind_by}
use Rattle.efl_typed.specs.Typing.{Context, called, expr_of, exprs_of, invoke, action_of, edit_of, written, taken}
use Rattle.efl_typed.proofs.Each.{Each, each_left, each_right}
use Rattle.efl_typed.proofs.FoundLemmas.{neither, denied}
use Rattle.efl_routes.specs.Expressions.{made, type_of, count, AllScalars, Scalars}
use Rattle.efl_routes.specs.Statements.{made_if_any, ConditionIfAny, FitAct, ActIfAny, ItemsFit, TakenFit, FitIfAny}
use Rattle.efl_lowered.specs.Grammatical.{operators_of, operators_of_all, operators_if, operators_written}
use Rattle.efl_lowered.specs.Needs.{of_act, of_any, of_items, of_taken}
use Rattle.efl_lowered.proofs.TypedRules.{not_none, none_left, none_right, none_of_three, fails, holds_by}
use Rattle.efl_lowered.proofs.TypedExpressions.{Keeps, FitsResult, FitsCallee, Fine, counted, wanted, store_typed, expr_typed, exprs_typed}

-- ---- numbers of temporaries ----

pub items_above : (xs : List WriteItem) (n : ℕ) → n ≤ of_items xs n
items_above [] n = omega arith
items_above (Value e d ∷ xs) n = let h : n + (made e + 1) ≤ of_items xs (n + (made e + 1)) = items_above xs (n + (made e + 1)) in omega (h, arith)
items_above (Skip i ∷ xs) n = items_above xs n
items_above (Chars t ∷ xs) n = items_above xs n

pub taken_above : (xs : List ReadItem) (n : ℕ) → n ≤ of_taken xs n
taken_above [] n = omega arith
taken_above (Take x d ∷ xs) n = let h : n + 1 ≤ of_taken xs (n + 1) = taken_above xs (n + 1) in omega (h, arith)
taken_above (Pass i ∷ xs) n = taken_above xs n

edited_alike : (f : EflEdit) → kind_by (edit_of f) ≡ edited f
edited_alike (edits.Whole w) = refl
edited_alike (edits.Truth w) = refl
edited_alike edits.Letter = refl

module _ (M : ℕ → Kind → Type 0) (F : ℕ → Kind → ℕ → Type 0) (C : ℕ → ℕ → Type 0) (c : Context) (room : ℕ) (gives : Type 0) where
  -- the names that are used are fine, and so are the operators of assignments
  abbrev pub AreFine1 : List Use → Type 0
  AreFine1 us = Each (Fine M F C c) us

  -- ---- values ----

  pub value_fits : (k : Kind) (e : EflExpr) → value_faults c.names k e ≡ [] → AreFine1 (uses_of e) → Each Keeps (operators_of e) → (m : ℕ) → m + made (expr_of c e) ≤ room →
      (type_of (expr_of c e) ≡ k) × Scalars M F (expr_of c e) × (m + made (expr_of c e) ≤ room)
  value_fits k e h g o m l =
      let w = expr_typed M F C c e (none_right (wants c.names k e) (faults c.names e) h) g o in
      (wanted M F C c k e w (none_left (wants c.names k e) (faults c.names e) h), w.3, l)

  pub fits_if_any : (a : Option EflExpr) → value_if c.names kinds.Integer a ≡ [] → AreFine1 (uses_if a) → Each Keeps (operators_if a) → (m : ℕ) → m + made_if_any (option_map (expr_of c) a) ≤ room →
      FitIfAny M F C room gives (option_map (expr_of c) a) m
  fits_if_any None h g o m l = tt
  fits_if_any (Some e) h g o m l = let w = value_fits kinds.Integer e h g o m l in (w.0, (w.1, w.2))

  pub condition_if_any : (a : Option EflExpr) → value_if c.names kinds.Logical a ≡ [] → AreFine1 (uses_if a) → Each Keeps (operators_if a) → (m : ℕ) → m + made_if_any (option_map (expr_of c) a) ≤ room →
      ConditionIfAny M F C room gives (option_map (expr_of c) a) m
  condition_if_any None h g o m l = tt
  condition_if_any (Some e) h g o m l = let w = value_fits kinds.Logical e h g o m l in (w.0, (w.1, w.2))

  -- ---- acts ----

  by_result : (k j : ℕ) (r : Result) (es : EflExprs) → FitsResult M F C c k j r → is_subroutine r ≡ true → j ≡ many es → C k (count (exprs_of c es))
  by_result k j Nothing es f h e = subst (λ n. C k n) (e ∙ sym (counted M F C c es)) f
  by_result k j (Gives g) es f h e = absurd (true≢false (sym h))
  by_result k j Unknown es f h e = absurd f

  by_callee : (q : Callee) (o : Option ℕ) (es : EflExprs) → FitsCallee M F C c q o → may_be_called q ≡ true → actual_faults c.names q es ≡ [] → AllScalars M F (exprs_of c es) → (m : ℕ) →
      of_act (invoke o (exprs_of c es)) m ≤ room → FitAct M F C room gives (invoke o (exprs_of c es)) m
  by_callee (Procedure s) None es f h a k m l = absurd f
  by_callee (Procedure s) (Some n) es f h a k m l =
      let own = when (not (nat_eq (length s.formals) (many es))) WrongCount in
      let same = eqb-true (length s.formals) (many es) (holds_by (nat_eq (length s.formals) (many es)) WrongCount (none_left own (when (not (take_actuals c.names s.formals es)) TypeClash) a)) in
      (by_result n (length s.formals) s.result es f h same, k, l)
  by_callee (Intrinsic b) o es f h a k m l = absurd (true≢false (sym h))
  by_callee Missing o es f h a k m l = absurd (not_none MissingUnit [] a)

  invoke_fits : (x : Text) (es : EflExprs) → act_faults c.names (efl.Call x es) ≡ [] → AreFine1 (uses_of (efl.Call x es)) → Each Keeps (operators_of_all es) → (m : ℕ) →
      of_act (invoke (called c x) (exprs_of c es)) m ≤ room → FitAct M F C room gives (invoke (called c x) (exprs_of c es)) m
  invoke_fits x es h g o m l =
      let q = callee c.names x in
      let hs = none_of_three (when (is_variable c.names x || not (may_be_called q)) TypeClash) (actual_faults c.names q es) (faults_of_all c.names es) h in
      by_callee q (called c x) es g.0.2 (denied (may_be_called q) (neither (is_variable c.names x) (not (may_be_called q)) (fails (is_variable c.names x || not (may_be_called q)) TypeClash hs.0)).1) hs.1
      (exprs_typed M F C c es hs.2 g.1 o) m l

  pub act_fits : (e : EflExpr) → act_faults c.names e ≡ [] → AreFine1 (uses_of e) → Each Keeps (operators_of e) → (m : ℕ) → of_act (action_of c e) m ≤ room → FitAct M F C room gives (action_of c e) m
  act_fits (efl.Call x es) h g o m l = invoke_fits x es h g o m l
  act_fits e h g o m l = ((expr_typed M F C c e h g o).3, l)

  pub act_if_any : (a : Option EflExpr) → act_if c.names a ≡ [] → AreFine1 (uses_if a) → Each Keeps (operators_if a) → (m : ℕ) → of_any (option_map (action_of c) a) m ≤ room →
      ActIfAny M F C room gives (option_map (action_of c) a) m
  act_if_any None h g o m l = tt
  act_if_any (Some e) h g o m l = act_fits e h g o m l

  -- ---- items ----

  pub items_fit : (xs : List efl.WriteItem) → flat_map (written_faults c.names) xs ≡ [] → AreFine1 (flat_map uses_written xs) → Each Keeps (flat_map operators_written xs) → (m : ℕ) →
      of_items (map (written c) xs) m ≤ room → ItemsFit M F C room gives (map (written c) xs) m
  items_fit [] h g o m l = tt
  items_fit (efl.Value e f ∷ xs) h g o m l =
      let next = m + (made (expr_of c e) + 1) in
      let above : next ≤ of_items (map (written c) xs) next = items_above (map (written c) xs) next in
      let own = value_faults c.names (edited f) e in
      let w = value_fits (edited f) e (none_left own (flat_map (written_faults c.names) xs) h) (each_left (Fine M F C c) (uses_of e) (flat_map uses_written xs) g) (each_left Keeps (operators_of e) (flat_map operators_written xs) o) m (omega (above, l, arith)) in
      (w.0 ∙ sym (edited_alike f), w.1, omega (above, l, arith), items_fit xs (none_right own (flat_map (written_faults c.names) xs) h) (each_right (Fine M F C c) (uses_of e) (flat_map uses_written xs) g) (each_right Keeps (operators_of e) (flat_map operators_written xs) o) next l)
  items_fit (efl.WriteItem.Skip n ∷ xs) h g o m l = items_fit xs h g o m l
  items_fit (efl.Chars x ∷ xs) h g o m l = items_fit xs h g o m l

  pub taken_fit : (xs : List efl.ReadItem) → flat_map (read_faults c.names) xs ≡ [] → AreFine1 (flat_map uses_read xs) → (m : ℕ) → of_taken (map (taken c) xs) m ≤ room → TakenFit M F C room gives (map (taken c) xs) m
  taken_fit [] h g m l = tt
  taken_fit (efl.Take p f ∷ xs) h g m l =
      let above : m + 1 ≤ of_taken (map (taken c) xs) (m + 1) = taken_above (map (taken c) xs) (m + 1) in
      let own = store_wants c.names (edited f) p in
      let first = none_left (own ++ place_faults c.names p) (flat_map (read_faults c.names) xs) h in
      let w = store_typed M F C c (edited f) p (none_left own (place_faults c.names p) first) (none_right own (place_faults c.names p) first) (each_left (Fine M F C c) (uses_at p) (flat_map uses_read xs) g) in
      (w.2, w.1 ∙ sym (edited_alike f), omega (above, l, arith), taken_fit xs (none_right (own ++ place_faults c.names p) (flat_map (read_faults c.names) xs) h) (each_right (Fine M F C c) (uses_at p) (flat_map uses_read xs) g) (m + 1) l)
  taken_fit (efl.ReadItem.Skip n ∷ xs) h g m l = taken_fit xs h g m l
