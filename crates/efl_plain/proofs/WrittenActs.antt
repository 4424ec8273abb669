-- Conditions, acts and items of records that break no rule of types, and whose numbers are in their range, are written.
use Rattle.std.proofs.Common.{◌≡◌, ◌+◌, ℕ, true, List, [], ◌∷◌, ◌++◌, map, Option, None, Some, refl, sym, ◌∙◌, arith}
use Rattle.std.specs.Prelude.{ℤ, not, ◌||◌, flat_map, option_map}
use Rattle.std.specs.List.{list_all, sum_by}
use Rattle.std.proofs.lemmas.List.Sums.{sum_by-cons}
use Rattle.ground.specs.declared.value.Kind.{Kind}
use Rattle.f66_names.specs.Shapes.{is_printed}
use Rattle.efl_tree.specs.declared.expression.EflOperator.{EflOperator}
use Rattle.efl_tree.specs.declared.statement.EflEdit.{EflEdit}
use Rattle.efl_tree.specs.declared.statement.EflEdit.TheVariants as edits
use Rattle.efl_tree.specs.Syntax as efl
use Rattle.efl_tree.specs.Syntax.{Text, EflExpr, EflExprs}
use Rattle.efl_scope.specs.Uses.{Use, uses_of, uses_if, uses_written}
use Rattle.efl_types.specs.declared.rule.TypeRule.TheVariants.{TypeClash}
use Rattle.efl_types.specs.Signatures.{callee, is_variable}
use Rattle.efl_types.specs.Expressions.{when, wants, actual_faults, faults, faults_of_all}
use Rattle.efl_types.specs.Statements.{may_be_called, act_faults, act_if, value_faults, value_if, edited, width, is_width, written_width, read_width, written_faults}
use Rattle.efl_typed.specs.Typing.{Context, called, expr_of, exprs_of, invoke, action_of, edit_of, written, taken}
use Rattle.efl_typed.proofs.Each.{Each, each_left, each_right}
use Rattle.efl_typed.proofs.FoundLemmas.{both}
use Rattle.efl_routes.specs.Expressions.{type_of}
use Rattle.efl_lowered.specs.Grammatical.{operators_of, operators_if, operators_written}
use Rattle.efl_lowered.proofs.TypedRules.{none_left, none_right, none_of_three}
use Rattle.efl_lowered.proofs.TypedExpressions.{Keeps, Fine}
use Rattle.efl_plain.specs.Written.{IsWritten, AreWritten, WrittenIfAny, EditIsWritten, edit_width, item_width, taken_width, ItemsAreWritten, TakenAreWritten, ActionIsWritten, ActionIfAny}
use Rattle.efl_plain.specs.Tree.{numbers_of, numbers_if, numbers_written, text_written}
use Rattle.efl_plain.proofs.WrittenExpressions.{Constant, operand_fits, expr_written, exprs_written}

-- a text of characters of cards
abbrev pub Printed : Text → Type 0
Printed t = list_all is_printed t ≡ true

edit_written : (f : EflEdit) → is_width (width f) ≡ true → EditIsWritten (edit_of f)
edit_written (edits.Whole w) h = h
edit_written (edits.Truth w) h = h
edit_written edits.Letter h = tt

same_width : (f : EflEdit) → edit_width (edit_of f) ≡ width f
same_width (edits.Whole w) = refl
same_width (edits.Truth w) = refl
same_width edits.Letter = refl

-- equal widths have equal sums
sums_same : {X Y : Type 0} (f : Y → ℕ) (g : X → ℕ) (h : X → Y) → ((x : X) → f (h x) ≡ g x) → (xs : List X) → sum_by f (map h xs) ≡ sum_by g xs
sums_same f g h e [] = refl
sums_same f g h e (x ∷ xs) =
    let own = e x in
    let rest = sums_same f g h e xs in
    let sum : f (h x) + sum_by f (map h xs) ≡ g x + sum_by g xs = omega (own, rest, arith) in
    sum_by-cons f (h x) (map h xs) ∙ sum ∙ sym (sum_by-cons g x xs)

-- an item has as many columns as the source gives it
item_same : (c : Context) (x : efl.WriteItem) → item_width (written c x) ≡ written_width x
item_same c (efl.Value e f) = same_width f
item_same c (efl.WriteItem.Skip n) = refl
item_same c (efl.Chars t) = refl

taken_same : (c : Context) (x : efl.ReadItem) → taken_width (taken c x) ≡ read_width x
taken_same c (efl.Take p f) = same_width f
taken_same c (efl.ReadItem.Skip n) = refl

pub written_widths : (c : Context) (xs : List efl.WriteItem) → sum_by item_width (map (written c) xs) ≡ sum_by written_width xs
written_widths c xs = sums_same item_width written_width (written c) (item_same c) xs

pub taken_widths : (c : Context) (xs : List efl.ReadItem) → sum_by taken_width (map (taken c) xs) ≡ sum_by read_width xs
taken_widths c xs = sums_same taken_width read_width (taken c) (taken_same c) xs

module _ (M : ℕ → Kind → Type 0) (F : ℕ → Kind → ℕ → Type 0) (C : ℕ → ℕ → Type 0) (c : Context) where
  -- the names that are used are fine, so are the operators of assignments, and numbers are in their range
  abbrev pub Good : List Use → List EflOperator → List ℤ → Type 0
  Good us os zs = Each (Fine M F C c) us × Each Keeps os × Each Constant zs

  pub good_left : (us vs : List Use) (os ps : List EflOperator) (zs ys : List ℤ) → Good (us ++ vs) (os ++ ps) (zs ++ ys) → Good us os zs
  good_left us vs os ps zs ys g = (each_left (Fine M F C c) us vs g.0, each_left Keeps os ps g.1, each_left Constant zs ys g.2)

  pub good_right : (us vs : List Use) (os ps : List EflOperator) (zs ys : List ℤ) → Good (us ++ vs) (os ++ ps) (zs ++ ys) → Good vs ps ys
  good_right us vs os ps zs ys g = (each_right (Fine M F C c) us vs g.0, each_right Keeps os ps g.1, each_right Constant zs ys g.2)

  abbrev pub GoodIn : EflExpr → Type 0
  GoodIn e = Good (uses_of e) (operators_of e) (numbers_of e)

  abbrev pub GoodIf : Option EflExpr → Type 0
  GoodIf o = Good (uses_if o) (operators_if o) (numbers_if o)

  -- ---- values ----

  -- of the type that is asked for
  pub value_written : (k : Kind) (e : EflExpr) → value_faults c.names k e ≡ [] → GoodIn e → (type_of (expr_of c e) ≡ k) × IsWritten (expr_of c e)
  value_written k e h g =
      let rest = none_right (wants c.names k e) (faults c.names e) h in
      (operand_fits M F C c k e (none_left (wants c.names k e) (faults c.names e) h) rest g.0 g.1, expr_written M F C c e rest g.0 g.1 g.2)

  pub value_if_any : (k : Kind) (o : Option EflExpr) → value_if c.names k o ≡ [] → GoodIf o → WrittenIfAny (option_map (expr_of c) o)
  value_if_any k None h g = tt
  value_if_any k (Some e) h g = (value_written k e h g).1

  -- ---- acts ----

  invoked : (o : Option ℕ) (es : EflExprs) → AreWritten (exprs_of c es) → ActionIsWritten (invoke o (exprs_of c es))
  invoked None es h = refl
  invoked (Some n) es h = h

  pub act_written : (e : EflExpr) → act_faults c.names e ≡ [] → GoodIn e → ActionIsWritten (action_of c e)
  act_written (efl.Call x es) h g =
      let q = callee c.names x in
      let hs = none_of_three (when (is_variable c.names x || not (may_be_called q)) TypeClash) (actual_faults c.names q es) (faults_of_all c.names es) h in
      invoked (called c x) es (exprs_written M F C c es hs.2 g.0.1 g.1 g.2)
  act_written e h g = expr_written M F C c e h g.0 g.1 g.2

  pub act_if_any : (o : Option EflExpr) → act_if c.names o ≡ [] → GoodIf o → ActionIfAny (option_map (action_of c) o)
  act_if_any None h g = tt
  act_if_any (Some e) h g = act_written e h g

  -- ---- items ----

  abbrev GoodItems : List efl.WriteItem → Type 0
  GoodItems xs = Good (flat_map uses_written xs) (flat_map operators_written xs) (flat_map numbers_written xs)

  pub items_written : (xs : List efl.WriteItem) → flat_map (written_faults c.names) xs ≡ [] → GoodItems xs → Each Printed (flat_map text_written xs) → list_all (λ i. is_width (written_width i)) xs ≡ true →
      ItemsAreWritten (map (written c) xs)
  items_written [] h g t w = tt
  items_written (efl.Value e f ∷ xs) h g t w =
      let own = value_faults c.names (edited f) e in
      let more = flat_map (written_faults c.names) xs in
      let us = flat_map uses_written xs in
      let os = flat_map operators_written xs in
      let zs = flat_map numbers_written xs in
      let ws = both (is_width (width f)) (list_all (λ i. is_width (written_width i)) xs) w in (
        ((value_written (edited f) e (none_left own more h) (good_left (uses_of e) us (operators_of e) os (numbers_of e) zs g)).1, edit_written f ws.0),
        items_written xs (none_right own more h) (good_right (uses_of e) us (operators_of e) os (numbers_of e) zs g) t ws.1,
      )
  items_written (efl.WriteItem.Skip n ∷ xs) h g t w = let ws = both (is_width (written_width (efl.WriteItem.Skip n))) (list_all (λ i. is_width (written_width i)) xs) w in (ws.0, items_written xs h g t ws.1)
  items_written (efl.Chars x ∷ xs) h g t w = let ws = both (is_width (written_width (efl.Chars x))) (list_all (λ i. is_width (written_width i)) xs) w in ((ws.0, t.0), items_written xs h g t.1 ws.1)

  pub taken_written : (xs : List efl.ReadItem) → list_all (λ i. is_width (read_width i)) xs ≡ true → TakenAreWritten (map (taken c) xs)
  taken_written [] w = tt
  taken_written (efl.Take p f ∷ xs) w = let ws = both (is_width (width f)) (list_all (λ i. is_width (read_width i)) xs) w in (edit_written f ws.0, taken_written xs ws.1)
  taken_written (efl.ReadItem.Skip n ∷ xs) w = let ws = both (is_width (read_width (efl.ReadItem.Skip n))) (list_all (λ i. is_width (read_width i)) xs) w in (ws.0, taken_written xs ws.1)
