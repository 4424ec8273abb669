-- How long code is doesn't depend on where units are entered.
use Rattle.std.proofs.Common.{◌≡◌, cond, ℕ, suc, ◌+◌, Bool, true, false, List, [], ◌∷◌, ◌++◌, length, Option, Some, None, refl, ap, arith, length-append}
use Rattle.f66_tree.specs.declared.editing.Way.{Way}
use Rattle.f66_tree.specs.declared.editing.Way.TheVariants.{Reading, Writing}
use Rattle.f66_tree.specs.Syntax.{Text, Formula, Int, Letter, Ref, Item, Group, Plus, Minus, Not, Pair, Formulas, NoFormula, AndFormula, Par, Entry, One, Many, Entries, NoEntry, AndEntry, Act, Assign, Goto, Computed, Sign, When, Loop, Invoke, Stop, Return, Read, Write, Line}
use Rattle.f66_tree.specs.Syntax as f66
use Rattle.f66_tree.specs.Units.{is_note, is_main, kind_of}
use Rattle.f66_tree.specs.Evaluation.{Sort, AnArray, AnIntrinsic, AFunction, sort_of, names_place}
use Rattle.f66_tree.specs.Execution.{runnable}
use Rattle.stack_code.specs.Instructions as i
use Rattle.stack_code.specs.Instructions.{Instruction}
use Rattle.code_gen.specs.Layout.{Layout}
use Rattle.code_gen.specs.Expressions.{count, own_code, pars_code, function_number, element_code, called_code, applied_code, place_by, place_with, place_code, actual_code, operator_code, value_code, values_code, subscripts_code, actuals_code, room_of, rooms_to_hand}
use Rattle.code_gen.specs.Statements.{whole_code, item_code, items_size, entry_size, invoked_code, act_size, line_size, body_size, reset_by, reset_code, first_by, first_code, prologue_size, unit_size}
use Rattle.code_gen.specs.LayingOut.{with_entries}

joined : (a b c d : List Instruction) → length a ≡ length c → length b ≡ length d → length (a ++ b) ≡ length (c ++ d)
joined a b c d e f = omega (arith, length-append a b, length-append c d)

module _ (y : Layout) (entry : ℕ → ℕ) where
  abbrev z : Layout
  z = with_entries y entry

  called_size : (u : ℕ) (x : Text) (o : Option ℕ) (n : ℕ) (a b : List Instruction) → length a ≡ length b → length (called_code z u x o n a) ≡ length (called_code y u x o n b)
  called_size u x None n a b e = refl
  called_size u x (Some v) n a b e = joined a _ b _ e refl

  element_size : (u : ℕ) (x : Text) (ns : List Par) (a b : List Instruction) → length (pars_code z u ns) ≡ length (pars_code y u ns) → length a ≡ length b → length (element_code z u x ns a) ≡ length (element_code y u x ns b)
  element_size u x ns a b p e =
      let last = i.Element (length ns) ∷ [] in
      ap suc (joined a (pars_code z u ns ++ last) b (pars_code y u ns ++ last) e (joined (pars_code z u ns) last (pars_code y u ns) last p refl))

  par_size : (u : ℕ) (n : Par) → length (Rattle.code_gen.specs.Expressions.par_code z u n) ≡ length (Rattle.code_gen.specs.Expressions.par_code y u n)
  par_size u (f66.Constant a) = refl
  par_size u (f66.Named x) = refl

  pars_size : (u : ℕ) (ns : List Par) → length (pars_code z u ns) ≡ length (pars_code y u ns)
  pars_size u [] = refl
  pars_size u (n ∷ ns) = joined _ (pars_code z u ns) _ (pars_code y u ns) (par_size u n) (pars_size u ns)

  applied_size : (u : ℕ) (x : Text) (so : Sort) (n : ℕ) (a b c d : List Instruction) → length a ≡ length b → length c ≡ length d → length (applied_code z u x so n a c) ≡ length (applied_code y u x so n b d)
  applied_size u x (AnArray ns) n a b c d e f =
      let last = i.Load (kind_of (y.linked.context u) x) ∷ [] in
      joined (element_code z u x ns a) last (element_code y u x ns b) last (element_size u x ns a b (pars_size u ns) e) refl
  applied_size u x (AnIntrinsic g) n a b c d e f = joined a _ b _ e refl
  applied_size u x AFunction n a b c d e f = called_size u x (y.linked.find x) n c d f

  place_by_size : (u : ℕ) (x : Text) (so : Sort) (a b : List Instruction) → length a ≡ length b → length (place_by z u x so a) ≡ length (place_by y u x so b)
  place_by_size u x (AnArray ns) a b e = element_size u x ns a b (pars_size u ns) e
  place_by_size u x (AnIntrinsic g) a b e = refl
  place_by_size u x AFunction a b e = refl

  place_with_size : (u : ℕ) (e : Formula) (a b : List Instruction) → length a ≡ length b → length (place_with z u e a) ≡ length (place_with y u e b)
  place_with_size u (Ref x) a b h = refl
  place_with_size u (Item x es) a b h = place_by_size u x (sort_of (y.linked.context u) x) a b h
  place_with_size u _ a b h = refl

  actual_size : (b : Bool) (q : ℕ) (p1 p2 v1 v2 : List Instruction) → length p1 ≡ length p2 → length v1 ≡ length v2 → length (actual_code b q p1 v1) ≡ length (actual_code b q p2 v2)
  actual_size true q p1 p2 v1 v2 e f = e
  actual_size false q p1 p2 v1 v2 e f = joined v1 _ v2 _ f refl

  mutual
    value_size : (u : ℕ) (e : Formula) → length (value_code z u e) ≡ length (value_code y u e)
    value_size u (Int a) = refl
    value_size u (f66.Truth b) = refl
    value_size u (Letter a) = refl
    value_size u (Ref x) = refl
    value_size u (Item x es) = applied_size u x (sort_of (y.linked.context u) x) (count es) (values_code z u es) (values_code y u es) (actuals_code z u es) (actuals_code y u es) (values_size u es) (actuals_size u es)
    value_size u (Group a) = value_size u a
    value_size u (Plus a) = value_size u a
    value_size u (Minus a) = joined (value_code z u a) _ (value_code y u a) _ (value_size u a) refl
    value_size u (Not a) = joined (value_code z u a) _ (value_code y u a) _ (value_size u a) refl
    value_size u (Pair op a b) =
        let last = operator_code op ∷ [] in
        joined (value_code z u a) (value_code z u b ++ last) (value_code y u a) (value_code y u b ++ last) (value_size u a) (joined (value_code z u b) last (value_code y u b) last (value_size u b) refl)

    values_size : (u : ℕ) (es : Formulas) → length (values_code z u es) ≡ length (values_code y u es)
    values_size u NoFormula = refl
    values_size u (AndFormula e es) = joined (value_code z u e) (values_code z u es) (value_code y u e) (values_code y u es) (value_size u e) (values_size u es)

    subscripts_size : (u : ℕ) (e : Formula) → length (subscripts_code z u e) ≡ length (subscripts_code y u e)
    subscripts_size u (Item x es) = values_size u es
    subscripts_size u _ = refl

    actuals_size : (u : ℕ) (es : Formulas) → length (actuals_code z u es) ≡ length (actuals_code y u es)
    actuals_size u NoFormula = refl
    actuals_size u (AndFormula e es) =
        let c = y.linked.context u in
        let q = y.spare u + (room_of c e + rooms_to_hand c es) in
        let p1 = place_code z u e in
        let p2 = place_code y u e in
        joined (actual_code (names_place c e) q p1 (value_code z u e)) (actuals_code z u es) (actual_code (names_place c e) q p2 (value_code y u e)) (actuals_code y u es) (actual_size (names_place c e) q p1 p2 (value_code z u e) (value_code y u e) (place_with_size u e (subscripts_code z u e) (subscripts_code y u e) (subscripts_size u e)) (value_size u e)) (actuals_size u es)

  place_size : (u : ℕ) (e : Formula) → length (place_code z u e) ≡ length (place_code y u e)
  place_size u e = place_with_size u e (subscripts_code z u e) (subscripts_code y u e) (subscripts_size u e)

  -- ---- lists ----

  whole_size : (u : ℕ) (way : Way) (k : Rattle.ground.specs.declared.value.Kind.Kind) (ns : List Par) → length (whole_code z u way k ns) ≡ length (whole_code y u way k ns)
  whole_size u way k [] = refl
  whole_size u way k (n ∷ ns) = joined (pars_code z u (n ∷ ns)) _ (pars_code y u (n ∷ ns)) _ (pars_size u (n ∷ ns)) refl

  item_size : (u : ℕ) (way : Way) (e : Formula) → length (item_code z u way e) ≡ length (item_code y u way e)
  item_size u way (Ref x) = ap suc (whole_size u way _ _)
  item_size u way (Item x es) = joined (place_code z u (Item x es)) _ (place_code y u (Item x es)) _ (place_size u (Item x es)) refl
  item_size u way _ = refl

  mutual
    list_size : (u : ℕ) (way : Way) (es : Entries) → items_size z u way es ≡ items_size y u way es
    list_size u way NoEntry = refl
    list_size u way (AndEntry e es) = let a = one_size u way e in let b = list_size u way es in omega arith

    one_size : (u : ℕ) (way : Way) (e : Entry) → entry_size z u way e ≡ entry_size y u way e
    one_size u way (One e) = item_size u way e
    one_size u way (Many es x a b d) = let h = list_size u way es in omega (arith, par_size u a, par_size u b, par_size u d)

  -- ---- statements ----

  invoked_size : (u : ℕ) (o : Option ℕ) (n : ℕ) (a b : List Instruction) → length a ≡ length b → length (invoked_code z u o n a) ≡ length (invoked_code y u o n b)
  invoked_size u None n a b e = refl
  invoked_size u (Some v) n a b e = joined a _ b _ e refl

  pub statement_size : (u : ℕ) (a : Act) → act_size z u a ≡ act_size y u a
  statement_size u (Assign x e) = omega (arith, place_size u x, value_size u e)
  statement_size u (Goto l) = refl
  statement_size u (Computed ls x) = refl
  statement_size u (Sign e n m k) = omega (arith, value_size u e)
  statement_size u (When e a) = let h = statement_size u a in omega (arith, value_size u e)
  statement_size u (Loop l x a b d) = omega (arith, par_size u a, par_size u b, par_size u d)
  statement_size u (Invoke x es) = invoked_size u (y.linked.find x) (count es) (actuals_code z u es) (actuals_code y u es) (actuals_size u es)
  statement_size u (Stop n) = refl
  statement_size u Return = refl
  statement_size u (Read a l es) = omega (arith, par_size u a, list_size u Reading es)
  statement_size u (Write a l es) = omega (arith, par_size u a, list_size u Writing es)
  statement_size u _ = refl

  line_by : (b : Bool) (u : ℕ) (s : Line) (rest : List Line) → body_size z u rest ≡ body_size y u rest → cond b (body_size z u rest) (line_size z u s + body_size z u rest) ≡ cond b (body_size y u rest) (line_size y u s + body_size y u rest)
  line_by true u s rest h = h
  line_by false u s rest h =
      let a = statement_size u s.act in
      omega arith

  pub rest_size : (u : ℕ) (rest : List Line) → body_size z u rest ≡ body_size y u rest
  rest_size u [] = refl
  rest_size u (s ∷ rest) = line_by (is_note s.act) u s rest (rest_size u rest)

  reset_act_size : (u : ℕ) (a : Act) (key : ℕ) (m n : List Instruction) → length m ≡ length n → length (reset_by z u a key m) ≡ length (reset_by y u a key n)
  reset_act_size u (Loop l x a b d) key m n e = ap (λ k. suc (suc (suc (suc k)))) e
  reset_act_size u _ key m n e = e

  reset_size : (u : ℕ) (rest : List Line) → length (reset_code z u rest) ≡ length (reset_code y u rest)
  reset_size u [] = refl
  reset_size u (s ∷ rest) = reset_act_size u s.act (length rest) (reset_code z u rest) (reset_code y u rest) (reset_size u rest)

  first_size : (b : Bool) (u : ℕ) → length (first_by b z u) ≡ length (first_by b y u)
  first_size true u = refl
  first_size false u = reset_size u (y.lines u)

  opening_size : (a b : List Instruction) (xs : List Line) → length a ≡ length b → prologue_size a xs ≡ prologue_size b xs
  opening_size [] [] xs e = refl
  opening_size [] (h ∷ b) xs e = absurd (omega arith)
  opening_size (h ∷ a) [] xs e = absurd (omega arith)
  opening_size (h ∷ a) (j ∷ b) [] e = refl
  opening_size (h ∷ a) (j ∷ b) (s ∷ rest) e = ap (λ k. 2 + k) e

  pub same_size : (u : ℕ) → unit_size z u ≡ unit_size y u
  same_size u =
      let a = opening_size (first_code z u) (first_code y u) (runnable (y.lines u)) (first_size (is_main (y.linked.context u).header) u) in
      let b = rest_size u (y.lines u) in
      omega arith
