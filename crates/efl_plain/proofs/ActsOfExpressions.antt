-- The routes of a written expression have plain acts alone, and its formula is a constant or a variable of its type.
use Rattle.std.proofs.Common.{◌≡◌, ℕ, suc, zero, true, ◌==◌, ◌+◌, ◌<◌, ◌≤◌, None, Some, refl, sym, ap, ◌∙◌, subst, inl, inr, arith}
use Rattle.std.specs.Prelude.{pos, nat_le}
use Rattle.std.proofs.lemmas.Bool.Decides.{nat_tests}
use Rattle.ground.specs.declared.place.Place.{Place}
use Rattle.ground.specs.declared.value.Kind.{Kind}
use Rattle.ground.specs.declared.value.Kind.TheVariants.{Integer, Logical}
use Rattle.f66_tree.specs.declared.expression.Operator.{Operator}
use Rattle.f66_tree.specs.declared.expression.Operator.TheVariants as operators
use Rattle.f66_tree.specs.Syntax as f66
use Rattle.f66_tree.specs.Syntax.{Text, Formula, Formulas, NoFormula, AndFormula, Letter, Ref, Item}
use Rattle.f66_tree.specs.Evaluation.{Intrinsic, Iabs, Mod, Isign, Idim, Max0, Min0}
use Rattle.f66_names.specs.Kinds.{outcome}
use Rattle.f66_names.specs.Sorts.{arity, takes_many}
use Rattle.f66_names.specs.Uses.{many}
use Rattle.efl_program.specs.Typed.{Op, Plain, AndThen, OrElse, Expr, Int, Truth, At, Call, Known, Group, Plus, Minus, Not, Up, Down, Pair, Assign, Exprs, NoExpr, AndExpr, Site}
use Rattle.efl_program.specs.Places.{sort_of, kind_of}
use Rattle.routes.specs.Routes.{Routes}
use Rattle.plain_units.specs.Plain.{name_of, IsLeaf, AreLeaves, ArePassed, IsFunction, IsValue, IsTest, IsPlain}
use Rattle.routed_units.specs.Routed.{AllActs}
use Rattle.efl_routes.specs.Expressions.{given_by, kind_by, type_of, intrinsic_name, made, made_in, made_for, count, variable_of, or_one, combined, first, further, gathered, formula, formulas, actuals, routes, all_routes, actual_routes, ScalarSite, Scalars, AllScalars}
use Rattle.efl_routes.proofs.Calls.{scalar_site}
use Rattle.efl_plain.proofs.Actuals.{by_actual}
use Rattle.efl_plain.specs.Written.{side, IsWritten, AreWritten, AreIntegers}

-- the two names of an intrinsic function are one
one_name : (g : Intrinsic) → intrinsic_name g ≡ name_of g
one_name Iabs = refl
one_name Mod = refl
one_name Isign = refl
one_name Idim = refl
one_name Max0 = refl
one_name Min0 = refl

at_least : (k : ℕ) → nat_le 2 (k + 1 + 1) ≡ true
at_least k = grind (arith, nat_tests)

other_number : (n m : ℕ) → m < n → (n == m) ≡ true → ⊥
other_number n m lt h = grind (arith, nat_tests)

-- a function of three arguments or more takes two and any number more
takes_more : (g : Intrinsic) (n : ℕ) → takes_many (arity g) (n + 1 + 1 + 1) ≡ true → (k : ℕ) → takes_many (arity g) (k + 1 + 1) ≡ true
takes_more Max0 n h k = at_least k
takes_more Min0 n h k = at_least k
takes_more Iabs n h k = absurd (other_number (n + 1 + 1 + 1) 1 (omega arith) h)
takes_more Mod n h k = absurd (other_number (n + 1 + 1 + 1) 2 (omega arith) h)
takes_more Isign n h k = absurd (other_number (n + 1 + 1 + 1) 2 (omega arith) h)
takes_more Idim n h k = absurd (other_number (n + 1 + 1 + 1) 2 (omega arith) h)

-- what an operator gives, in EFL and in FORTRAN
same_outcome : (op : Operator) → given_by op ≡ outcome op
same_outcome operators.Add = refl
same_outcome operators.Sub = refl
same_outcome operators.Mul = refl
same_outcome operators.Div = refl
same_outcome operators.Power = refl
same_outcome operators.Lt = refl
same_outcome operators.Le = refl
same_outcome operators.Eq = refl
same_outcome operators.Ne = refl
same_outcome operators.Ge = refl
same_outcome operators.Gt = refl
same_outcome operators.And = refl
same_outcome operators.Or = refl

some_passed : (es : Formulas) → 0 < many (or_one es)
some_passed NoFormula = omega arith
some_passed (AndFormula e es) = omega arith

module _ (V F : Text → Kind → Type 0) (S : Text → Type 0) where
  pub leaf_value : (e : Formula) (k : Kind) → IsLeaf V F S e k → IsValue V F S e k
  leaf_value (f66.Int z) k h = h
  leaf_value (f66.Truth b) k h = h
  leaf_value (Letter l) k h = absurd h
  leaf_value (Ref x) k h = h
  leaf_value (Item x es) k h = absurd h
  leaf_value (f66.Group a) k h = absurd h
  leaf_value (f66.Plus a) k h = absurd h
  leaf_value (f66.Minus a) k h = absurd h
  leaf_value (f66.Not a) k h = absurd h
  leaf_value (f66.Pair op a b) k h = absurd h

  pub leaf_test : (e : Formula) → IsLeaf V F S e Logical → IsTest V F S e
  leaf_test (f66.Int z) h = absurd (let is : Logical ≡ Integer = h.0 in cc)
  leaf_test (f66.Truth b) h = tt
  leaf_test (Letter l) h = absurd h
  leaf_test (Ref x) h = h
  leaf_test (Item x es) h = absurd h
  leaf_test (f66.Group a) h = absurd h
  leaf_test (f66.Plus a) h = absurd h
  leaf_test (f66.Minus a) h = absurd h
  leaf_test (f66.Not a) h = absurd h
  leaf_test (f66.Pair op a b) h = absurd h

  or_one_passed : (es : Formulas) → ArePassed V F S es → ArePassed V F S (or_one es)
  or_one_passed NoFormula h = (refl, tt)
  or_one_passed (AndFormula e es) h = h

  -- before routes of plain acts
  combined_plain : (p : Place) (op : Op) (left : Formula) (right : Routes → Routes) (e : Formula) (x : Text) (rest : Routes) → IsLeaf V F S left (side op) → IsLeaf V F S e (side op) → V x (kind_by op) →
      ((r : Routes) → AllActs (IsPlain V F S) r → AllActs (IsPlain V F S) (right r)) → AllActs (IsPlain V F S) rest → AllActs (IsPlain V F S) (combined p op left right e (Ref x) rest)
  combined_plain p (Plain op) left right e x rest h k v go ok = go _ ((given_by op, v, (same_outcome op, h, k)), ok)
  combined_plain p AndThen left right e x rest h k v go ok = ((Logical, v, leaf_value left Logical h), ((λ l. v, go _ ((Logical, v, leaf_value e Logical k), tt)), ok))
  combined_plain p OrElse left right e x rest h k v go ok = ((Logical, v, leaf_value left Logical h), ((λ l. v, go _ ((Logical, v, leaf_value e Logical k), tt)), ok))

module _ (home : ℕ → Text) (temp : Kind → ℕ → Text) (callee : ℕ → Text) where
  pub many_formulas : (es : Exprs) (n : ℕ) → many (formulas home temp callee es n) ≡ count es
  many_formulas NoExpr n = refl
  many_formulas (AndExpr e es) n = omega (arith, many_formulas es (n + made e))

  module _ (V F : Text → Kind → Type 0) (S : Text → Type 0) (M : ℕ → Kind → Type 0) (G : ℕ → Kind → ℕ → Type 0) (room : ℕ) (variables : (v : ℕ) (k : Kind) → M v k → V (home v) k) (temporaries : (k : Kind) (i : ℕ) → i < room → V (temp k i) k)
      (functions : (v : ℕ) (k : Kind) (c : ℕ) → G v k c → F (callee v) k) where
    abbrev Leaf : Formula → Kind → Type 0
    Leaf e k = IsLeaf V F S e k

    abbrev Acts : Routes → Type 0
    Acts rs = AllActs (IsPlain V F S) rs

    pub site_variable : (x : Site) → ScalarSite M x → V (home (variable_of x)) (kind_of (sort_of x))
    site_variable x h = scalar_site M (λ y. V (home (variable_of y)) (kind_of (sort_of y))) x h variables

    pub leaf : (e : Expr) (n : ℕ) → Scalars M G e → IsWritten e → n + made e ≤ room → Leaf (formula home temp callee e n) (type_of e)
    leaf (Int z) n s w fit = (refl, w)
    leaf (Truth b) n s w fit = refl
    leaf (At x) n s w fit = temporaries (kind_of (sort_of x)) n (omega (fit, arith))
    leaf (Call v k es) n s w fit = temporaries k (n + made_for es) (omega (fit, arith))
    leaf (Known g es) n s w fit = temporaries Integer (n + made_in es) (omega (fit, arith))
    leaf (Group a) n s w fit = leaf a n s w fit
    leaf (Plus a) n s w fit = temporaries Integer (n + made a) (omega (fit, arith))
    leaf (Minus a) n s w fit = temporaries Integer (n + made a) (omega (fit, arith))
    leaf (Not a) n s w fit = temporaries Logical (n + made a) (omega (fit, arith))
    leaf (Up x) n s w fit = temporaries Integer (n + 1) (omega (fit, arith))
    leaf (Down x) n s w fit = temporaries Integer (n + 1) (omega (fit, arith))
    leaf (Pair op a b) n s w fit = temporaries (kind_by op) (n + made a + made b) (omega (fit, arith))
    leaf (Assign None x e) n s w fit = leaf e n s.1 w.1 fit
    leaf (Assign (Some op) x e) n s w fit = temporaries (kind_by op) (n + 1 + made e) (omega (fit, arith))

    -- of the type that is asked for
    pub leaf_of : (e : Expr) (k : Kind) (n : ℕ) → type_of e ≡ k → Scalars M G e → IsWritten e → n + made e ≤ room → Leaf (formula home temp callee e n) k
    leaf_of e k n is s w fit = subst (λ j. Leaf (formula home temp callee e n) j) is (leaf e n s w fit)

    leaves : (es : Exprs) (n : ℕ) → AllScalars M G es → AreIntegers es → AreWritten es → n + made_in es ≤ room → AreLeaves V F S (formulas home temp callee es n) Integer
    leaves NoExpr n s i w fit = tt
    leaves (AndExpr e es) n s i w fit = (leaf_of e Integer n i.0 s.0 w.0 (omega (fit, arith)), leaves es (n + made e) s.1 i.1 w.1 (omega (fit, arith)))

    pub actuals_passed : (es : Exprs) (n : ℕ) → AllScalars M G es → AreWritten es → n + made_for es ≤ room → ArePassed V F S (actuals home temp callee es n)
    actuals_passed NoExpr n s w fit = tt
    actuals_passed (AndExpr e es) n s w fit =
        by_actual home temp callee (λ e1. Scalars M G e1 → IsWritten e1 → n + made_for (AndExpr e1 es) ≤ room → ArePassed V F S (actuals home temp callee (AndExpr e1 es) n)) (λ x s1 w1 fit1. ((kind_of (sort_of x), site_variable x s1), actuals_passed es n s.1 w.1 fit1))
        (λ e1 no s1 w1 fit1.
        let all : n + (made e1 + made_for es) ≤ room = subst (λ m. n + m ≤ room) (no.makes es) fit1 in
        subst (λ fs. ArePassed V F S fs) (sym (no.passes es n)) ((type_of e1, leaf e1 n s1 w1 (omega (all, arith))), actuals_passed es (n + made e1) s.1 w.1 (omega (all, arith)))) e s.0 w.0 fit

    called_value : (v : ℕ) (k : Kind) (es : Exprs) (n : ℕ) → Scalars M G (Call v k es) → AreWritten es → n + made_for es ≤ room → IsFunction V F S (callee v) (or_one (actuals home temp callee es n)) k
    called_value v k es n s w fit = record { gives = functions v k (count es) s.0; some = some_passed (actuals home temp callee es n); passed = or_one_passed V F S (actuals home temp callee es n) (actuals_passed es n s.1 w fit) }

    -- a temporary gets a value
    spare_plain : (k : Kind) (i : ℕ) (e : Formula) → i < room → IsValue V F S e k → IsPlain V F S (f66.Assign (Ref (temp k i)) e)
    spare_plain k i e h v = (k, temporaries k i h, v)

    -- it gets what an intrinsic function gives of these arguments, or of these and others by groups
    group_plain : (g : Intrinsic) (fs : Formulas) (i : ℕ) → takes_many (arity g) (many fs) ≡ true → AreLeaves V F S fs Integer → i < room → IsPlain V F S (f66.Assign (Ref (temp Integer i)) (Item (intrinsic_name g) fs))
    group_plain g fs i takes all h = spare_plain Integer i (Item (intrinsic_name g) fs) h (inl (record { intrinsic = g; name = one_name g; gives = refl; takes = takes; leaves = all }))

    first_leaves : (m : ℕ) (fs : Formulas) → AreLeaves V F S fs Integer → AreLeaves V F S (first m fs) Integer
    first_leaves zero NoFormula h = tt
    first_leaves (suc m) NoFormula h = tt
    first_leaves zero (AndFormula e fs) h = tt
    first_leaves (suc m) (AndFormula e fs) h = (h.0, first_leaves m fs h.1)

    further_plain : (g : Intrinsic) → ((k : ℕ) → takes_many (arity g) (k + 1 + 1) ≡ true) → (p : Place) (i m : ℕ) (fs : Formulas) (rest : Routes) → AreLeaves V F S fs Integer → i < room → Acts rest → Acts (further p (intrinsic_name g) (Ref (temp Integer i)) m fs rest)
    further_plain g more p i zero NoFormula rest all h ok = ok
    further_plain g more p i (suc m) NoFormula rest all h ok = ok
    further_plain g more p i (suc m) (AndFormula e fs) rest all h ok = further_plain g more p i m fs rest all.1 h ok
    further_plain g more p i zero (AndFormula e fs) rest all h ok =
        (group_plain g (AndFormula (Ref (temp Integer i)) (AndFormula e (first 58 fs))) i (more (many (first 58 fs))) (temporaries Integer i h, (all.0, first_leaves 58 fs all.1)) h, further_plain g more p i 58 fs rest all.1 h ok)

    -- two arguments or more
    more_plain : (g : Intrinsic) → ((k : ℕ) → takes_many (arity g) (k + 1 + 1) ≡ true) → (e d : Formula) (fs : Formulas) (i : ℕ) (rest : Routes) → AreLeaves V F S (AndFormula e (AndFormula d fs)) Integer → (p : Place) → i < room → Acts rest →
        Acts (gathered p (intrinsic_name g) (Ref (temp Integer i)) (AndFormula e (AndFormula d fs)) rest)
    more_plain g more e d fs i rest all p h ok =
        (group_plain g (AndFormula e (AndFormula d (first 58 fs))) i (more (many (first 58 fs))) (all.0, (all.1.0, first_leaves 58 fs all.1.1)) h, further_plain g more p i 58 fs rest all.1.1 h ok)

    known_plain : (g : Intrinsic) (fs : Formulas) (i : ℕ) (rest : Routes) → takes_many (arity g) (many fs) ≡ true → AreLeaves V F S fs Integer → (p : Place) → i < room → Acts rest → Acts (gathered p (intrinsic_name g) (Ref (temp Integer i)) fs rest)
    known_plain g NoFormula i rest takes all p h ok = (group_plain g NoFormula i takes all h, ok)
    known_plain g (AndFormula e NoFormula) i rest takes all p h ok = (group_plain g (AndFormula e NoFormula) i takes all h, ok)
    known_plain g (AndFormula e (AndFormula d NoFormula)) i rest takes all p h ok = (group_plain g (AndFormula e (AndFormula d NoFormula)) i takes all h, ok)
    known_plain g (AndFormula e (AndFormula d (AndFormula c fs))) i rest takes all p h ok = more_plain g (takes_more g (many fs) takes) e d (AndFormula c fs) i rest all p h ok

    -- an integer variable is put into a temporary, and gets what stands in one
    held : (x : Site) (n : ℕ) → ScalarSite M x → kind_of (sort_of x) ≡ Integer → n < room → IsPlain V F S (f66.Assign (Ref (temp Integer n)) (Ref (home (variable_of x))))
    held x n s is h = (Integer, temporaries Integer n h, subst (λ k. V (home (variable_of x)) k) is (site_variable x s))

    kept : (x : Site) (n : ℕ) → ScalarSite M x → kind_of (sort_of x) ≡ Integer → n < room → IsPlain V F S (f66.Assign (Ref (home (variable_of x))) (Ref (temp Integer n)))
    kept x n s is h = (Integer, subst (λ k. V (home (variable_of x)) k) is (site_variable x s), temporaries Integer n h)

    -- the routes of an expression, before others
    abbrev Ahead : Expr → Type 0
    Ahead e = Scalars M G e → IsWritten e → (p : Place) (n : ℕ) (rest : Routes) → n + made e ≤ room → Acts rest → Acts (routes home temp callee p e n rest)

    mutual
      pub expr_plain : (e : Expr) → Ahead e
      expr_plain (Int z) s w p n rest fit ok = ok
      expr_plain (Truth b) s w p n rest fit ok = ok
      expr_plain (At x) s w p n rest fit ok = (spare_plain (kind_of (sort_of x)) n (Ref (home (variable_of x))) (omega (fit, arith)) (site_variable x s), ok)
      expr_plain (Call v k es) s w p n rest fit ok =
          actuals_plain es s.1 w p n _ (omega (fit, arith))
          (spare_plain k (n + made_for es) (Item (callee v) (or_one (actuals home temp callee es n))) (omega (fit, arith)) (inr (called_value v k es n s w (omega (fit, arith)))), ok)
      expr_plain (Known g es) s w p n rest fit ok =
          exprs_plain es s w.2 p n _ (omega (fit, arith))
          (known_plain g (formulas home temp callee es n) (n + made_in es) rest (ap (takes_many (arity g)) (many_formulas es n) ∙ w.0) (leaves es n s w.1 w.2 (omega (fit, arith))) p (omega (fit, arith)) ok)
      expr_plain (Group a) s w p n rest fit ok = expr_plain a s w p n rest fit ok
      expr_plain (Plus a) s w p n rest fit ok =
          let h : n + made a ≤ room = omega (fit, arith) in
          expr_plain a s w.1 p n _ h (spare_plain Integer (n + made a) (f66.Plus (formula home temp callee a n)) (omega (fit, arith)) (refl, leaf_of a Integer n w.0 s w.1 h), ok)
      expr_plain (Minus a) s w p n rest fit ok =
          let h : n + made a ≤ room = omega (fit, arith) in
          expr_plain a s w.1 p n _ h (spare_plain Integer (n + made a) (f66.Minus (formula home temp callee a n)) (omega (fit, arith)) (refl, leaf_of a Integer n w.0 s w.1 h), ok)
      expr_plain (Not a) s w p n rest fit ok =
          let h : n + made a ≤ room = omega (fit, arith) in
          expr_plain a s w.1 p n _ h (spare_plain Logical (n + made a) (f66.Not (formula home temp callee a n)) (omega (fit, arith)) (refl, leaf_of a Logical n w.0 s w.1 h), ok)
      expr_plain (Up x) s w p n rest fit ok = (held x n s.0 s.1 (omega (fit, arith)), (spare_plain Integer (n + 1) (f66.Pair operators.Add (Ref (temp Integer n)) (f66.Int (pos 1))) (omega (fit, arith)) (refl, temporaries Integer n (omega (fit, arith)), (refl, refl)), (kept x (n + 1) s.0 s.1 (omega (fit, arith)), ok)))
      expr_plain (Down x) s w p n rest fit ok = (held x n s.0 s.1 (omega (fit, arith)), (spare_plain Integer (n + 1) (f66.Pair operators.Sub (Ref (temp Integer n)) (f66.Int (pos 1))) (omega (fit, arith)) (refl, temporaries Integer n (omega (fit, arith)), (refl, refl)), (kept x (n + 1) s.0 s.1 (omega (fit, arith)), ok)))
      expr_plain (Pair op a b) s w p n rest fit ok =
          let h : n + made a ≤ room = omega (fit, arith) in
          let k : n + made a + made b ≤ room = omega (fit, arith) in
          expr_plain a s.1 w.2 p n _ h
          (combined_plain V F S p op (formula home temp callee a n) (λ r. routes home temp callee p b (n + made a) r) (formula home temp callee b (n + made a)) (temp (kind_by op) (n + made a + made b)) rest (leaf_of a (side op) n w.0 s.1 w.2 h)
          (leaf_of b (side op) (n + made a) w.1 s.2 w.3 k) (temporaries (kind_by op) (n + made a + made b) (omega (fit, arith))) (λ r more. expr_plain b s.2 w.3 p (n + made a) r k more) ok)
      expr_plain (Assign None x e) s w p n rest fit ok =
          expr_plain e s.1 w.1 p n _ fit ((kind_of (sort_of x), site_variable x s.0, leaf_value V F S (formula home temp callee e n) (kind_of (sort_of x)) (leaf_of e (kind_of (sort_of x)) n w.0 s.1 w.1 fit)), ok)
      expr_plain (Assign (Some op) x e) s w p n rest fit ok =
          let j = kind_of (sort_of x) in
          let h : n < room = omega (fit, arith) in
          let k : n + 1 + made e ≤ room = omega (fit, arith) in
          let t : n + 1 + made e < room = omega (fit, arith) in (
            spare_plain j n (Ref (home (variable_of x))) h (site_variable x s.1),
            combined_plain V F S p op (Ref (temp j n)) (λ r. routes home temp callee p e (n + 1) r) (formula home temp callee e (n + 1)) (temp (kind_by op) (n + 1 + made e)) _ (subst (λ i. V (temp j n) i) w.0 (temporaries j n h)) (leaf_of e (side op) (n + 1) w.1 s.2 w.3 k)
                (temporaries (kind_by op) (n + 1 + made e) t) (λ r more. expr_plain e s.2 w.3 p (n + 1) r k more) ((j, site_variable x s.1, subst (λ i. V (temp (kind_by op) (n + 1 + made e)) i) w.2 (temporaries (kind_by op) (n + 1 + made e) t)), ok),
          )

      pub exprs_plain : (es : Exprs) → AllScalars M G es → AreWritten es → (p : Place) (n : ℕ) (rest : Routes) → n + made_in es ≤ room → Acts rest → Acts (all_routes home temp callee p es n rest)
      exprs_plain NoExpr s w p n rest fit ok = ok
      exprs_plain (AndExpr e es) s w p n rest fit ok = expr_plain e s.0 w.0 p n _ (omega (fit, arith)) (exprs_plain es s.1 w.1 p (n + made e) rest (omega (fit, arith)) ok)

      pub actuals_plain : (es : Exprs) → AllScalars M G es → AreWritten es → (p : Place) (n : ℕ) (rest : Routes) → n + made_for es ≤ room → Acts rest → Acts (actual_routes home temp callee p es n rest)
      actuals_plain NoExpr s w p n rest fit ok = ok
      actuals_plain (AndExpr e es) s w p n rest fit ok =
          by_actual home temp callee (λ e1. Ahead e1 → Scalars M G e1 → IsWritten e1 → n + made_for (AndExpr e1 es) ≤ room → Acts (actual_routes home temp callee p (AndExpr e1 es) n rest)) (λ x go s1 w1 fit1. actuals_plain es s.1 w.1 p n rest fit1 ok)
          (λ e1 no go s1 w1 fit1.
          let all : n + (made e1 + made_for es) ≤ room = subst (λ m. n + m ≤ room) (no.makes es) fit1 in
          subst Acts (sym (no.goes p es n rest)) (go s1 w1 p n _ (omega (all, arith)) (actuals_plain es s.1 w.1 p (n + made e1) rest (omega (all, arith)) ok))) e (expr_plain e) s.0 w.0 fit
