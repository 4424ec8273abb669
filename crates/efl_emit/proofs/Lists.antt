-- The lists of expressions, one after another.
use Rattle.std.proofs.Common.{◌≡◌, ℕ, ◌+◌, List, [], ◌∷◌, ◌++◌, Option, None, option_map, false, true≢false, ◌==◌, map, length, refl, sym, ap, subst, ◌∙◌, arith}
use Rattle.std.proofs.lemmas.List.{map-append}
use Rattle.ground.specs.declared.place.Place.{Place}
use Rattle.f66_tree.specs.declared.expression.Expr.{Expr as AnExpr}
use Rattle.f66_tree.specs.Syntax as f66
use Rattle.efl_typed_tree.specs.declared.expression.Scalar.{Scalar}
use Rattle.efl_typed_tree.specs.Views.{site_of}
use Rattle.f66_tree.specs.Syntax.{Text, Formula, Formulas, NoFormula, AndFormula}
use Rattle.f66_tree.specs.Views.{formula_of, formulas_of, chained}
use Rattle.efl_program.specs.Typed.{Expr, Int, Truth, At, Call, Known, Plus, Minus, Not, Up, Down, Pair, Assign, Exprs, NoExpr, AndExpr, Site}
use Rattle.efl_program.specs.Typed as typed
use Rattle.routes.specs.Routes.{Routes}
use Rattle.routes.specs.Code.{Behind}
use Rattle.efl_routes.specs.Expressions.{or_one, made, made_in, made_for, formulas, actuals, all_routes, actual_routes}
use Rattle.efl_emit.specs.declared.naming.Naming.{Naming}
use Rattle.efl_emit.specs.declared.operand.Evaluated.{Evaluated}
use Rattle.efl_emit.specs.declared.arguments.Arguments.{Arguments}
use Rattle.efl_emit.specs.Emitted.{Emission, Emitted}
use Rattle.efl_emit.specs.Names.{home_of, temp_of, callee_of, made_of, operand_of}
use Rattle.efl_room.specs.Actuals.{place_in}
use Rattle.efl_emit.specs.Parts.{routes_of, value_of, place_formula, actual_route, actual_formula, made_as_actual, IsEvaluated, AreEvaluated, IsActual, AreActuals}
use Rattle.efl_emit.proofs.Emitting.{SoFar, one_more, all_done, split_first}

-- formulas before others
abbrev pub before_formulas : List Formula → Formulas → Formulas
before_formulas [] fs = fs
before_formulas (x ∷ xs) fs = AndFormula x (before_formulas xs fs)

before_one : (xs : List Formula) (x : Formula) (fs : Formulas) → before_formulas (xs ++ x ∷ []) fs ≡ before_formulas xs (AndFormula x fs)
before_one [] x fs = refl
before_one (y ∷ xs) x fs = ap (AndFormula y) (before_one xs x fs)

pub before_none : (xs : List Formula) → before_formulas xs NoFormula ≡ chained xs
before_none [] = refl
before_none (x ∷ xs) = ap (AndFormula x) (before_none xs)

-- one value more in memory
pub more_formulas : (list more : List AnExpr) (x : AnExpr) (y : Formula) (fs : Formulas) → more ≡ list ++ x ∷ [] → formula_of x ≡ y → before_formulas (map formula_of more) fs ≡ before_formulas (map formula_of list) (AndFormula y fs)
more_formulas list more x y fs is e =
    ap (λ all. before_formulas (map formula_of all) fs) is
    ∙ ap (λ all. before_formulas all fs) (map-append formula_of list (x ∷ []))
    ∙ before_one (map formula_of list) (formula_of x) fs
    ∙ ap (λ v. before_formulas (map formula_of list) (AndFormula v fs)) e

-- ---- expressions ----

abbrev all_of : Naming → Place → Exprs → ℕ → Routes → Routes
all_of s p es n rest = all_routes (home_of s) temp_of (callee_of s) p es n rest

abbrev values_of : Naming → Exprs → ℕ → Formulas
values_of s es n = formulas (home_of s) temp_of (callee_of s) es n

pub record AllSoFar (s : Naming) (p : Place) (all left : Exprs) (n m : ℕ) (list : List AnExpr) (before now : Emission) : Type 0 where
  pub emitted : (ls : Behind) → SoFar (made_of s) (all_of s p all n) (all_of s p left m) ls before now
  pub formulas : values_of s all n ≡ before_formulas (map formula_of list) (values_of s left m)
  pub next : n + made_in all ≡ m + made_in left

pub all_more : {s : Naming} {p : Place} {all here left : Exprs} {e : Expr} {n next : ℕ} {list more : List AnExpr} (x : AnExpr) {r : Evaluated} {a b c : Emission} →
    here ≡ AndExpr e left → AllSoFar s p all here n next list a b → IsEvaluated s p e next r b c → more ≡ list ++ x ∷ [] → formula_of x ≡ operand_of r.operand → AllSoFar s p all left n r.next more a c
all_more {s} {p} {all} {here} {left} {e} {n} {next} {list} {more} x {r} {a} {b} {c} is h g longer same =
    let so_far = subst (λ v. AllSoFar s p all v n next list a b) is h in
    subst (λ m. AllSoFar s p all left n m more a c) (sym g.next)
    (record {
      emitted = λ ls. one_more (all_of s p all n) (all_of s p left (next + made e)) (routes_of s p e next) (so_far.emitted ls) (g.emitted.within ls);
      formulas = so_far.formulas ∙ sym (more_formulas list more x (value_of s e next) (values_of s left (next + made e)) longer (same ∙ g.operand));
      next = omega (arith, so_far.next);
    })

pub all_over : {s : Naming} {p : Place} {all here : Exprs} {n : ℕ} {r : Arguments} {a b : Emission} → here ≡ NoExpr → AllSoFar s p all here n r.next r.list.items a b → AreEvaluated s p all n r a b
all_over {s} {p} {all} {here} {n} {r} {a} {b} is h =
    let so_far = subst (λ v. AllSoFar s p all v n r.next r.list.items a b) is h in
    record {
      emitted = record { within = λ ls. all_done (all_of s p all n) (so_far.emitted ls) };
      formulas = sym (so_far.formulas ∙ before_none (map formula_of r.list.items));
      next = omega (arith, so_far.next);
    }

-- ---- actuals ----

abbrev actuals_routes : Naming → Place → Exprs → ℕ → Routes → Routes
actuals_routes s p es n rest = actual_routes (home_of s) temp_of (callee_of s) p es n rest

abbrev actuals_of : Naming → Exprs → ℕ → Formulas
actuals_of s es n = actuals (home_of s) temp_of (callee_of s) es n

-- a list of actuals by its first
pub record ByFirst (s : Naming) (p : Place) (e : Expr) (es : Exprs) (n : ℕ) : Type 0 where
  pub routes : (rest : Routes) → actuals_routes s p (AndExpr e es) n rest ≡ actual_route s p (place_in e) e n (actuals_routes s p es (n + made_as_actual (place_in e) e) rest)
  pub formulas : actuals_of s (AndExpr e es) n ≡ AndFormula (actual_formula s (place_in e) e n) (actuals_of s es (n + made_as_actual (place_in e) e))
  pub made : made_for (AndExpr e es) ≡ made_as_actual (place_in e) e + made_for es

by_first : (s : Naming) (p : Place) (e : Expr) (es : Exprs) (n : ℕ) → ByFirst s p e es n
by_first s p (Int z) es n = record { routes = λ rest. refl; formulas = refl; made = refl }
by_first s p (Truth b) es n = record { routes = λ rest. refl; formulas = refl; made = refl }
by_first s p (At x) es n =
    let same : n ≡ n + 0 = omega arith in
    record { routes = λ rest. ap (λ k. actuals_routes s p es k rest) same; formulas = ap (λ k. AndFormula (place_formula s x) (actuals_of s es k)) same; made = omega arith }
by_first s p (Call v k as') es n = record { routes = λ rest. refl; formulas = refl; made = refl }
by_first s p (Known f as') es n = record { routes = λ rest. refl; formulas = refl; made = refl }
by_first s p (typed.Group x) es n = record { routes = λ rest. refl; formulas = refl; made = refl }
by_first s p (Plus x) es n = record { routes = λ rest. refl; formulas = refl; made = refl }
by_first s p (Minus x) es n = record { routes = λ rest. refl; formulas = refl; made = refl }
by_first s p (Not x) es n = record { routes = λ rest. refl; formulas = refl; made = refl }
by_first s p (Up x) es n = record { routes = λ rest. refl; formulas = refl; made = refl }
by_first s p (Down x) es n = record { routes = λ rest. refl; formulas = refl; made = refl }
by_first s p (Pair op x y) es n = record { routes = λ rest. refl; formulas = refl; made = refl }
by_first s p (Assign op x y) es n = record { routes = λ rest. refl; formulas = refl; made = refl }

pub first_made : (e : Expr) (es : Exprs) → made_for (AndExpr e es) ≡ made_as_actual (place_in e) e + made_for es
first_made (Int z) es = refl
first_made (Truth b) es = refl
first_made (At x) es = omega arith
first_made (Call v k as') es = refl
first_made (Known f as') es = refl
first_made (typed.Group x) es = refl
first_made (Plus x) es = refl
first_made (Minus x) es = refl
first_made (Not x) es = refl
first_made (Up x) es = refl
first_made (Down x) es = refl
first_made (Pair op x y) es = refl
first_made (Assign op x y) es = refl

pub record ActualsSoFar (s : Naming) (p : Place) (all left : Exprs) (n m : ℕ) (list : List AnExpr) (before now : Emission) : Type 0 where
  pub emitted : (ls : Behind) → SoFar (made_of s) (actuals_routes s p all n) (actuals_routes s p left m) ls before now
  pub formulas : actuals_of s all n ≡ before_formulas (map formula_of list) (actuals_of s left m)
  pub next : n + made_for all ≡ m + made_for left

pub actuals_more : {s : Naming} {p : Place} {all here left : Exprs} {e : Expr} {n next behind : ℕ} {list more : List AnExpr} {x : AnExpr} {a b c : Emission} →
    here ≡ AndExpr e left → ActualsSoFar s p all here n next list a b → IsActual s p e next (x, behind) b c → more ≡ list ++ x ∷ [] → ActualsSoFar s p all left n behind more a c
actuals_more {s} {p} {all} {here} {left} {e} {n} {next} {behind} {list} {more} {x} {a} {b} {c} is h g longer =
    let so_far = subst (λ v. ActualsSoFar s p all v n next list a b) is h in
    let by = by_first s p e left next in
    let m = next + made_as_actual (place_in e) e in
    subst (λ k. ActualsSoFar s p all left n k more a c) (sym g.next)
    (record {
      emitted = λ ls. one_more (actuals_routes s p all n) (actuals_routes s p left m) (actual_route s p (place_in e) e next) (split_first by.routes (so_far.emitted ls)) (g.emitted.within ls);
      formulas = so_far.formulas ∙ ap (before_formulas (map formula_of list)) by.formulas ∙ sym (more_formulas list more x (actual_formula s (place_in e) e next) (actuals_of s left m) longer g.formula);
      next = omega (arith, so_far.next, by.made);
    })

pub actuals_over : {s : Naming} {p : Place} {all here : Exprs} {n : ℕ} {r : Arguments} {a b : Emission} → here ≡ NoExpr → ActualsSoFar s p all here n r.next r.list.items a b → AreActuals s p all n r a b
actuals_over {s} {p} {all} {here} {n} {r} {a} {b} is h =
    let so_far = subst (λ v. ActualsSoFar s p all v n r.next r.list.items a b) is h in
    record {
      emitted = record { within = λ ls. all_done (actuals_routes s p all n) (so_far.emitted ls) };
      formulas = sym (so_far.formulas ∙ before_none (map formula_of r.list.items));
      next = omega (arith, so_far.next);
    }

pub actual_value : {s : Naming} {p : Place} {e : Expr} {n : ℕ} {r : Evaluated} {x : AnExpr} {a b : Emission} (o : Option Scalar) → o ≡ None → option_map site_of o ≡ place_in e →
    IsEvaluated s p e n r a b → formula_of x ≡ f66.Group (operand_of r.operand) → IsActual s p e n (x, r.next) a b
actual_value {s} {p} {e} {n} {r} {x} {a} {b} o none same h is =
    let place : None ≡ place_in e = sym (ap (option_map site_of) none) ∙ same in
    record {
      emitted = subst (λ v. Emitted (made_of s) (actual_route s p v e n) a b) place h.emitted;
      formula = is ∙ ap f66.Group h.operand ∙ ap (λ v. actual_formula s v e n) place;
      next = h.next ∙ ap (λ v. n + made_as_actual v e) place;
    }

-- a list that has an argument stays as it is
pub kept_arguments : (list : List AnExpr) → (length list == 0) ≡ false → formulas_of list ≡ or_one (formulas_of list)
kept_arguments [] e = absurd (true≢false e)
kept_arguments (x ∷ xs) e = refl
