-- What is emitted for the parts of statements.
use Rattle.std.specs.Prelude.{◌≡◌, ◌⊎◌, ℕ, ◌+◌, ◌<◌, ◌≤◌, List, [], ◌∷◌, length, pos, Option, Some, None, ⊤}
use Rattle.ground.specs.declared.place.Place.{Place}
use Rattle.ground.specs.declared.value.Kind.{Kind}
use Rattle.ground.specs.declared.value.Kind.TheVariants.{Integer, Logical}
use Rattle.f66_tree.specs.declared.expression.Expr.{Expr as AnExpr}
use Rattle.f66_tree.specs.declared.expression.Operator.{Operator}
use Rattle.f66_tree.specs.Syntax.{Text, Formula, Formulas, Ref, Int, Item, Group, Assign, unlabelled_line}
use Rattle.f66_tree.specs.Views.{formula_of, formulas_of}
use Rattle.efl_program.specs.Typed.{Expr, Exprs, Site, Op, Plain}
use Rattle.routes.specs.Routes.{Routes, AndRoute}
use Rattle.efl_room.specs.Actuals.{place_in}
use Rattle.efl_routes.specs.Expressions.{made, made_in, made_for, formula, formulas, actuals, routes, all_routes, actual_routes, site_formula, combined, gathered, kind_by, sets}
use Rattle.efl_emit.specs.declared.naming.Naming.{Naming}
use Rattle.efl_emit.specs.declared.operand.Evaluated.{Evaluated}
use Rattle.efl_emit.specs.declared.arguments.Arguments.{Arguments}
use Rattle.efl_emit.specs.Emitted.{Emission, Puts, Emitted}
use Rattle.efl_emit.specs.Names.{home_of, temp_of, callee_of, made_of, operand_of}

abbrev pub routes_of : Naming → Place → Expr → ℕ → Routes → Routes
routes_of s p e n rest = routes (home_of s) temp_of (callee_of s) p e n rest

abbrev pub value_of : Naming → Expr → ℕ → Formula
value_of s e n = formula (home_of s) temp_of (callee_of s) e n

abbrev pub place_formula : Naming → Site → Formula
place_formula s x = site_formula (home_of s) temp_of (callee_of s) x

-- a temporary got the value of a formula, and is the operand
pub record IsSet (p : Place) (k : Kind) (n : ℕ) (x : Formula) (r : Evaluated) (before after : Emission) : Type 0 where
  pub put : Puts (unlabelled_line p (Assign (Ref (temp_of k n)) x)) before after
  pub operand : operand_of r.operand ≡ Ref (temp_of k n)
  pub next : r.next ≡ n + 1

-- a temporary got what an intrinsic function gives of these arguments
abbrev pub IsOfGroup : Place → Text → ℕ → List AnExpr → Evaluated → Emission → Emission → Type 0
IsOfGroup p x n group r before after = IsSet p Integer n (Item x (formulas_of group)) r before after

-- the arguments of a full group gave the temporary its value, and it begins the next group
pub record IsNextGroup (p : Place) (x : Text) (n : ℕ) (group more : List AnExpr) (before after : Emission) : Type 0 where
  pub full : 60 ≤ length group
  pub put : Puts (unlabelled_line p (Assign (Ref (temp_of Integer n)) (Item x (formulas_of group)))) before after
  pub first : AnExpr
  pub begins : more ≡ first ∷ []
  pub own : formula_of first ≡ Ref (temp_of Integer n)

-- a group has room for one argument more, or a next one was begun
abbrev pub HasRoom : Place → Text → ℕ → List AnExpr → List AnExpr → Emission → Emission → Type 0
HasRoom p x n group more before after = ((length group < 60) × (more ≡ group) × (after ≡ before)) ⊎ IsNextGroup p x n group more before after

-- a temporary got what an intrinsic function gives of these formulas, by groups
pub record IsGathered (p : Place) (x : Text) (n : ℕ) (es : Formulas) (r : Evaluated) (before after : Emission) : Type 0 where
  pub emitted : (made : ℕ → ℕ) → Emitted made (gathered p x (Ref (temp_of Integer n)) es) before after
  pub operand : operand_of r.operand ≡ Ref (temp_of Integer n)
  pub next : r.next ≡ n + 1

-- an expression was emitted where n temporaries are in use: its operand, and the number of the next temporary
pub record IsEvaluated (s : Naming) (p : Place) (e : Expr) (n : ℕ) (r : Evaluated) (before after : Emission) : Type 0 where
  pub emitted : Emitted (made_of s) (routes_of s p e n) before after
  pub operand : operand_of r.operand ≡ value_of s e n
  pub next : r.next ≡ n + made e

-- a right side was emitted, and what an operator makes of it and of a left side
pub record IsCombined (s : Naming) (p : Place) (op : Op) (left : Formula) (e : Expr) (n : ℕ) (r : Evaluated) (before after : Emission) : Type 0 where
  pub emitted : Emitted (made_of s) (combined p op left (λ rest. routes_of s p e n rest) (value_of s e n) (Ref (temp_of (kind_by op) (n + made e)))) before after
  pub operand : operand_of r.operand ≡ Ref (temp_of (kind_by op) (n + made e))
  pub next : r.next ≡ n + made e + 1

-- expressions were emitted
pub record AreEvaluated (s : Naming) (p : Place) (es : Exprs) (n : ℕ) (r : Arguments) (before after : Emission) : Type 0 where
  pub emitted : Emitted (made_of s) (λ rest. all_routes (home_of s) temp_of (callee_of s) p es n rest) before after
  pub formulas : formulas_of r.list.items ≡ formulas (home_of s) temp_of (callee_of s) es n
  pub next : r.next ≡ n + made_in es

-- an integer variable with one by an operator
abbrev pub step_routes : Naming → Place → Operator → Site → ℕ → Routes → Routes
step_routes s p op x n rest =
    AndRoute (sets p (Ref (temp_of Integer n)) (place_formula s x)) (combined p (Plain op) (Ref (temp_of Integer n)) (λ r. r) (Int (pos 1)) (Ref (temp_of Integer (n + 1))) (AndRoute (sets p (place_formula s x) (Ref (temp_of Integer (n + 1)))) rest))

-- one actual: it adds nothing where it is a place
abbrev pub actual_route : Naming → Place → Option Site → Expr → ℕ → Routes → Routes
actual_route s p (Some x) e n rest = rest
actual_route s p None e n rest = routes_of s p e n rest

abbrev pub actual_formula : Naming → Option Site → Expr → ℕ → Formula
actual_formula s (Some x) e n = place_formula s x
actual_formula s None e n = Group (value_of s e n)

abbrev pub made_as_actual : Option Site → Expr → ℕ
made_as_actual (Some x) e = 0
made_as_actual None e = made e

-- actuals were emitted
pub record AreActuals (s : Naming) (p : Place) (es : Exprs) (n : ℕ) (r : Arguments) (before after : Emission) : Type 0 where
  pub emitted : Emitted (made_of s) (λ rest. actual_routes (home_of s) temp_of (callee_of s) p es n rest) before after
  pub formulas : formulas_of r.list.items ≡ actuals (home_of s) temp_of (callee_of s) es n
  pub next : r.next ≡ n + made_for es

-- one actual was emitted
pub record IsActual (s : Naming) (p : Place) (e : Expr) (n : ℕ) (r : AnExpr × ℕ) (before after : Emission) : Type 0 where
  pub emitted : Emitted (made_of s) (actual_route s p (place_in e) e n) before after
  pub formula : formula_of r.0 ≡ actual_formula s (place_in e) e n
  pub next : r.1 ≡ n + made_as_actual (place_in e) e

-- an integer variable got what an operator makes of it and of one
pub record IsStepped (s : Naming) (p : Place) (op : Operator) (x : Site) (n : ℕ) (r : Evaluated) (before after : Emission) : Type 0 where
  pub emitted : Emitted (made_of s) (step_routes s p op x n) before after
  pub operand : operand_of r.operand ≡ Ref (temp_of Integer (n + 1))
  pub next : r.next ≡ n + 2

-- a right side was emitted that is the value of a sequential operator
pub record IsLast (s : Naming) (p : Place) (e : Expr) (n : ℕ) (r : Evaluated) (before after : Emission) : Type 0 where
  pub emitted : Emitted (made_of s) (λ rest. routes_of s p e n (AndRoute (sets p (Ref (temp_of Logical (n + made e))) (value_of s e n)) rest)) before after
  pub operand : operand_of r.operand ≡ Ref (temp_of Logical (n + made e))
  pub next : r.next ≡ n + made e + 1

abbrev pub IsSequential : Op → Type 0
IsSequential (Plain op) = ⊥
IsSequential _ = ⊤
