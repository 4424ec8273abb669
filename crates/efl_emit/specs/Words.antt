-- The routes of statements' parts, by the names that a naming gives.
use Rattle.std.specs.Prelude.{◌≡◌, ℕ, ◌+◌, [], ◌∷◌, Option, Some, None}
use Rattle.ground.specs.declared.place.Place.{Place}
use Rattle.f66_tree.specs.Syntax.{Formula}
use Rattle.efl_program.specs.Typed.{Expr, Action, Return}
use Rattle.routes.specs.Routes.{Routes, AndRoute}
use Rattle.routes.specs.Code.{Behind}
use Rattle.efl_routes.specs.Statements.{act_routes, if_any, first_if_any, unless, where_so, made_if_any, route}
use Rattle.efl_emit.specs.declared.naming.Naming.{Naming}
use Rattle.efl_emit.specs.declared.operand.Evaluated.{Evaluated}
use Rattle.efl_emit.specs.Emitted.{Emission, EmittedIn, Emitted}
use Rattle.efl_emit.specs.Names.{home_of, temp_of, callee_of, label_of, own_of, made_of, operand_of}
use Rattle.efl_emit.specs.Parts.{value_of}

abbrev pub act_of : Naming → Place → Action → ℕ → Routes → Routes
act_of s p a n rest = act_routes (home_of s) temp_of (callee_of s) (label_of s) (own_of s) p a n rest

abbrev pub act_if_any : Naming → Place → Option Action → ℕ → Routes → Routes
act_if_any s p a n rest = if_any (home_of s) temp_of (callee_of s) (label_of s) (own_of s) p a n rest

abbrev pub routes_if_any : Naming → Place → Option Expr → ℕ → Routes → Routes
routes_if_any s p e n rest = first_if_any (home_of s) temp_of (callee_of s) (label_of s) (own_of s) p e n rest

-- a ring is left where a condition does not hold, or where it does
abbrev pub unless_routes : Naming → Place → Expr → ℕ → Routes → Routes
unless_routes s p e n rest = unless (home_of s) temp_of (callee_of s) (label_of s) (own_of s) p e n 0 rest

abbrev pub where_routes : Naming → Place → Expr → ℕ → Routes → Routes
where_routes s p e n rest = where_so (home_of s) temp_of (callee_of s) (label_of s) (own_of s) p e n 0 rest

-- routes were emitted that may leave one ring, behind which a label is
pub record LeavesOne (made : ℕ → ℕ) (f : Routes → Routes) (l : ℕ) (before after : Emission) : Type 0 where
  pub within : (ls : Behind) → EmittedIn made f (l ∷ ls) before after

abbrev pub value_or : Naming → Option Expr → Formula → ℕ → Formula
value_or s None other n = other
value_or s (Some e) other n = value_of s e n

-- an expression was emitted where there is one, and else its operand is another
pub record IsEvaluatedIfAny (s : Naming) (p : Place) (e : Option Expr) (other : Formula) (n : ℕ) (r : Evaluated) (before after : Emission) : Type 0 where
  pub emitted : Emitted (made_of s) (routes_if_any s p e n) before after
  pub operand : operand_of r.operand ≡ value_or s e other n
  pub next : r.next ≡ n + made_if_any e

-- a return, which is the same in all rings
abbrev pub return_of : Naming → Place → Option Expr → ℕ → Routes → Routes
return_of s p e n = AndRoute (route (home_of s) temp_of (callee_of s) (label_of s) (own_of s) (Return p e) [] n)
