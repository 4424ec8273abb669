-- What is done before each turn of a loop, and behind it.
use Rattle.std.specs.Prelude.{ℕ, ◌+◌, Option, option_map}
use Rattle.ground.specs.declared.place.Place.{Place}
use Rattle.ground.specs.declared.value.Kind.TheVariants.{Integer, Logical}
use Rattle.f66_tree.specs.declared.expression.Operator.TheVariants.{Add, Le}
use Rattle.f66_tree.specs.Syntax as f66
use Rattle.f66_tree.specs.Syntax.{Formula, Ref}
use Rattle.efl_program.specs.Typed.{Expr}
use Rattle.efl_typed_tree.specs.Views.{expr_of, action_of}
use Rattle.routes.specs.Routes.{BreakIf, Routes, AndRoute}
use Rattle.efl_routes.specs.Expressions.{sets}
use Rattle.efl_routes.specs.Statements.{unless_any}
use Rattle.efl_emit.specs.declared.naming.Naming.{Naming}
use Rattle.efl_emit.specs.declared.turns.Turn.{Turn}
use Rattle.efl_emit.specs.declared.turns.Turn.TheVariants as turns
use Rattle.efl_emit.specs.Names.{home_of, temp_of, callee_of, label_of, own_of, operand_of}
use Rattle.efl_emit.specs.Words.{act_if_any, unless_routes, where_routes}

abbrev pub unless_any_of : Naming → Place → Option Expr → ℕ → Routes → Routes
unless_any_of s p e n rest = unless_any (home_of s) temp_of (callee_of s) (label_of s) (own_of s) p e n rest

-- the test of a `do`, and its step, before other routes
abbrev pub limit_of : Naming → Place → ℕ → Formula → ℕ → Routes → Routes
limit_of s p v limit n rest =
    AndRoute (sets p (Ref (temp_of Integer n)) (Ref (home_of s v))) (AndRoute (sets p (Ref (temp_of Logical (n + 1))) (f66.Pair Le (Ref (temp_of Integer n)) limit)) (AndRoute (BreakIf p (f66.Not (Ref (temp_of Logical (n + 1)))) 0) rest))

abbrev pub step_of : Naming → Place → ℕ → Formula → ℕ → Routes → Routes
step_of s p v by n rest =
    AndRoute (sets p (Ref (temp_of Integer n)) (Ref (home_of s v))) (AndRoute (sets p (Ref (temp_of Integer (n + 1))) (f66.Pair Add (Ref (temp_of Integer n)) by)) (AndRoute (sets p (Ref (home_of s v)) (Ref (temp_of Integer (n + 1)))) rest))

abbrev pub top_of : Naming → Place → Turn → ℕ → Routes → Routes
top_of s p turns.Always n rest = rest
top_of s p (turns.While e) n rest = unless_routes s p (expr_of e.now) n rest
top_of s p (turns.For e step) n rest = unless_any_of s p (option_map expr_of e.now) n rest
top_of s p (turns.Until e q) n rest = rest
top_of s p (turns.Do v limit by) n rest = limit_of s p v (operand_of limit) n rest

abbrev pub bottom_of : Naming → Place → Turn → ℕ → Routes → Routes
bottom_of s p turns.Always n rest = rest
bottom_of s p (turns.While e) n rest = rest
bottom_of s p (turns.For e step) n rest = act_if_any s p (option_map action_of step.now) n rest
bottom_of s p (turns.Until e q) n rest = where_routes s q (expr_of e.now) n rest
bottom_of s p (turns.Do v limit by) n rest = step_of s p v (operand_of by) n rest
