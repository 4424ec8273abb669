-- The limit, the step and the first value of a `do`.
use Rattle.std.specs.Prelude.{◌≡◌, ℕ, ◌+◌, pos, Option}
use Rattle.ground.specs.declared.place.Place.{Place}
use Rattle.f66_tree.specs.Syntax.{Ref, Int}
use Rattle.efl_program.specs.Typed.{Expr}
use Rattle.routes.specs.Routes.{Routes, AndRoute}
use Rattle.efl_routes.specs.Expressions.{made, sets}
use Rattle.efl_routes.specs.Statements.{made_if_any}
use Rattle.efl_emit.specs.declared.naming.Naming.{Naming}
use Rattle.efl_emit.specs.declared.starts.Start.{Start}
use Rattle.efl_emit.specs.Emitted.{Emission, Emitted}
use Rattle.efl_emit.specs.Names.{home_of, made_of, operand_of}
use Rattle.efl_emit.specs.Parts.{routes_of, value_of}
use Rattle.efl_emit.specs.Words.{routes_if_any, value_or}

-- the first value, the limit and the step: the limit comes first, and then the step
abbrev pub start_routes : Naming → Place → ℕ → Expr → Expr → Option Expr → ℕ → Routes → Routes
start_routes s p v a z d n rest =
    let m = n + made z + made_if_any d in
    routes_of s p z n (routes_if_any s p d (n + made z) (routes_of s p a m (AndRoute (sets p (Ref (home_of s v)) (value_of s a m)) rest)))

pub record IsStarted (s : Naming) (p : Place) (v : ℕ) (a z : Expr) (d : Option Expr) (n : ℕ) (r : Start) (before after : Emission) : Type 0 where
  pub emitted : Emitted (made_of s) (start_routes s p v a z d n) before after
  pub limit : operand_of r.limit ≡ value_of s z n
  pub by : operand_of r.by ≡ value_or s d (Int (pos 1)) (n + made z)
  pub next : r.next ≡ n + made z + made_if_any d
