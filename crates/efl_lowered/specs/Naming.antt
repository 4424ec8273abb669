-- The names that FORTRAN's units have for what is in a program of EFL, whose own names may be longer and may stand for several things.
use Rattle.std.specs.Prelude.{ℕ}
use Rattle.ground.specs.declared.value.Kind.{Kind}
use Rattle.f66_tree.specs.Syntax.{Text}

-- A variable's name, by its number; a procedure's; a label of a procedure; the labels that are made in a procedure, from the first on; and
-- the temporaries of a unit, of each type so many as it has room for.
pub record Naming : Type 0 where
  pub home : ℕ → Text
  pub callee : ℕ → Text
  pub label : ℕ → Text → ℕ
  pub made : ℕ → ℕ → ℕ
  pub temp : Kind → ℕ → Text
  pub room : ℕ → ℕ
