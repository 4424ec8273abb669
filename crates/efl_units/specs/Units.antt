-- The names in memory of the variables and procedures of a program.
use Rattle.std.specs.Prelude.{◌≡◌, ℕ}
use Rattle.efl_tree.specs.Syntax.{EflProgram}
use Rattle.efl_emit.specs.declared.naming.Naming.{Naming}
use Rattle.efl_emit.specs.Names.{home_of, callee_of}
use Rattle.efl_naming.specs.Choice.{home_name, callee_name}

pub record HasNames (p : EflProgram) (s : Naming) : Type 0 where
  pub homes : (v : ℕ) → home_of s v ≡ home_name p v
  pub callees : (n : ℕ) → callee_of s n ≡ callee_name p n
