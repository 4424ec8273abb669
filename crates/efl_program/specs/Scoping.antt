-- What keeps a whole program from being lost.
use Rattle.std.specs.Prelude.{◌≡◌, ◌<◌, ◌⊎◌, ℕ, true, []}
use Rattle.efl_program.specs.Typed.{Stmts}
use Rattle.efl_program.specs.Setting.{Linkage}
use Rattle.efl_program.specs.Meaning.{stands}
use Rattle.efl_program.specs.Scoped.{AllScoped}

-- the calls go down from the main, and each procedure's jumps have where to go
pub record Scoping (l : Linkage) (bodies : ℕ → Stmts) : Type 0 where
  pub rank : ℕ → ℕ
  pub scoped : (v : ℕ) → AllScoped (λ u. rank u < rank v) (bodies v) [] (λ q. (stands q (bodies v) ≡ true) ⊎ ⊥)
  pub deep : rank l.main < l.deep
