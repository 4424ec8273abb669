-- The units of FORTRAN that routes become, and when their runs reach what the routes show.
use Rattle.std.specs.Prelude.{◌≡◌, ◌≤◌, ℕ, ◌+◌, Bool, true, false, List, [], ◌∷◌, None}
use Rattle.ground.specs.declared.place.Place.{Place}
use Rattle.f66_tree.specs.Syntax.{Stop, Return, Line, unlabelled_line}
use Rattle.f66_tree.specs.World.{Finish, Ended, GoesOn, Shown}
use Rattle.f66_tree.specs.Units.{is_main, Linkage}
use Rattle.f66_tree.specs.Execution.{runnable, closers}
use Rattle.f66_tree.specs.Agreement.{Same}
use Rattle.routes.specs.Routes.{Routes}
use Rattle.routes.specs.Code.{all_code}
use Rattle.routes.specs.Placed.{AllPlaced}

-- a unit ends with STOP in a main, and else with RETURN
abbrev pub ending : Bool → Place → List Line
ending true p = unlabelled_line p (Stop None) ∷ []
ending false p = unlabelled_line p Return ∷ []

-- the units of routes
pub record Units : Type 0 where
  pub linked : Linkage
  pub codes : ℕ → List Line
  pub bodies : ℕ → Routes
  pub made : ℕ → ℕ → ℕ
  pub last : ℕ → Place
  pub executed : (u : ℕ) → runnable (codes u) ≡ runnable (all_code (made u) (bodies u) 0 [] (ending (is_main (linked.context u).header) (last u)))
  pub placed : (u : ℕ) → AllPlaced (made u) (linked.context u).notes (codes u) (bodies u) 0 [] (ending (is_main (linked.context u).header) (last u))
  pub no_do : (u m : ℕ) → closers m (codes u) ≡ []

-- what a bounded run of the routes says of the target's runs
pub record Reaches (b : ℕ) (r : Shown) (t : ℕ → Shown) : Type 0 where
  pub over : (f : Finish) → r.end ≡ Ended f → (d : ℕ) × (d ≤ r.work) × ((k : ℕ) → Same r (t (d + k)))
  pub on : r.end ≡ GoesOn → (d : ℕ) × (b ≤ d) × (d ≤ r.work) × ((t d).end ≡ GoesOn) × (r.records ≡ (t d).records)
