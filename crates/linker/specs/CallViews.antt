-- The calls of a program in memory.
use Rattle.std.specs.Prelude.{◌≡◌, ℕ, List, map}
use Rattle.std.specs.HashMap.{get_by}
use Rattle.std.specs.Str.{bytes_eq}
use Rattle.f66_tree.specs.Syntax.{Routine}
use Rattle.f66_tree.specs.Views.{routine_of}
use Rattle.f66_program.specs.Calls.{unit_named}
use Rattle.linker.specs.declared.calls.Calls.{Calls}
use Rattle.linker.specs.SiteViews.{site_of}
use Rattle.linker.specs.Sites.{sites_of}

abbrev pub units_in : Calls → List Routine
units_in c = map routine_of c.units.now

-- the numbers are those of the units of each name, and the list has all calls
pub record AreCalls (c : Calls) : Type 0 where
  pub numbers : (q : List ℕ) → get_by (λ k. bytes_eq q k.now) c.numbers ≡ unit_named q (units_in c)
  pub sites : map site_of c.sites.items ≡ sites_of (units_in c)
