-- What the code of units goes by: the linked units, and where their code and what it keeps have their places.
use Rattle.std.specs.Prelude.{ℕ, List}
use Rattle.ground.specs.Content.{Content}
use Rattle.f66_tree.specs.Syntax.{Text, Line}
use Rattle.f66_tree.specs.Units.{Context, Linkage, sizes_of, places_of}

-- Of each unit its statements, the instruction that is its entry, and the plan of each format's label. Above the storage units of
-- all names each unit has spare ones, for values that it hands on and for implied DOs, and then those of its DO statements.
pub record Layout : Type 0 where
  pub linked : Linkage
  pub lines : ℕ → List Line
  pub entry : ℕ → ℕ
  pub plan : ℕ → ℕ → ℕ
  pub spare : ℕ → ℕ
  pub loops : ℕ → ℕ
  -- the initial values, by their storage units
  pub presets : List (ℕ × Content)

-- how many places a name has in its unit
abbrev pub size_in : Context → Text → ℕ
size_in c x = places_of (sizes_of x c.notes)
