-- Units that say in brief what others say.
use Rattle.std.specs.Prelude.{◌≡◌, List}
use Rattle.f66_tree.specs.Syntax.{Routine}
use Rattle.spared_units.specs.Spared.{Twins, ones, others}

-- each says what the one in its place says
abbrev pub AreBriefs : List Routine → List Routine → Type 0
AreBriefs said briefs = (ts : List Twins) × (ones ts ≡ said) × (others ts ≡ briefs)
