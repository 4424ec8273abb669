-- What a linked program of Ratfor means, by the linkage of the units that its units became.
use Rattle.std.specs.Prelude.{ℕ, List}
use Rattle.f66_tree.specs.World.{Record, Shown}
use Rattle.f66_tree.specs.Units.{Context, Linkage}
use Rattle.rat_tree.specs.Meaning.{Body, Ours, Theirs, ratfor}
use Rattle.rat_lower.specs.Notes.{notes_of_unit}

-- in a unit of the program's own names mean what its source declares; a unit beside is the same
abbrev pub source_context : Context → Body → Context
source_context c (Ours ss) = record { header = c.header; notes = notes_of_unit ss }
source_context c (Theirs lines) = c

-- The linkage of the source. It leads to the same units and numbers the same storage units; no name of the source is the spare one.
abbrev pub source_of : Linkage → (ℕ → Body) → Linkage
source_of l bodies = record { context = λ u. source_context (l.context u) (bodies u); find = l.find; main = l.main; deep = l.deep; number = l.number; first = l.first }

-- what the program does over these input records, where each loop makes at most so many turns in one entry
abbrev pub means_linked : Linkage → (ℕ → Body) → List Record → ℕ → Shown
means_linked l bodies input b = ratfor (source_of l bodies) bodies b input
