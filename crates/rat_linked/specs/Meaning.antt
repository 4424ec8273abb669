-- What a program of Ratfor means, by a linkage of what its units say.
use Rattle.std.specs.Prelude.{ℕ, List, [], Some, None, map}
use Rattle.std.specs.List.{AllZip, slice_get}
use Rattle.f66_tree.specs.Syntax.{Routine}
use Rattle.f66_tree.specs.World.{Record, Shown}
use Rattle.f66_tree.specs.Units.{Linkage}
use Rattle.f66_program.specs.Linking.{IsLinkage}
use Rattle.rat_tree.specs.Syntax.{RatRoutine}
use Rattle.rat_tree.specs.Meaning.{Body, Ours, Theirs, ratfor}
use Rattle.rat_lower.specs.Linkages.{source_of}
use Rattle.rat_said.specs.Said.{said_routine}
use Rattle.rat_linked.specs.Made.{IsMadeOf}

-- the bodies of the units
abbrev pub bodies_of : List RatRoutine → ℕ → Body
bodies_of us u = elim (slice_get us u) [ Some r ↦ Ours r.body | None ↦ Theirs [] ]

-- what the program does over these input records, where each loop makes at most b turns in one entry; the units are linked as those
-- that say what they say
abbrev pub means_program : List RatRoutine → Linkage → List Record → ℕ → Shown
means_program us l input b = ratfor l (bodies_of us) b input

-- The linkage of the units that the program became, without their spare names, is one of what the program's units say. So the linked
-- run of the units means what the program does by such a linkage.
abbrev pub SourceLinks : Type 0
SourceLinks = (us : List RatRoutine) (rs : List Routine) (l : Linkage) → AllZip IsMadeOf us rs → IsLinkage rs l → IsLinkage (map said_routine us) (source_of l (bodies_of us))
