-- The rings around a statement, in memory.
use Rattle.std.specs.Prelude.{List, [], ◌∷◌}
use Rattle.efl_routes.specs.Statements as routes
use Rattle.routes.specs.Code.{Behind as Labels}
use Rattle.efl_emit.specs.declared.rings.RingKind.{RingKind}
use Rattle.efl_emit.specs.declared.rings.RingKind.TheVariants as kinds
use Rattle.efl_emit.specs.declared.rings.Rings.{Rings}
use Rattle.efl_emit.specs.declared.rings.Rings.TheVariants.{Outside, Ring'}

abbrev pub ring_of : RingKind → routes.Around
ring_of kinds.Other = routes.Other
ring_of (kinds.Behind k) = routes.Behind k
ring_of (kinds.Next k) = routes.Next k

abbrev pub around_of : Rings → List routes.Around
around_of Outside = []
around_of (Ring' k l p outside) = ring_of k ∷ around_of outside

-- the labels behind them
abbrev pub behind_of : Rings → Labels
behind_of Outside = []
behind_of (Ring' k l p outside) = l ∷ behind_of outside
