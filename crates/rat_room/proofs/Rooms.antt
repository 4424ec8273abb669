-- Each unit of a program that the parser accepts has room.
use Rattle.std.proofs.Common.{arith, length-append, List, [], ◌∷◌}
use Rattle.std.proofs.lemmas.List.Elements.{All-nil, All-cons}
use Rattle.rat_tree.specs.Syntax.{RatRoutine}
use Rattle.rat_lower.specs.Emitted.{header_names, names_of}
use Rattle.rat_lower.specs.Lowered.{HasRoom, AllHaveRoom}
use Rattle.rat_room.specs.Room.{ParsedHasRoom}
use Rattle.rat_room.proofs.TreeWeights.{Each}
use Rattle.rat_room.proofs.Counts.{unit_weighs}
use Rattle.rat_room.proofs.UnitRooms.{IsLight, units_light}

light_has_room : (u : RatRoutine) → IsLight u → HasRoom u
light_has_room u h = record { labels = omega (arith, unit_weighs u.header u.body, h); names = omega (arith, unit_weighs u.header u.body, length-append (header_names u.header) (names_of u.header u.body), h) }

all_have_room : (us : List RatRoutine) → Each IsLight us → AllHaveRoom us
all_have_room [] h = All-nil HasRoom
all_have_room (u ∷ us) h = All-cons HasRoom u us (light_has_room u h.0) (all_have_room us h.1)

pub parsed_has_room : ParsedHasRoom
parsed_has_room ts tree accepted = all_have_room tree.routines (units_light ts tree accepted)
