-- Each unit of an accepted program has room.
use Rattle.rat_room.proofs.Rooms as rooms
use Rattle.rat_room.proofs.laws.parsed_has_room.Goals as goal

pub returns : goal.returns
returns c = rooms.parsed_has_room
