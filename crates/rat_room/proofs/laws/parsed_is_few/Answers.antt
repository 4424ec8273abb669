-- The law, of all that is read.
use Rattle.rat_room.proofs.LineRooms.{parsed_is_few}
use Rattle.rat_room.proofs.laws.parsed_is_few.Goals as goal

pub returns : goal.returns
returns c = parsed_is_few
