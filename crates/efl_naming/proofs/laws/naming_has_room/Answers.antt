-- Why `naming_has_room` keeps its clause.
use Rattle.std.proofs.Common.{arith}
use Rattle.efl_naming.proofs.laws.naming_has_room.Goals as goal

pub returns : goal.returns
returns c = λ p n h. omega arith
