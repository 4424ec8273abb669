-- A list has as many formulas as items.
use Rattle.std.proofs.Common.{rules}
use Rattle.code_emit.proofs.FormLemmas.{count_length}
use Rattle.code_emit.proofs.rooms.count_of.Goals as goal

pub returns-in-Ok : goal.returns-in-Ok
returns-in-Ok c = let same = count_length c.args.list.now in search rules
