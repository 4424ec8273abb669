-- The bytes before are told.
use Rattle.std.proofs.Common.{take}
use Rattle.efl_scoped.specs.Seen.{table_of, Leads}
use Rattle.efl_initial_values.proofs.owners.number_bytes.Given as goal

abbrev pub invariant-loop-byte : goal.invariant-loop-byte
invariant-loop-byte l = Leads (table_of l.fn.numbers) (take l.byte-index l.bytes) l.from (table_of l.numbers) l.so_far
