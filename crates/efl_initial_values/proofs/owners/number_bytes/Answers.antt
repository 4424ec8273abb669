-- A byte more is told.
use Rattle.efl_scoped.specs.Seen.{table_of}
use Rattle.efl_initial_values.proofs.OwnerLemmas.{leads_none, byte_leads, all_bytes}
use Rattle.efl_initial_values.proofs.owners.number_bytes.Goals as goal

pub loop-byte-init : goal.loop-byte-init
loop-byte-init c = leads_none (table_of c.args.numbers.now) c.args.from

pub loop-byte-preserved : goal.loop-byte-preserved
loop-byte-preserved c =
    let l = c.loop-byte in
    let more = c.in_ok-so_far.ensures in
    byte_leads (table_of c.args.numbers.now) (table_of l.numbers) (table_of c.number.new.self) c.args.bytes.now l.byte-index c.args.from l.so_far c.in_ok-so_far.so_far
    c.loop-byte-test.true l.invariant more.kept more.numbered

pub returns : goal.returns
returns c = all_bytes (table_of c.args.numbers.now) (table_of c.loop-byte.numbers) c.args.bytes.now c.loop-byte.byte-index c.args.from c.loop-byte.so_far c.loop-byte-test.false c.loop-byte.invariant
