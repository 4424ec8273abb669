-- The first record ends at the first byte 10, or is all that there is.
use Rattle.std.proofs.Common.{add-one}
use Rattle.card_reader.proofs.RecordLemmas.{first_line, only_line}
use Rattle.card_reader.proofs.records.first_record.Goals as goal

pub returns-in-Some-clause-record : goal.returns-in-Some-clause-record
returns-in-Some-clause-record c =
    let found = c.in-Some.ensures in
    let record_is = first_line c.args.bytes.now c.in-Some.end found.0.high found.0.before found.1 in
    rw (c.without_return.ensures, add-one) record_is

pub returns-in-None-clause-record : goal.returns-in-None-clause-record
returns-in-None-clause-record c = only_line c.args.bytes.now c.requires c.in-None.ensures
