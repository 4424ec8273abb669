-- The first record ends at the first byte 10, or is all that is left.
use Rattle.std.proofs.Common.{◌≡◌, sym, ◌∙◌, take, arith, add-one}
use Rattle.std.proofs.lemmas.List.{take-take, length-take-le}
use Rattle.ports.specs.Records.{without_return}
use Rattle.ports.proofs.RecordLemmas.{record_at, record_alone}
use Rattle.ports.proofs.whole.first_line.Goals as goal

pub returns-in-Some-clause-record : goal.returns-in-Some-clause-record
returns-in-Some-clause-record c =
    let n = c.in-Some.end in
    let k = c.length_without_return.result in
    let found = c.in-Some.ensures in
    let short : take k (take n c.args.bytes.now) ≡ take k c.args.bytes.now = take-take k n c.args.bytes.now (omega (arith, c.length_without_return.ensures.most, length-take-le n c.args.bytes.now (omega (arith, c.in-Some.ensures.0.high)))) in
    let line : take k c.args.bytes.now ≡ without_return (take n c.args.bytes.now) = sym short ∙ c.length_without_return.ensures.record in
    rw add-one (record_at c.args.bytes.now n k found.0.high found.0.before found.1 line)

pub returns-in-None-clause-record : goal.returns-in-None-clause-record
returns-in-None-clause-record c = record_alone c.args.bytes.now c.requires c.in-None.ensures
