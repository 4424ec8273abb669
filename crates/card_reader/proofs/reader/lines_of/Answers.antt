-- The fault of a card is the deck's.
use Rattle.std.proofs.Common.{◌∙◌}
use Rattle.std.proofs.lemmas.Result.{err_from_is_err_and}
use Rattle.card_reader.proofs.ReadLemmas.{refused}
use Rattle.card_reader.specs.Told.{card_lines_of, begun_if}
use Rattle.card_reader.proofs.reader.lines_of.Goals as goal

pub returns-in_err-next_draft-clause-fault : goal.returns-in_err-next_draft-clause-fault
returns-in_err-next_draft-clause-fault c =
    let p = err_from_is_err_and c.from_residual.result c.from_residual.ensures.1 in
    let told = refused c.args.bytes.now c.loop-rest.rest.now c.first_record.result.0.now c.first_record.result.1.now c.deref.result.now (card_lines_of c.loop-rest.lines.items) (begun_if c.loop-rest.draft) c.loop-rest.counts c.loop-rest.number
    c.in_err-next_draft.field-0.0 c.loop-rest.invariant.size c.loop-rest.invariant.told c.first_record.ensures.record (c.deref.ensures.0 ∙ c.card-columns.ensures.columns) c.in_err-next_draft.ensures.fault in
    rw (p.1, p.2) told
