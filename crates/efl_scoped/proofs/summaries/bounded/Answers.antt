-- An array's summary.
use Rattle.efl_scoped.specs.Seen.{table_of}
use Rattle.efl_scoped.proofs.MemberLemmas.{array_bounded, some_bounds}
use Rattle.efl_scoped.proofs.summaries.bounded.Goals as goal

pub returns : goal.returns
returns c =
    array_bounded (table_of c.args.numbers.now) (table_of c.array_number.new.numbers) c.args.kind _ c.args.bounds.now (some_bounds c.args.bounds.now c.is_empty.result c.if-is_empty.false c.is_empty.ensures) c.in_ok-number.ensures c.is_array_sound.ensures c.places_of.ensures
