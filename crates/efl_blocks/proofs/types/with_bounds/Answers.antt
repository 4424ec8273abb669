-- Without bounds the type itself, else an array.
use Rattle.std.proofs.Common.{refl}
use Rattle.efl_expressions.proofs.TypeLemmas.{bounds_none, bounds_some}
use Rattle.efl_blocks.proofs.MemberLemmas.{unbounded, with_some, numbers_later}
use Rattle.efl_blocks.proofs.types.with_bounds.Goals as goal

pub returns-then-is_empty : goal.returns-then-is_empty
returns-then-is_empty c =
    let bs = c.args.bounds.now in
    unbounded c.args.types.now c.args.kind bs (bounds_none c.is_empty.result bs c.is_empty.ensures c.if-is_empty.true)

pub returns : goal.returns
returns c =
    let y = c.args.types.now in
    let z = record y { numbers = c.bounded.new.numbers } in
    let bs = c.args.bounds.now in
    with_some y z c.args.kind _ bs (bounds_some c.is_empty.result bs c.is_empty.ensures c.if-is_empty.false) refl refl
    (numbers_later y z c.in_ok-summary.ensures.grows refl) refl c.in_ok-summary.ensures
