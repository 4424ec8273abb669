-- The rows in order are those of the seats.
use Rattle.offset_classes.proofs.PlaceLemmas.{rows_permuted, rows_are}
use Rattle.offset_classes.proofs.numbers.ordered_rows.Goals as goal

pub returns : goal.returns
returns c =
    let seats = c.args.seats.now in
    let r = rows_permuted seats c.in_ok-rows.rows.items c.in_ok-ordered.ordered.items c.in_ok-rows.ensures c.in_ok-ordered.ensures.permutation in
    (r, rows_are seats c.in_ok-ordered.ordered.items r c.in_ok-ordered.ensures.order c.requires.near)
