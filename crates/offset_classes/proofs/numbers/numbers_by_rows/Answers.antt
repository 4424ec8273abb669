-- Numbers of rows that are put at nodes are numbers of the seats.
use Rattle.offset_classes.proofs.PlaceLemmas.{are_alike, are_numbered}
use Rattle.offset_classes.proofs.numbers.numbers_by_rows.Goals as goal

pub sweep-requires-clause-rows : goal.sweep-requires-clause-rows
sweep-requires-clause-rows c = rw c.requires.many c.requires.rows

pub sweep-requires-clause-few : goal.sweep-requires-clause-few
sweep-requires-clause-few c = rw c.requires.rows_of.many c.requires.few

pub scatter-requires-clause-inside : goal.scatter-requires-clause-inside
scatter-requires-clause-inside c = rw c.requires.many c.requires.rows.inside

pub scatter-requires-clause-alike : goal.scatter-requires-clause-alike
scatter-requires-clause-alike c =
    let a = are_alike c.args.seats.now c.args.rows.now c.args.sizes.now _ _ c.requires.rows_of c.in_ok-swept.ensures in
    λ k l k_in l_in e some. rw c.deref.ensures.value (a k l k_in l_in e some)

pub returns : goal.returns
returns c =
    let p = rw c.deref.ensures.value at c.in_ok-firsts.ensures in
    are_numbered c.args.seats.now c.args.rows.now c.args.sizes.now c.in_ok-swept.swept.firsts.items c.in_ok-firsts.firsts.items _ c.requires.rows_of c.in_ok-swept.ensures p c.requires.many
