-- One link more is joined, or clashes.
use Rattle.std.proofs.Common.{◌<◌, ◌+◌, ◌^◌, length, take, arith}
use Rattle.std.proofs.lemmas.List.{length-take}
use Rattle.offset_classes.proofs.SeatLemmas.{clash-so_far}
use Rattle.offset_classes.proofs.seats.join_all.Goals as goal

pub returns-then-not-join : goal.returns-then-not-join
returns-then-not-join c =
    let links = c.args.links.now in
    let i = c.loop-link.link-index in
    let short : length (take i links) + 1 < 2 ^ 62 = omega (arith, length-take i links, c.requires.few) in
    clash-so_far links i _ c.loop-link-test.true (c.if-not-join.ensures (take i links) short c.loop-link.invariant.grown)
