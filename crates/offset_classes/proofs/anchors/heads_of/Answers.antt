-- One anchor more has its head, or meets another.
use Rattle.std.proofs.Common.{◌<◌, length, arith, None, sym, ◌∙◌}
use Rattle.std.proofs.lemmas.List.{get_or_read}
use Rattle.offset_classes.specs.Links.{class_in}
use Rattle.offset_classes.proofs.AnchorLemmas.{meeting}
use Rattle.offset_classes.proofs.anchors.heads_of.Goals as goal

pub returns-then-is_some : goal.returns-then-is_some
returns-then-is_some c =
    let heads = c.loop-anchor.heads.items in
    let seats = c.args.seats.now in
    let k = c.loop-anchor.anchor in
    let inside : class_in seats k < length heads = (let i = c.requires.inside k in let few = c.requires.few in let t = c.loop-anchor-test.true in let m = c.loop-anchor.invariant.many in omega arith) in
    meeting c.args.anchors k seats heads _ c.loop-anchor.invariant c.loop-anchor-test.true (get_or_read heads _ _ inside c.index.ensures None) (sym c.is_some.ensures ∙ c.if-is_some.true)
