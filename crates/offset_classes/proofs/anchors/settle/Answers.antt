-- Seats whose anchors do not meet and stand first are not bad.
use Rattle.std.proofs.Common.{sym, subst}
use Rattle.std.proofs.lemmas.List.Elements.{All-contains}
use Rattle.offset_classes.specs.Links.{IsWithin}
use Rattle.offset_classes.proofs.AnchorLemmas.{bad_by_meeting, bad_by_ahead, good_by_behind}
use Rattle.offset_classes.proofs.anchors.settle.Goals as goal

pub returns-in_default-2 : goal.returns-in_default-2
returns-in_default-2 c =
    let v = rw c.in-Some.is at c.in_ok-seats.ensures in
    let w = rw (c.in_default-2.is, c.deref.ensures.value) at c.in_ok-heads.ensures in
    bad_by_meeting c.args.anchors c.args.links.now c.in-Some.seats.items (rw v.0 c.requires.anchors) v.1
    (λ l h. subst (λ n. IsWithin n l) (sym v.0) (All-contains (IsWithin c.args.nodes) c.args.links.now l c.requires.within h)) w

pub returns-then-not-are_behind : goal.returns-then-not-are_behind
returns-then-not-are_behind c =
    let v = rw c.in-Some.is at c.in_ok-seats.ensures in
    let w = rw (c.in-Some-2.is, c.deref.ensures.value) at c.in_ok-heads.ensures in
    let a = rw (c.deref-2.ensures.value, c.deref-3.ensures.value) at c.if-not-are_behind.ensures in
    bad_by_ahead c.args.anchors c.args.links.now c.in-Some.seats.items (rw v.0 c.requires.anchors) v.1
    (λ l h. subst (λ n. IsWithin n l) (sym v.0) (All-contains (IsWithin c.args.nodes) c.args.links.now l c.requires.within h)) c.in-Some-2.heads.items w a

pub returns : goal.returns
returns c =
    let v = rw c.in-Some.is at c.in_ok-seats.ensures in
    let w = rw (c.in-Some-2.is, c.deref.ensures.value) at c.in_ok-heads.ensures in
    let b = rw (c.deref-2.ensures.value, c.deref-3.ensures.value) at c.if-not-are_behind.ensures in (
      v.0,
      v.1,
      good_by_behind c.args.anchors c.args.links.now c.in-Some.seats.items (rw v.0 c.requires.anchors) v.1
          (λ l h. subst (λ n. IsWithin n l) (sym v.0) (All-contains (IsWithin c.args.nodes) c.args.links.now l c.requires.within h)) c.in-Some-2.heads.items w b,
    )
