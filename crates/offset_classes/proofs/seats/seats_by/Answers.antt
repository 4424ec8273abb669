-- The forest of all links gives each node its seat.
use Rattle.std.proofs.Common.{◌≡◌, ◌<◌, ℕ, length, arith, rules, sym, subst}
use Rattle.std.proofs.lemmas.List.Elements.{All-contains}
use Rattle.std.specs.List.{slice_index_or}
use Rattle.offset_classes.specs.Links.{IsWithin, nowhere}
use Rattle.offset_classes.specs.Forests.{IsSeat}
use Rattle.offset_classes.proofs.SeatLemmas.{seated, whole_written}
use Rattle.offset_classes.proofs.seats.seats_by.Goals as goal

pub returns : goal.returns
returns c =
    let v = c.loop-node.invariant in
    let links = c.args.links.now in
    let knots = c.join_all.new.knots in
    let seats = c.loop-node.seats.items in
    let many : length seats ≡ c.args.nodes = search rules in
    let old = c.in_ok-knots.knots in
    let full : old.len ≡ length old.items = search rules in
    let kept : length knots ≡ old.len = search rules in
    let same : length seats ≡ length knots = omega (arith, c.in_ok-knots.ensures.0) in
    let each : (x : ℕ) → x < length seats → IsSeat knots x (slice_index_or seats x nowhere) = λ x x_in. subst (λ ks. IsSeat ks x (slice_index_or seats x nowhere)) (whole_written knots old.items old.len full kept) (v.seated x (subst (λ n. x < n) v.many x_in)) in
    (many, seated links knots seats c.if-not-join_all.ensures same each (λ l h. subst (λ n. IsWithin n l) (sym many) (All-contains (IsWithin c.args.nodes) links l c.requires.within h)) c.requires.few)
