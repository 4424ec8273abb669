-- Roots alone hold no links.
use Rattle.std.proofs.Common.{◌<◌, subst, rules}
use Rattle.offset_classes.proofs.SeatLemmas.{roots_grown}
use Rattle.offset_classes.proofs.seats.roots.Goals as goal

pub returns : goal.returns
returns c =
    let v = c.loop-node.invariant in
    (search rules, roots_grown c.loop-node.knots.items (λ x x_in. v.alone x (subst (λ n. x < n) v.many x_in)))
