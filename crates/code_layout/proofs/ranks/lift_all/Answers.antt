-- A pass that was not quiet has raised the sum, which the square of the count bounds.
use Rattle.std.proofs.Common.{◌≡◌, ◌<◌, ◌≤◌, ◌*◌, length, sum, subst, rules}
use Rattle.code_layout.proofs.RankLemmas.{sum_small, less_left}
use Rattle.code_layout.proofs.ranks.lift_all.Goals as goal

pub loop-smaller : goal.loop-smaller
loop-smaller c =
    let small = sum_small c.args.edges.now c.lift.new.ranks c.lift.ensures.rise in
    let more : sum c.loop.ranks < sum c.lift.new.ranks = search rules in
    let many : length c.lift.new.ranks ≡ length c.loop.ranks = search rules in
    let a : sum c.lift.new.ranks ≤ length c.loop.ranks * length c.loop.ranks = subst (λ n. sum c.lift.new.ranks ≤ n * n) many small in
    less_left (length c.loop.ranks) (length c.lift.new.ranks) (sum c.loop.ranks) (sum c.lift.new.ranks) many more a
