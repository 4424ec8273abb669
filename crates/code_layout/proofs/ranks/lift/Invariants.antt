-- The edges before fall, or the numbers have grown.
use Rattle.code_layout.proofs.RankLemmas.{InPass}
use Rattle.code_layout.proofs.ranks.lift.Given as goal

abbrev pub invariant-loop-edge : goal.invariant-loop-edge
invariant-loop-edge l = InPass l.edges l.initial.ranks l.ranks l.quiet l.edge-index
