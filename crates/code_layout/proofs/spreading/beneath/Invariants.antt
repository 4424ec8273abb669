-- Those that are left come on top.
use Rattle.std.proofs.Common.{◌≡◌, ◌+◌, drop, slice_index_or}
use Rattle.code_gen.specs.LayingOut.{beneath}
use Rattle.code_layout.proofs.spreading.beneath.Given as goal

abbrev pub invariant-loop-other : goal.invariant-loop-other
invariant-loop-other l =
    l.sum + beneath (λ u. slice_index_or l.ranks u 0) (λ u. slice_index_or l.sizes u 0) (drop l.other-index l.order) l.rank
    ≡ beneath (λ u. slice_index_or l.ranks u 0) (λ u. slice_index_or l.sizes u 0) l.order l.rank
