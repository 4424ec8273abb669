-- Those that are left come on top.
use Rattle.std.proofs.Common.{◌≡◌, ◌+◌, drop, slice_index_or}
use Rattle.code_gen.specs.LayingOut.{before}
use Rattle.code_layout.proofs.spreading.before.Given as goal

abbrev pub invariant-loop-other : goal.invariant-loop-other
invariant-loop-other l = l.sum + before (λ u. slice_index_or l.sizes u 0) (drop l.other-index l.order) l.unit ≡ before (λ u. slice_index_or l.sizes u 0) l.order l.unit
