-- The codes of the units so far stand in the block, where all of them are of one byte.
use Rattle.std.proofs.Common.{◌≡◌, ◌<◌, length, map, take}
use Rattle.runner.specs.Blocks.{coded}
use Rattle.runner.proofs.letters.show.Given as goal

abbrev pub invariant-loop-index : goal.invariant-loop-index
invariant-loop-index l = (length l.block ≡ length l.initial.block) × (l.kinds ≡ 0 → l.all < 256 → take l.index l.units ≡ map coded (take l.index l.block))
