-- The first units hold the codes so far.
use Rattle.std.proofs.Common.{◌≡◌, ◌++◌, map, take, drop}
use Rattle.runner.specs.Blocks.{coded}
use Rattle.runner.proofs.letters.keep_all.Given as goal

abbrev pub invariant-loop-index : goal.invariant-loop-index
invariant-loop-index l = l.units ≡ map coded (take l.index l.block) ++ drop l.index l.initial.units
