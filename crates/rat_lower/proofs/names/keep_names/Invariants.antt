-- Those left are still to be kept.
use Rattle.std.proofs.Common.{◌≡◌, drop}
use Rattle.name_alloc.specs.MadeNames.{keeping_all}
use Rattle.rat_lower.proofs.names.keep_names.Given as goal

abbrev pub invariant-loop-name : goal.invariant-loop-name
invariant-loop-name l = keeping_all (drop l.name-index l.list) l.names ≡ keeping_all l.list l.initial.names
