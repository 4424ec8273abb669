-- Those left are still to be kept.
use Rattle.std.proofs.Common.{◌≡◌, drop}
use Rattle.std.specs.List.{flat_map}
use Rattle.f66_names.specs.ActViews.{acts_of}
use Rattle.name_alloc.specs.MadeNames.{keeping_all}
use Rattle.rat_lower.specs.Emitted.{named_in}
use Rattle.rat_lower.proofs.names.keep_all.Given as goal

abbrev pub invariant-loop-saying : goal.invariant-loop-saying
invariant-loop-saying l = keeping_all (flat_map named_in (acts_of (drop l.saying-index l.sayings))) l.names ≡ keeping_all (flat_map named_in (acts_of l.sayings)) l.initial.names
