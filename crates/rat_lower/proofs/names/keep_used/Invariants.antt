-- Those left are still to be kept.
use Rattle.std.proofs.Common.{◌≡◌, map, drop}
use Rattle.f66_names.specs.UseViews.{use_of}
use Rattle.name_alloc.specs.MadeNames.{keeping_all}
use Rattle.rat_lower.proofs.names.keep_used.Given as goal

abbrev pub invariant-loop-used : goal.invariant-loop-used
invariant-loop-used l = keeping_all (map (λ u. u.name) (map use_of (drop l.used-index l.list))) l.names ≡ keeping_all (map (λ u. u.name) (map use_of l.list)) l.initial.names
