-- Those left are still to be kept.
use Rattle.std.proofs.Common.{◌≡◌, map, drop}
use Rattle.f66_tree.specs.Views.{declared_of}
use Rattle.name_alloc.specs.MadeNames.{keeping_all}
use Rattle.rat_lower.proofs.names.keep_declared.Given as goal

abbrev pub invariant-loop-declared : goal.invariant-loop-declared
invariant-loop-declared l = keeping_all (map (λ d. d.name) (map declared_of (drop l.declared-index l.list))) l.names ≡ keeping_all (map (λ d. d.name) (map declared_of l.list)) l.initial.names
