-- Those left are still to be kept.
use Rattle.std.proofs.Common.{◌≡◌, map, drop}
use Rattle.std.specs.List.{flat_map}
use Rattle.f66_tree.specs.Views.{declared_of}
use Rattle.unit_rules.specs.Listed.{uses_of_listed}
use Rattle.name_alloc.specs.MadeNames.{keeping_all}
use Rattle.rat_lower.specs.Emitted.{names_used}
use Rattle.rat_lower.proofs.names.keep_listed.Given as goal

abbrev pub invariant-loop-declared : goal.invariant-loop-declared
invariant-loop-declared l = keeping_all (flat_map (λ d. names_used (uses_of_listed d)) (map declared_of (drop l.declared-index l.list))) l.names ≡ keeping_all (flat_map (λ d. names_used (uses_of_listed d)) (map declared_of l.list)) l.initial.names
