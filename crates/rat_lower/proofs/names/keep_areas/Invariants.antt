-- Those left are still to be kept.
use Rattle.std.proofs.Common.{◌≡◌, map, drop}
use Rattle.std.specs.List.{flat_map}
use Rattle.f66_tree.specs.Views.{area_of}
use Rattle.unit_rules.specs.Listed.{uses_of_listed}
use Rattle.name_alloc.specs.MadeNames.{keeping_all}
use Rattle.rat_lower.specs.Emitted.{names_used}
use Rattle.rat_lower.proofs.names.keep_areas.Given as goal

abbrev pub invariant-loop-area : goal.invariant-loop-area
invariant-loop-area l = keeping_all (flat_map (λ a. flat_map (λ d. names_used (uses_of_listed d)) a.list) (map area_of (drop l.area-index l.areas))) l.names ≡ keeping_all (flat_map (λ a. flat_map (λ d. names_used (uses_of_listed d)) a.list) (map area_of l.areas)) l.initial.names
