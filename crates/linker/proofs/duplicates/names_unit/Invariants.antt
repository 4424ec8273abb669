-- No block before has the name of a unit.
use Rattle.std.proofs.Common.{◌≡◌, drop, map}
use Rattle.std.specs.List.{list_any}
use Rattle.f66_tree.specs.Views.{area_of}
use Rattle.linker.specs.CallViews.{units_in}
use Rattle.linker.specs.Repeats.{block_repeats}
use Rattle.linker.proofs.duplicates.names_unit.Given as goal

abbrev pub invariant-loop-area : goal.invariant-loop-area
invariant-loop-area l = list_any (λ a. block_repeats (units_in l.calls) a.name) (map area_of (drop l.area-index l.areas)) ≡ list_any (λ a. block_repeats (units_in l.calls) a.name) (map area_of l.areas)
