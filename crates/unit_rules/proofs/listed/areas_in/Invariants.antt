-- The names in the areas before are there.
use Rattle.std.proofs.Common.{◌≡◌, ◌++◌, map, drop}
use Rattle.std.specs.List.{flat_map}
use Rattle.f66_tree.specs.Views.{declared_of, area_of}
use Rattle.unit_rules.proofs.listed.areas_in.Given as goal

abbrev pub invariant-loop-area : goal.invariant-loop-area
invariant-loop-area l = map (λ d. declared_of d.now) l.all.items ++ flat_map (λ a. a.list) (map area_of (drop l.area-index l.areas)) ≡ flat_map (λ a. a.list) (map area_of l.areas)
