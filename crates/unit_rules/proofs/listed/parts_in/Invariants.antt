-- The places of the parts before are there.
use Rattle.std.proofs.Common.{◌≡◌, ◌++◌, map, drop}
use Rattle.std.specs.List.{flat_map}
use Rattle.f66_tree.specs.Views.{formula_of, preset_of}
use Rattle.unit_rules.proofs.listed.parts_in.Given as goal

abbrev pub invariant-loop-part : goal.invariant-loop-part
invariant-loop-part l = map (λ e. formula_of e.now) l.all.items ++ flat_map (λ p. p.places) (map preset_of (drop l.part-index l.parts)) ≡ flat_map (λ p. p.places) (map preset_of l.parts)
