-- Those left are still to be kept.
use Rattle.std.proofs.Common.{◌≡◌, map, drop}
use Rattle.std.specs.List.{flat_map}
use Rattle.f66_tree.specs.Views.{preset_of}
use Rattle.f66_names.specs.Uses.{uses_of_target}
use Rattle.name_alloc.specs.MadeNames.{keeping_all}
use Rattle.rat_lower.specs.Emitted.{names_used}
use Rattle.rat_lower.proofs.names.keep_parts.Given as goal

abbrev pub invariant-loop-part : goal.invariant-loop-part
invariant-loop-part l = keeping_all (flat_map (λ p. flat_map (λ e. names_used (uses_of_target e)) p.places) (map preset_of (drop l.part-index l.parts))) l.names ≡ keeping_all (flat_map (λ p. flat_map (λ e. names_used (uses_of_target e)) p.places) (map preset_of l.parts)) l.initial.names
