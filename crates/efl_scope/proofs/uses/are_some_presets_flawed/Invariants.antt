-- Those before have no flaw.
use Rattle.std.proofs.Common.{◌≡◌, drop, map}
use Rattle.std.specs.List.{list_any, flat_map}
use Rattle.efl_tree.specs.Views.{preset_of}
use Rattle.efl_scope.specs.Uses.{uses_at}
use Rattle.efl_scope.specs.BlockViews.{known_of}
use Rattle.efl_scope.specs.UseViews.{is_flawed}
use Rattle.efl_scope.proofs.uses.are_some_presets_flawed.Given as goal

abbrev pub invariant-loop-preset : goal.invariant-loop-preset
invariant-loop-preset l =
    list_any (is_flawed l.flaw (known_of l.known)) (flat_map (λ p. uses_at p.place) (map preset_of (drop l.preset-index l.list)))
    ≡ list_any (is_flawed l.flaw (known_of l.known)) (flat_map (λ p. uses_at p.place) (map preset_of l.list))
