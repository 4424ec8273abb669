-- What stands before has given its calls.
use Rattle.std.proofs.Common.{◌≡◌, drop, map}
use Rattle.std.specs.List.{flat_map}
use Rattle.efl_tree.specs.Views.{preset_of}
use Rattle.efl_scope.specs.Uses.{uses_at}
use Rattle.efl_whole.specs.Calls.{using_all}
use Rattle.efl_whole.specs.CallViews.{calls_of, site_of}
use Rattle.efl_whole.proofs.expressions.add_presets.Given as goal

abbrev pub invariant-loop-preset : goal.invariant-loop-preset
invariant-loop-preset l =
    using_all (site_of l.site) l.place (flat_map (λ p. uses_at p.place) (map preset_of (drop l.preset-index l.list))) (calls_of l.calls)
    ≡ using_all (site_of l.site) l.place (flat_map (λ p. uses_at p.place) (map preset_of l.list)) (calls_of l.initial.calls)
