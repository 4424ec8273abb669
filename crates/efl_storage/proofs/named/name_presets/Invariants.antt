-- What stands before has given its names.
use Rattle.std.proofs.Common.{◌≡◌, ◌++◌, drop, map}
use Rattle.std.specs.List.{flat_map}
use Rattle.efl_tree.specs.Views.{preset_of}
use Rattle.efl_scope.specs.Uses.{uses_at}
use Rattle.efl_storage.specs.Named.{named_in, texts_of}
use Rattle.efl_storage.proofs.named.name_presets.Given as goal

abbrev pub invariant-loop-preset : goal.invariant-loop-preset
invariant-loop-preset l =
    texts_of l.names.items ++ named_in (flat_map (λ p. uses_at p.place) (map preset_of (drop l.preset-index l.list))) ≡ texts_of l.initial.names.items ++ named_in (flat_map (λ p. uses_at p.place) (map preset_of l.list))
