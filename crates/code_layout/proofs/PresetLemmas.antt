-- The numbers of the places that DATA fills with their values.
use Rattle.std.proofs.Common.{◌≡◌, ℕ, List, [], ◌∷◌, map, refl, ap, ◌∙◌}
use Rattle.linker.specs.CallViews.{units_in}
use Rattle.storage_rules.specs.declared.preset.Preset.{Preset}
use Rattle.storage_rules.specs.Presets.{content_seen, preset_seen}
use Rattle.whole_program.specs.declared.linked.Linked.{Linked}
use Rattle.whole_program.specs.Linked.{IsLinked, initial_in}
use Rattle.code_layout.specs.Presets.{pair_in}
use Rattle.code_layout.specs.Ranked.{contents_in, initial_of}

pairs_seen : (ns : List ℕ) (ps : List Preset) → map pair_in (initial_in ns ps) ≡ contents_in ns (map preset_seen ps)
pairs_seen [] ps = refl
pairs_seen (n ∷ ns) [] = refl
pairs_seen (n ∷ ns) (p ∷ ps) = ap (λ rest. (n, content_seen p.value) ∷ rest) (pairs_seen ns ps)

pub all_seen : (l : Linked) → IsLinked (units_in l.calls) l → map pair_in (initial_in l.numbers.items l.presets.items) ≡ initial_of l
all_seen l t = pairs_seen l.numbers.items l.presets.items ∙ ap (contents_in l.numbers.items) t.presets
