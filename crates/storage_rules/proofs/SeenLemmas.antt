-- Places in memory, as the definitions see them.
use Rattle.std.proofs.Common.{◌≡◌, ◌<◌, ℕ, List, length, map, get_or, Some, sym, ap, ◌∙◌}
use Rattle.std.specs.List.{slice_get}
use Rattle.f66_tree.specs.Syntax.{Routine}
use Rattle.f66_program.specs.Initial.{presets_of}
use Rattle.linker.proofs.PartLemmas.{got_mapped}
use Rattle.storage_rules.specs.declared.preset.Preset.{Preset}
use Rattle.storage_rules.specs.Presets.{IsStanding, preset_seen}
use Rattle.storage_rules.proofs.PresetLemmas.{stands}

module _ (rs : List Routine) (presets : List Preset) (are : map preset_seen presets ≡ presets_of rs) where
  pub preset_here : (k : ℕ) (x : Preset) → k < length presets → x ≡ get_or presets k x → slice_get (presets_of rs) k ≡ Some (preset_seen x)
  preset_here k x lt is = ap (λ ps. slice_get ps k) (sym are) ∙ got_mapped preset_seen presets k x lt is

  pub preset_stands : (k : ℕ) (x : Preset) → k < length presets → x ≡ get_or presets k x → IsStanding rs x.unit x.part
  preset_stands k x lt is = stands rs k (preset_seen x) (preset_here k x lt is)
