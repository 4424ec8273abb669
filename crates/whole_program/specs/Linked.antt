-- A linked program, and what a refusal tells.
use Rattle.std.specs.Prelude.{◌≡◌, true, ℕ, List, [], ◌∷◌, Option, Some, map, ⊤}
use Rattle.std.specs.HashMap.{get_by}
use Rattle.std.specs.Str.{bytes_eq}
use Rattle.std.specs.List.{slice_get}
use Rattle.ground.specs.declared.fault.Refusal.{Refusal}
use Rattle.ground.specs.declared.fault.Refusal.TheVariants as refusals
use Rattle.ground.specs.declared.value.Value.{Value}
use Rattle.f66_tree.specs.Syntax.{Text, Routine}
use Rattle.f66_tree.specs.Units.{is_main}
use Rattle.f66_program.specs.Association.{IsNumbering}
use Rattle.f66_program.specs.Initial.{presets_of}
use Rattle.f66_program.specs.Linking.{Program, IsFirstFault}
use Rattle.linker.specs.CallViews.{AreCalls}
use Rattle.program_storage.specs.Numbers.{HaveSpots, number_in_program}
use Rattle.storage_rules.specs.declared.preset.Preset.{Preset}
use Rattle.storage_rules.specs.Presets.{preset_seen}
use Rattle.whole_program.specs.declared.linked.Linked.{Linked}

-- the tables are those of the units
pub record IsLinked (rs : List Routine) (l : Linked) : Type 0 where
  pub calls : AreCalls l.calls
  pub numbering : IsNumbering rs (number_in_program l.storage) l.storage.total
  pub spots : HaveSpots rs l.storage
  pub main : (r : Routine) × (slice_get rs l.main ≡ Some r) × (is_main r.header ≡ true)
  pub presets : map preset_seen l.presets.items ≡ presets_of rs
  pub numbers : map (λ p. number_in_program l.storage p.unit p.name.now p.at) l.presets.items ≡ map (λ n. Some n) l.numbers.items

-- the unit that a call of this name leads to
abbrev pub found_in : Linked → Text → Option ℕ
found_in l x = get_by (λ k. bytes_eq x k.now) l.calls.numbers

-- each number with the value of its place
abbrev pub initial_in : List ℕ → List Preset → List (ℕ × Option Value)
initial_in (n ∷ ns) (p ∷ ps) = (n, p.value) ∷ initial_in ns ps
initial_in _ _ = []

-- a refusal tells the first fault; want of memory may come at any time
abbrev pub IsLinkRefusal : Program → Refusal → Type 0
IsLinkRefusal p (refusals.Fault f) = IsFirstFault p f
IsLinkRefusal p refusals.Memory = ⊤
