-- What is asked of the names of a unit for its places: less than of a sound unit, since nothing is asked of labels and of what runs.
use Rattle.std.specs.Prelude.{◌≡◌, ℕ, false, Some}
use Rattle.std.specs.List.{list_any, slice_get}
use Rattle.rule_table.specs.Words.{repeats}
use Rattle.f66_tree.specs.Syntax.{Line, Routine}
use Rattle.f66_names.specs.StoreRules.{has_bad_size, has_bad_constant}
use Rattle.f66_soundness.specs.SoundUnits.{acts_in_unit}
use Rattle.unit_rules.specs.Heads.{header_names}
use Rattle.unit_rules.specs.Listed.{common_in}
use Rattle.unit_rules.specs.Storage.{presets_wrong}
use Rattle.f66_check.specs.CheckRules.{context_of}

-- The header has no name twice; each statement gives dimensions that are positive constants, or dummies of a dummy; and DATA fills
-- places of the unit's own, within their dimensions.
pub record IsPlaced (r : Routine) : Type 0 where
  pub header : repeats (header_names r.header) ≡ false
  pub sizes : (i : ℕ) (s : Line) → slice_get r.lines i ≡ Some s → has_bad_constant (context_of r) s.act ≡ false
  pub shared : (i : ℕ) (s : Line) → slice_get r.lines i ≡ Some s → list_any (has_bad_size (context_of r)) (common_in s.act) ≡ false
  pub filled : (i : ℕ) (s : Line) → slice_get r.lines i ≡ Some s → presets_wrong (context_of r) (acts_in_unit r.lines) s.act ≡ false
