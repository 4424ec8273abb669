-- What a layout of distinct units has of what is asked where their code is made.
use Rattle.std.specs.Prelude.{◌≡◌, ℕ, List, map, Some}
use Rattle.std.specs.List.{slice_get}
use Rattle.ground.specs.Content.{Content}
use Rattle.f66_tree.specs.Syntax.{Line}
use Rattle.f66_tree.specs.Units.{Linkage, notes_of}
use Rattle.code_gen.specs.Layout.{Layout}
use Rattle.code_gen.specs.Statements.{unit_size}
use Rattle.code_gen.specs.Behaves.{AreEntered, HavePlans, IsAmong}
use Rattle.code_gen.specs.LayingOut.{AreDistinct, layout, spread}
use Rattle.code_emit.specs.Entries.{entries_from}
use Rattle.code_emit.specs.Plans.{all_formats, plan_at, ArePlanned}

-- Each unit is entered where the one before it ends, as the sums of sizes say that are known before the entries; and the formats
-- have their plans.
pub record IsReady (y sized : Layout) (us : List ℕ) : Type 0 where
  pub entered : AreEntered y 0 us
  pub entries : (k u : ℕ) → slice_get us k ≡ Some u → slice_get (entries_from 0 (map (unit_size sized) us)) k ≡ Some (y.entry u)
  pub planned : ArePlanned y 0 us
  pub plans : (u : ℕ) → IsAmong u us → (y.linked.context u).notes ≡ notes_of (y.lines u) → HavePlans y u (all_formats y.lines us)

abbrev pub LayoutIsReady : Type 0
LayoutIsReady =
    (l : Linkage) (lines : ℕ → List Line) (presets : List (ℕ × Content)) (bound : ℕ) (rank : ℕ → ℕ) (us : List ℕ) → AreDistinct us →
    IsReady (layout l lines (plan_at lines us) presets bound rank us) (spread l lines (plan_at lines us) presets bound rank us) us
