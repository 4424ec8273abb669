-- The places that DATA gives values, in memory.
use Rattle.std.specs.Prelude.{◌≡◌, ℕ, unsigned_abs, List, Option, Some, None}
use Rattle.ground.specs.Content.{Content, Nothing, Whole, Truth}
use Rattle.ground.specs.declared.value.Value.{Value}
use Rattle.ground.specs.declared.value.Value.TheVariants.{Int, Log}
use Rattle.std.specs.List.{slice_get}
use Rattle.f66_tree.specs.Syntax.{Text, Formula, Ref, Item, Line, Routine}
use Rattle.f66_tree.specs.Units.{Context, sizes_of}
use Rattle.f66_program.specs.Association.{shift}
use Rattle.f66_program.specs.Initial as initial
use Rattle.storage_rules.specs.declared.preset.Preset.{Preset}

abbrev pub content_seen : Option Value → Content
content_seen None = Nothing
content_seen (Some (Int z)) = Whole z
content_seen (Some (Log b)) = Truth b

abbrev pub preset_seen : Preset → initial.Preset
preset_seen p = record { unit = p.unit; part = p.part; name = p.name.now; at = p.at; value = content_seen p.value }

-- a variable's place is its first, and an element's so far behind the first; nothing else has a place
abbrev pub place_seen : Context → Formula → Option (Text × ℕ)
place_seen c (Ref x) = Some (x, 0)
place_seen c (Item x ns) = Some (x, unsigned_abs (shift 1 (sizes_of x c.notes) ns))
place_seen c _ = None

abbrev pub IsPlace : Context → Formula → Option (Text × ℕ) → Type 0
IsPlace c e o = o ≡ place_seen c e

-- there is a statement with this number in the unit with this number, both from 0 on
pub record IsStanding (rs : List Routine) (u i : ℕ) : Type 0 where
  pub unit : Routine
  pub line : Line
  pub here : slice_get rs u ≡ Some unit
  pub stands : slice_get unit.lines i ≡ Some line
