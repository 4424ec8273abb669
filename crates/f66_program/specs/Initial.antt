-- The places that DATA fills, with their contents (X3.9-1966, section 7.2.2).
use Rattle.std.specs.Prelude.{◌≡◌, ◌<◌, ℕ, suc, pos, ◌-ℤ◌, neg_ℤ, unsigned_abs, List, [], ◌∷◌, ◌++◌, replicate, Some}
use Rattle.std.specs.List.{Contains, slice_get, flat_map}
use Rattle.ground.specs.Content.{Content, Nothing, Whole, Truth}
use Rattle.f66_tree.specs.Syntax.{Text, Formula, Int, Letter, Ref, Item, Plus, Minus, PresetPart, Act, Line, Routine}
use Rattle.f66_tree.specs.Syntax as f66
use Rattle.f66_tree.specs.Units.{Context, sizes_of}
use Rattle.f66_program.specs.Mentions.{context_of}
use Rattle.f66_program.specs.Association.{Own, IsSame, ties_of, shift}

-- a constant's content
abbrev pub content_of : Formula → Content
content_of (Int z) = Whole z
content_of (f66.Truth b) = Truth b
content_of (Letter c) = Whole (pos c)
content_of (Plus a) = content_of a
content_of (Minus (Int z)) = Whole (neg_ℤ z)
content_of _ = Nothing

-- a value as often as its count says
abbrev pub values_of : List (ℕ × Formula) → List Content
values_of [] = []
values_of (v ∷ vs) = replicate v.0 (content_of v.1) ++ values_of vs

-- a place that is filled by the statement with the number `part`, from 0, of a unit
pub record Preset : Type 0 where
  pub unit : ℕ
  pub part : ℕ
  pub name : Text
  pub at : ℕ
  pub value : Content

-- each place in the list takes one value
abbrev pub paired : ℕ → ℕ → Context → List Formula → List Content → List Preset
paired u i c (Ref x ∷ es) (v ∷ vs) = record { unit = u; part = i; name = x; at = 0; value = v } ∷ paired u i c es vs
paired u i c (Item x ns ∷ es) (v ∷ vs) =
    record { unit = u; part = i; name = x; at = unsigned_abs (shift 1 (sizes_of x c.notes) ns); value = v } ∷ paired u i c es vs
paired u i c _ _ = []

abbrev pub part_presets : ℕ → ℕ → Context → PresetPart → List Preset
part_presets u i c p = paired u i c p.places (values_of p.values)

abbrev pub act_presets : ℕ → ℕ → Context → Act → List Preset
act_presets u i c (f66.Preset parts) = flat_map (part_presets u i c) parts
act_presets u i c _ = []

abbrev pub line_presets : ℕ → ℕ → Context → List Line → List Preset
line_presets u i c [] = []
line_presets u i c (s ∷ lines) = act_presets u i c s.act ++ line_presets u (suc i) c lines

abbrev pub presets_from : ℕ → List Routine → List Preset
presets_from u [] = []
presets_from u (r ∷ rs) = line_presets u 0 (context_of r) r.lines ++ presets_from (suc u) rs

-- the places that the DATA of all units fill, in reading order
abbrev pub presets_of : List Routine → List Preset
presets_of rs = presets_from 0 rs

-- the statement i of the unit u fills a place that is filled before
pub record FillsTwice (rs : List Routine) (u i : ℕ) : Type 0 where
  pub first : ℕ
  pub second : ℕ
  pub order : first < second
  pub one : Preset
  pub other : Preset
  pub one_is : slice_get (presets_of rs) first ≡ Some one
  pub other_is : slice_get (presets_of rs) second ≡ Some other
  pub in_unit : other.unit ≡ u
  pub in_part : other.part ≡ i
  pub same : IsSame (ties_of rs) (Own one.unit one.name) (Own other.unit other.name) (pos other.at -ℤ pos one.at)

-- the contents at first, by numbers of storage units: what DATA says, and nothing else
pub record IsInitial (rs : List Routine) (number : ℕ → Text → ℕ → ℕ) (first : ℕ → Content) : Type 0 where
  pub filled : (p : Preset) → Contains (presets_of rs) p → first (number p.unit p.name p.at) ≡ p.value
  pub empty : (n : ℕ) → ((p : Preset) → Contains (presets_of rs) p → ¬ (number p.unit p.name p.at ≡ n)) → first n ≡ Nothing
