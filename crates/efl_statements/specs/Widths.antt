-- Whether the items of a record are as wide as they may be, item by item.
use Rattle.std.specs.Prelude.{ℕ, nat_le, ◌-◌, Bool, false, ◌&&◌, List, sum_by, Option, Some, None, if◌then◌else◌}
use Rattle.std.specs.List.{list_all}
use Rattle.efl_types.specs.Statements.{is_width}

-- what is left of a record's room after an item of this width, where all so far fit
abbrev pub room_after : Option ℕ → ℕ → Option ℕ
room_after None w = None
room_after (Some r) w = if is_width w && nat_le w r then Some (r - w) else None

-- items whose widths are such fit into the room that is left
abbrev pub fit_into : {X : Type 0} → (X → ℕ) → Option ℕ → List X → Bool
fit_into f None xs = false
fit_into f (Some r) xs = list_all (λ x. is_width (f x)) xs && nat_le (sum_by f xs) r
