-- A list of fields, part by part: what the loops over it go by.
use Rattle.std.specs.Prelude.{ℕ, ◌+◌, List, [], ◌∷◌, ◌++◌, max, Bool, false, ◌||◌, if◌then◌else◌}
use Rattle.f66_tree.specs.declared.format.Field as tree
use Rattle.f66_tree.specs.Fields.{steps, has_item}
use Rattle.format_io.specs.Places.{Code, code, size, depth}
use Rattle.format_io.specs.OneField.{one, is_group}

abbrev pub list_code : ℕ → List tree.Field → List Code
list_code lv [] = []
list_code lv (f ∷ fs) = code lv (one f) ++ list_code lv fs

abbrev pub list_depth : List tree.Field → ℕ
list_depth [] = 0
list_depth (f ∷ fs) = max (depth (one f)) (list_depth fs)

abbrev pub list_has : List tree.Field → Bool
list_has [] = false
list_has (f ∷ fs) = has_item (steps (one f)) || list_has fs

-- where control goes back to, and whether an edit from there on takes an item
abbrev pub list_place : ℕ → ℕ → List tree.Field → ℕ
list_place found pc [] = found
list_place found pc (f ∷ fs) = list_place (if is_group f then pc else found) (pc + size (one f)) fs

abbrev pub list_cycles : Bool → List tree.Field → Bool
list_cycles found [] = found
list_cycles found (f ∷ fs) = list_cycles ((if is_group f then false else found) || has_item (steps (one f))) fs
