-- Where the texts of macros stand that are under way.
use Rattle.std.specs.Prelude.{◌≡◌, ℕ, List, Some, slice_get, nat_eq}
use Rattle.std.specs.HashMap.{HashMap, get}
use Rattle.macro_define.specs.declared.uses.Use.{Use}

-- the table has the place of each
abbrev pub IsPlaced : {S : Type 0} → List Use → HashMap ℕ ℕ S → Type 0
IsPlaced us places = (i : ℕ) (u : Use) → slice_get us i ≡ Some u → get nat_eq places u.number ≡ Some i
