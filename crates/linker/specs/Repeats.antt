-- Names that are given twice, as tests of each part of a program.
use Rattle.std.specs.Prelude.{◌≡◌, ◌<◌, ℕ, zero, suc, Bool, true, false, not, ◌||◌, List, Option, Some, None}
use Rattle.std.specs.List.{slice_get, list_any}
use Rattle.rule_table.specs.Words.{is_below, is_some_and}
use Rattle.ground.specs.declared.place.Place.{Place}
use Rattle.f66_tree.specs.Syntax.{Text, Header, SubUnit, FuncUnit, Act, Common, Routine}
use Rattle.f66_program.specs.Calls.{unit_named}
use Rattle.f66_program.specs.Linking.{is_intrinsic, place_of_part}
use Rattle.linker.specs.CallRules.{is_nothing}

-- the name that other units call a unit by
abbrev pub own_name : Header → Option Text
own_name (SubUnit x ds) = Some x
own_name (FuncUnit t x ds) = Some x
own_name _ = None

-- an earlier unit or an intrinsic function has the name
abbrev pub is_taken : List Routine → ℕ → Text → Bool
is_taken rs u x = is_below u (unit_named x rs) || is_intrinsic x

abbrev pub header_repeats : List Routine → ℕ → Header → Bool
header_repeats rs u h = is_some_and (is_taken rs u) (own_name h)

-- a unit has the name
abbrev pub is_there : List Routine → Text → Bool
is_there rs x = not (is_nothing (unit_named x rs))

abbrev pub block_repeats : List Routine → Option Text → Bool
block_repeats rs b = is_some_and (is_there rs) b

abbrev pub act_repeats : List Routine → Act → Bool
act_repeats rs (Common areas) = list_any (λ a. block_repeats rs a.name) areas
act_repeats rs _ = false

-- the part with this number of the unit r, which has the number u
abbrev pub part_repeats : List Routine → ℕ → Routine → ℕ → Bool
part_repeats rs u r zero = header_repeats rs u r.header
part_repeats rs u r (suc i) = is_some_and (λ s. act_repeats rs s.act) (slice_get r.lines i)

-- no part of the unit does
abbrev pub IsClearUnit : List Routine → ℕ → Routine → Type 0
IsClearUnit rs u r = (i : ℕ) → part_repeats rs u r i ≡ false

-- the first part of the unit that does stands there
pub record IsFirstIn (rs : List Routine) (u : ℕ) (r : Routine) (spot : Place) : Type 0 where
  pub part : ℕ
  pub broken : part_repeats rs u r part ≡ true
  pub earlier : (i : ℕ) → i < part → part_repeats rs u r i ≡ false
  pub place : place_of_part r part ≡ Some spot

-- no part of the units before does
abbrev pub AreClearBefore : List Routine → ℕ → Type 0
AreClearBefore rs n = (u : ℕ) (r : Routine) → u < n → slice_get rs u ≡ Some r → IsClearUnit rs u r

-- no part of any unit does
abbrev pub AreClear : List Routine → Type 0
AreClear rs = (u : ℕ) (r : Routine) → slice_get rs u ≡ Some r → IsClearUnit rs u r

-- the first part of all units that does stands there
pub record IsFirstRepeat (rs : List Routine) (spot : Place) : Type 0 where
  pub number : ℕ
  pub unit : Routine
  pub here : slice_get rs number ≡ Some unit
  pub first : IsFirstIn rs number unit spot
  pub earlier : AreClearBefore rs number
