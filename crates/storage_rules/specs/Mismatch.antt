-- Blocks that have another size than in the first unit that names them.
use Rattle.std.specs.Prelude.{◌≡◌, ◌≢◌, ◌<◌, ℕ, ℤ, Bool, true, false, not, List, Option, Some, MatchOption}
use Rattle.std.proofs.Common.{int_eq}
use Rattle.std.specs.List.{slice_get, list_any}
use Rattle.rule_table.specs.Words.{is_some_and}
use Rattle.ground.specs.declared.place.Place.{Place}
use Rattle.f66_tree.specs.Syntax.{Text, Act, Common, Line, Routine}
use Rattle.f66_program.specs.Linking.{names_block, unit_names_block}
use Rattle.storage_rules.specs.Blocks.{HasSize}

-- a COMMON names a block whose label passes the test
abbrev pub any_label : (Text → Bool) → Act → Bool
any_label test (Common areas) = list_any (λ a. is_some_and test a.name) areas
any_label test _ = false

-- there are two sizes, and they differ
abbrev pub differ : Option ℤ → Option ℤ → Bool
differ (Some m) (Some n) = not (int_eq m n)
differ _ _ = false

abbrev pub is_other : (Text → Option ℤ) → (Text → Option ℤ) → Text → Bool
is_other firsts sizes q = differ (firsts q) (sizes q)

-- the first of the first n units that names a block, in which it has this size
pub record IsFirstSize (rs : List Routine) (n : ℕ) (q : Text) (z : ℤ) : Type 0 where
  pub other : ℕ
  pub unit : Routine
  pub here : slice_get rs other ≡ Some unit
  pub before : other < n
  pub names : unit_names_block (Some q) unit ≡ true
  pub none : (v : ℕ) (r : Routine) → v < other → slice_get rs v ≡ Some r → unit_names_block (Some q) r ≡ false
  pub size : HasSize unit q z

-- of each block that one of the first n units names its size in the first of them, and of no other
abbrev pub AreFirstSizes : List Routine → ℕ → (Text → Option ℤ) → Type 0
AreFirstSizes rs n find =
    (q : Text) → MatchOption (find q) ((v : ℕ) (r : Routine) → v < n → slice_get rs v ≡ Some r → unit_names_block (Some q) r ≡ false) (IsFirstSize rs n q)

-- the block has another size in the unit r, which has the number n, than in the first unit that names it
pub record IsOther (rs : List Routine) (n : ℕ) (r : Routine) (q : Text) : Type 0 where
  pub first_size : ℤ
  pub size : ℤ
  pub first : IsFirstSize rs n q first_size
  pub is_size : HasSize r q size
  pub apart : first_size ≢ size

-- the statement of the unit names such a block
abbrev pub NamesOther : List Routine → ℕ → Routine → Line → Type 0
NamesOther rs n r l = (q : Text) × (names_block (Some q) l.act ≡ true) × IsOther rs n r q

abbrev pub IsClearUnit : List Routine → ℕ → Routine → Type 0
IsClearUnit rs n r = (i : ℕ) (l : Line) → slice_get r.lines i ≡ Some l → ¬ NamesOther rs n r l

-- no statement of the first n units does
abbrev pub AreClearBefore : List Routine → ℕ → Type 0
AreClearBefore rs n = (u : ℕ) (r : Routine) → u < n → slice_get rs u ≡ Some r → IsClearUnit rs u r

-- no statement does
abbrev pub AreClear : List Routine → Type 0
AreClear rs = (u : ℕ) (r : Routine) → slice_get rs u ≡ Some r → IsClearUnit rs u r

-- the first statement that does
pub record IsFirstOther (rs : List Routine) (spot : Place) : Type 0 where
  pub number : ℕ
  pub unit : Routine
  pub index : ℕ
  pub line : Line
  pub here : slice_get rs number ≡ Some unit
  pub stands : slice_get unit.lines index ≡ Some line
  pub other : NamesOther rs number unit line
  pub units : AreClearBefore rs number
  pub lines : (i : ℕ) (l : Line) → i < index → slice_get unit.lines i ≡ Some l → ¬ NamesOther rs number unit l
  pub place : line.place ≡ spot
