-- How the areas of variables become known, one variable after the other.
use Rattle.std.specs.Prelude.{◌≡◌, ℕ, ◌+◌, Bool, List, [], ◌++◌, length, map, filter, find, Option, Some, None, option_map, unwrap_or, if◌then◌else◌}
use Rattle.std.specs.HashMap.{get_by}
use Rattle.std.specs.Option.{option_or}
use Rattle.std.specs.Str.{bytes_eq}
use Rattle.rule_table.specs.Words.{is_some_and, first_place}
use Rattle.efl_tree.specs.Syntax.{Text, EflVar}
use Rattle.efl_scope.specs.DataTypes.{DataType}
use Rattle.efl_scope.specs.Scopes.{Variable, variable}
use Rattle.efl_initial_values.specs.declared.areas.Areas.{Areas}
use Rattle.efl_initial_values.specs.declared.areas.Shared.{Shared}
use Rattle.efl_initial_values.specs.declared.areas.Members.{Members}

-- ---- what was noted ----

-- an area and a number there
abbrev pub shared_as : Option Shared → Option (Text × ℕ)
shared_as o = option_map (λ s. (s.area.now, s.number)) o

-- of a name that was noted, its area and its number if it is in one
abbrev pub noted_in : Areas → Text → Option (Option (Text × ℕ))
noted_in areas x = option_map shared_as (get_by (λ k. bytes_eq x k.now) areas.table)

-- how many variables of an area came
abbrev pub count_in : Members → Text → ℕ
count_in members q = unwrap_or (option_map (λ v. length v.items) (get_by (λ k. bytes_eq q k.now) members.table)) 0

-- ---- what is to be noted ----

abbrev pub is_in : Text → Variable → Bool
is_in q v = is_some_and (bytes_eq q) v.area

abbrev pub is_named : Text → Variable → Bool
is_named x v = bytes_eq x v.name

-- the place of the first of this name among those of an area
abbrev pub place_in : List Variable → Text → Text → ℕ
place_in vs q x = unwrap_or (first_place (is_named x) (filter (is_in q) vs)) 0

abbrev pub shared_among : List Variable → Text → Variable → Option (Text × ℕ)
shared_among vs x v = option_map (λ q. (q, place_in vs q x)) v.area

-- these variables came, and no others
pub record Holds (vs : List Variable) (members : Members) (areas : Areas) : Type 0 where
  pub noted : (x : Text) → noted_in areas x ≡ option_map (shared_among vs x) (find (is_named x) vs)
  pub counted : (q : Text) → count_in members q ≡ length (filter (is_in q) vs)

-- ---- what comes ----

-- a name, where it is not noted yet
abbrev pub note_if : Bool → Option (Text × ℕ) → Option (Option (Text × ℕ))
note_if b s = if b then Some s else None

abbrev pub one_if : Bool → ℕ
one_if b = if b then 1 else 0

-- a variable of this area and name
pub record Notes (q : Option Text) (x : Text) (members : Members) (areas : Areas) (after : Members) (later : Areas) : Type 0 where
  pub noted : (y : Text) → noted_in later y ≡ option_or (noted_in areas y) (note_if (bytes_eq y x) (option_map (λ p. (p, count_in members p)) q))
  pub counted : (p : Text) → count_in after p ≡ count_in members p + one_if (is_some_and (bytes_eq p) q)

abbrev pub variables_of : Option Text → DataType → List EflVar → List Variable
variables_of q t vs = map (variable [] q t) vs

-- these variables
abbrev pub Adds : List Variable → Members → Areas → Members → Areas → Type 0
Adds ws members areas after later = (vs : List Variable) → Holds vs members areas → Holds (vs ++ ws) after later
