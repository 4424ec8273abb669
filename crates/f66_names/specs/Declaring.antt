-- What the statements of a unit declare of its names (X3.9-1966, sections 5.3 and 7.2.1).
use Rattle.std.specs.Prelude.{ℕ, Bool, List, [], ◌∷◌, Option, Some, None, filter, length, nat_lt, if◌then◌else◌}
use Rattle.std.specs.List.{list_any, flat_map}
use Rattle.std.specs.Str.{bytes_eq}
use Rattle.rule_table.specs.Words.{find_map}
use Rattle.f66_tree.specs.declared.declaration.TypeWord.{TypeWord}
use Rattle.f66_tree.specs.Syntax.{Text, Par, Declared, Header, Act, Typed, Dimension, Common}
use Rattle.f66_tree.specs.Units.{Note, Context, is_note}

-- the statements that are not executed
abbrev pub noted : List Act → List Note
noted [] = []
noted (a ∷ rest) = if is_note a then (record { label = None; act = a } ∷ noted rest) else noted rest

-- what names mean in the unit of these statements
abbrev pub context_by : Header → List Act → Context
context_by h acts = record { header = h; notes = noted acts }

abbrev pub names : Text → Declared → Bool
names q d = bytes_eq q d.name

abbrev pub is_sized : Declared → Bool
is_sized d = nat_lt 0 (length d.sizes)

-- the names whose type a statement gives
abbrev pub typed_in : Act → List Declared
typed_in (Typed t ds) = ds
typed_in _ = []

-- the names that a type statement or DIMENSION lists
abbrev pub declared_in : Act → List Declared
declared_in (Typed t ds) = ds
declared_in (Dimension ds) = ds
declared_in _ = []

-- those with dimensions
abbrev pub sized_in : Act → List Declared
sized_in a = filter is_sized (declared_in a)

abbrev pub types : Text → Act → Bool
types q a = list_any (names q) (typed_in a)

abbrev pub sizes : Text → Act → Bool
sizes q a = list_any (names q) (sized_in a)

-- the type that a statement gives a name
abbrev pub type_given : Text → Act → Option TypeWord
type_given q (Typed t ds) = if list_any (names q) ds then Some t else None
type_given q _ = None

-- the number of dimensions, where there are some
abbrev pub dimension_count : List Par → Option ℕ
dimension_count [] = None
dimension_count (n ∷ ns) = Some (length (n ∷ ns))

-- the number of dimensions that a declaration gives a name
abbrev pub count_by : Text → Declared → Option ℕ
count_by q d = if names q d then dimension_count d.sizes else None

-- all names that a statement lists, those in common blocks among them
abbrev pub listed_in : Act → List Declared
listed_in (Typed t ds) = ds
listed_in (Dimension ds) = ds
listed_in (Common areas) = flat_map (λ a. a.list) areas
listed_in _ = []

-- the number of dimensions that a statement gives a name
abbrev pub count_in : Text → Act → Option ℕ
count_in q a = find_map (count_by q) (listed_in a)
