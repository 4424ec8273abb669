-- The dimensions that statements give names (X3.9-1966, section 7.2.1.1).
use Rattle.std.specs.Prelude.{List, [], ◌∷◌, Option, Some, None, if◌then◌else◌}
use Rattle.std.specs.List.{flat_map}
use Rattle.std.specs.Str.{bytes_eq}
use Rattle.rule_table.specs.Words.{find_map}
use Rattle.f66_tree.specs.Syntax.{Text, Par, Declared, Act, Typed, Dimension, Common}

-- the dimensions, where there are some
abbrev pub given : List Par → Option (List Par)
given [] = None
given (n ∷ ns) = Some (n ∷ ns)

-- the dimensions that a declaration gives a name
abbrev pub given_by : Text → Declared → Option (List Par)
given_by q d = if bytes_eq q d.name then given d.sizes else None

-- all names that a statement lists, those in common blocks among them
abbrev pub listed_in : Act → List Declared
listed_in (Typed t ds) = ds
listed_in (Dimension ds) = ds
listed_in (Common areas) = flat_map (λ a. a.list) areas
listed_in _ = []

-- the dimensions that a statement gives a name
abbrev pub dims_in : Text → Act → Option (List Par)
dims_in q a = find_map (given_by q) (listed_in a)
