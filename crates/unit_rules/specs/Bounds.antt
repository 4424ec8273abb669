-- The dimensions that statements give names, as the tables have them.
use Rattle.std.specs.Prelude.{List, [], ◌∷◌, Option, Some, None, if◌then◌else◌}
use Rattle.rule_table.specs.Words.{find_map}
use Rattle.f66_tree.specs.Syntax.{Text, Par, Declared, Act}
use Rattle.f66_names.specs.Declaring.{names, listed_in}

abbrev pub some_sizes : List Par → Option (List Par)
some_sizes [] = None
some_sizes (n ∷ ns) = Some (n ∷ ns)

abbrev pub sizes_by : Text → Declared → Option (List Par)
sizes_by q d = if names q d then some_sizes d.sizes else None

-- the dimensions that a statement gives a name, where it gives some
abbrev pub sizes_given : Text → Act → Option (List Par)
sizes_given q a = find_map (sizes_by q) (listed_in a)
