-- One field of a format.
use Rattle.std.specs.Prelude.{Bool, true, false}
use Rattle.f66_tree.specs.declared.format.Field as tree
use Rattle.f66_tree.specs.Views.{field_then}
use Rattle.f66_tree.specs.Fields.{Fields, NoField}

abbrev pub one : tree.Field → Fields
one f = field_then f NoField

abbrev pub is_group : tree.Field → Bool
is_group (tree.Group' n shape inside) = true
is_group _ = false
