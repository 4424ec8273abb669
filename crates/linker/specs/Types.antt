-- The types that statements give names (X3.9-1966, section 7.2.1.6).
use Rattle.std.specs.Prelude.{Option, Some, None, if◌then◌else◌}
use Rattle.std.specs.List.{list_any}
use Rattle.std.specs.Str.{bytes_eq}
use Rattle.f66_tree.specs.declared.declaration.TypeWord.{TypeWord}
use Rattle.f66_tree.specs.Syntax.{Text, Act, Typed}

-- the type that a statement gives a name
abbrev pub type_given : Text → Act → Option TypeWord
type_given q (Typed t ds) = if list_any (λ d. bytes_eq q d.name) ds then Some t else None
type_given q _ = None
