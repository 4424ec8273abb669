-- The names that a part uses by themselves, one behind the other.
use Rattle.std.specs.Prelude.{List, map, filter_map, Option, Some, None}
use Rattle.std.specs.Borrow.{Bor}
use Rattle.efl_tree.specs.Syntax.{Text}
use Rattle.efl_scope.specs.Uses.{Use, Named}

abbrev pub name_in : Use → Option Text
name_in (Named x) = Some x
name_in _ = None

abbrev pub named_in : List Use → List Text
named_in us = filter_map name_in us

abbrev pub texts_of : List (Bor Text) → List Text
texts_of ns = map (λ n. n.now) ns
