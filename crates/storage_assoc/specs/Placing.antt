-- The names that statements declare, and those that are not noted.
use Rattle.std.specs.Prelude.{Bool, true, false, List, [], Option, None, Some}
use Rattle.f66_tree.specs.Syntax.{Declared, Act, Typed, Dimension}

-- the names that a type statement or DIMENSION lists
abbrev pub declared_in : Act → List Declared
declared_in (Typed t ds) = ds
declared_in (Dimension ds) = ds
declared_in _ = []

abbrev pub is_none : {V : Type 0} → Option V → Bool
is_none None = true
is_none (Some v) = false
