-- Which headers have a text that is read back.
use Rattle.std.specs.Prelude.{◌≡◌, ◌≤◌, true, [], ◌∷◌, length}
use Rattle.std.specs.List.{AllByRecursion}
use Rattle.f66_tree.specs.Syntax.{Text, Header, MainUnit, SubUnit, FuncUnit, DataUnit}
use Rattle.stmt_reader.specs.Levels.{is_name}

-- a name of six characters at most
abbrev pub IsShortName : Text → Type 0
IsShortName x = (is_name x ≡ true) × (length x ≤ 6)

-- a header with such names, and a function with a dummy or more
abbrev pub IsReadableHeader : Header → Type 0
IsReadableHeader MainUnit = Unit {0}
IsReadableHeader (SubUnit x ds) = IsShortName x × AllByRecursion IsShortName ds
IsReadableHeader (FuncUnit w x []) = ⊥
IsReadableHeader (FuncUnit w x (d ∷ ds)) = IsShortName x × AllByRecursion IsShortName (d ∷ ds)
IsReadableHeader DataUnit = Unit {0}

-- a main has none
abbrev pub HasHeader : Header → Type 0
HasHeader MainUnit = ⊥
HasHeader _ = Unit {0}
