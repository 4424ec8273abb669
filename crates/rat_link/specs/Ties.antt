-- The statements that tie places to one another.
use Rattle.std.specs.Prelude.{Bool, true, false}
use Rattle.f66_tree.specs.Syntax.{Act, Common, Equivalence}

abbrev pub is_tying : Act → Bool
is_tying (Common areas) = true
is_tying (Equivalence groups) = true
is_tying a = false
