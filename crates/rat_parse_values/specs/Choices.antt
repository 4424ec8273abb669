-- An `if` by what its part behind `else` gives in memory.
use Rattle.std.specs.Prelude.{Option, None, Some}
use Rattle.std.specs.declared.alloc.Global.{Global}
use Rattle.std.specs.declared.boxed.Box.{Box}
use Rattle.ground.specs.declared.place.Place.{Place}
use Rattle.f66_tree.specs.Syntax.{Formula}
use Rattle.rat_tree.specs.declared.program.RatStmt.{RatStmt}
use Rattle.rat_tree.specs.Syntax.{Command, If, IfElse}
use Rattle.rat_tree.specs.Views as trees
use Rattle.rat_parse_values.specs.Values.{Val}
use Rattle.rat_parse_values.specs.Values as val
use Rattle.rat_parse_values.specs.Kinds as part

abbrev pub command_if_any : Val → Option Command
command_if_any (val.statement (part.command p c)) = Some c
command_if_any _ = None

abbrev pub boxed_command : Option (Box RatStmt Global) → Option Command
boxed_command None = None
boxed_command (Some b) = Some (trees.command b.value)

abbrev pub chosen : Place → Formula → Command → Option Command → Command
chosen p f c None = If p f c
chosen p f c (Some d) = IfElse p f c d
