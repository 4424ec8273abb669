-- Variables that were seen, and statements that were told.
use Rattle.std.specs.Prelude.{Bool, List}
use Rattle.std.specs.HashMap.{get_by}
use Rattle.std.specs.Option.{is_some}
use Rattle.std.specs.Str.{bytes_eq}
use Rattle.f66_tree.specs.Syntax.{Text, Line}
use Rattle.f66_tree.specs.Units.{Context}
use Rattle.f66_tree.specs.Views.{lines_of}
use Rattle.rat_said.specs.Brief.{IsTelling}
use Rattle.rat_said.specs.declared.brief.Teller.{Teller}
use Rattle.rat_said.specs.declared.variables.Seen.{Seen}

-- whether a name is among them
abbrev pub has : Seen → Text → Bool
has seen q = is_some (get_by (λ k. bytes_eq q k.now) seen.names)

abbrev pub Tells : Context → List Line → Teller → Type 0
Tells c said t = IsTelling c said (lines_of t.told.items) (has t.seen)
