-- What statements are in memory, and what may stand behind them.
use Rattle.std.specs.Prelude.{Option, None, Some, List, [], ◌∷◌}
use Rattle.ground.specs.declared.place.Place.{Place}
use Rattle.f66_tree.specs.declared.expression.Expr.{Expr}
use Rattle.f66_tree.specs.Syntax.{Formula}
use Rattle.f66_tree.specs.Views.{formula_of}
use Rattle.rat_tree.specs.declared.program.RatStmt.{RatStmt}
use Rattle.rat_tree.specs.declared.program.RatCase.{RatCase}
use Rattle.rat_tree.specs.declared.program.RatKind.{RatKind}
use Rattle.rat_tree.specs.Syntax.{Command, Repeat, RepeatUntil, Commands, AndCommand, Clauses}
use Rattle.rat_tree.specs.Views.{command_of, clause_then}
use Rattle.rat_tree.specs.Views as trees
use Rattle.rat_parse_values.specs.Values.{Val, command}
use Rattle.rat_parse_values.specs.Values as val
use Rattle.rat_parse_values.specs.Kinds as part

abbrev pub stated : RatStmt → Val
stated s = command s.place (trees.command s)

abbrev pub unlabelled : Place → RatKind → Val
unlabelled p k = command p (command_of None p k)

-- the condition of an `until`, with its place
abbrev pub until_in : Val → Option (Formula × Place)
until_in (val.expression (part.located p f)) = Some (f, p)
until_in _ = None

abbrev pub until_of : Option (Expr × Place) → Option (Formula × Place)
until_of None = None
until_of (Some u) = Some (formula_of u.0, u.1)

-- these statements, and others behind them
abbrev pub before : List RatStmt → Commands → Commands
before [] rest = rest
before (s ∷ ss) rest = AndCommand (trees.command s) (before ss rest)

abbrev pub before_clauses : List RatCase → Clauses → Clauses
before_clauses [] rest = rest
before_clauses (c ∷ cs) rest = clause_then c (before_clauses cs rest)

-- a repeat by its `until`
abbrev pub repeated_so : Place → Command → Option (Formula × Place) → Command
repeated_so p c None = Repeat p c
repeated_so p c (Some u) = RepeatUntil p c u.0 u.1
