-- What is counted against the limits: 3 nesting, 5 procedures, 6 tokens of a procedure, 10 nodes of an expression.
use Rattle.std.specs.Prelude.{ℕ, ◌-◌, Bool, true, false, ◌&&◌, nat_lt, Option, Some, None, if◌then◌else◌}
use Rattle.grammar.specs.declared.language.Event.{Event}
use Rattle.grammar.specs.declared.language.Event.TheVariants as events
use Rattle.grammar.specs.Limits.{Meter, more}
use Rattle.efl_parse_table.specs.declared.counts.Counts.{Counts}
use Rattle.efl_parse_table.specs.declared.table.Terminal.{Terminal}
use Rattle.efl_parse_table.specs.declared.table.Terminal.TheVariants as terminals
use Rattle.efl_parse_table.specs.declared.table.Production.{Production}
use Rattle.efl_parse_table.specs.declared.table.Production.TheVariants as productions

abbrev pub first : Counts
first = record { nesting = 0; procedures = 0; within = false; tokens = 0; counting = false; nodes = 0 }

abbrev pub deeper : Counts → Counts
deeper m = record m { nesting = more m.nesting }

abbrev pub shallower : Counts → Counts
shallower m = record m { nesting = m.nesting - 1 }

-- a whole expression begins, of which some nodes stand before
abbrev pub begun : ℕ → Counts → Counts
begun n m = record m { counting = true; nodes = n }

abbrev pub ended : Counts → Counts
ended m = record m { counting = false }

-- Blocks, shapes, control statements and unary operators nest. The first name of an act stands before it.
abbrev pub opened : Production → Counts → Counts
opened productions.OneProcedure m = record m { procedures = more m.procedures; within = true }
opened productions.Braces m = deeper m
opened productions.Shape m = deeper m
opened productions.IfStatement m = deeper m
opened productions.WhileStatement m = deeper m
opened productions.ForStatement m = deeper m
opened productions.RepeatStatement m = deeper m
opened productions.DoStatement m = deeper m
opened productions.SwitchStatement m = deeper m
opened productions.Negated m = deeper m
opened productions.Signed m = deeper m
opened productions.Stepped m = deeper m
opened productions.StepDeed m = deeper (begun 0 m)
opened productions.WholeExpr m = begun 0 m
opened productions.WholePlace m = begun 0 m
opened productions.DeedOpen m = begun 1 m
opened productions.DeedPlace m = begun 1 m
opened productions.GroupAtom m = record m { nodes = more m.nodes }
opened _ m = m

abbrev pub closed : Production → Counts → Counts
closed productions.OneProcedure m = record m { within = false; tokens = 0 }
closed productions.Braces m = shallower m
closed productions.Shape m = shallower m
closed productions.IfStatement m = shallower m
closed productions.WhileStatement m = shallower m
closed productions.ForStatement m = shallower m
closed productions.RepeatStatement m = shallower m
closed productions.DoStatement m = shallower m
closed productions.SwitchStatement m = shallower m
closed productions.Negated m = shallower m
closed productions.Signed m = shallower m
closed productions.Stepped m = shallower m
closed productions.StepDeed m = shallower (ended m)
closed productions.WholeExpr m = ended m
closed productions.WholePlace m = ended m
closed productions.DeedOpen m = ended m
closed productions.DeedPlace m = ended m
closed _ m = m

-- a name, a number, a truth value or an operator; a group counts where it opens
abbrev pub is_node : Terminal → Bool
is_node terminals.Name = true
is_node terminals.Letter = true
is_node terminals.WidthLetter = true
is_node terminals.CharLetter = true
is_node terminals.SkipLetter = true
is_node terminals.Number = true
is_node terminals.Truth = true
is_node terminals.Plus = true
is_node terminals.Minus = true
is_node terminals.Star = true
is_node terminals.Slash = true
is_node terminals.Power = true
is_node terminals.Relation = true
is_node terminals.And = true
is_node terminals.Or = true
is_node terminals.Not = true
is_node terminals.Assign = true
is_node terminals.OperatorAssign = true
is_node terminals.Stepper = true
is_node _ = false

abbrev pub nodes_with : Terminal → Counts → ℕ
nodes_with t m = if m.counting && is_node t then more m.nodes else m.nodes

abbrev pub nesting_with : Terminal → ℕ → ℕ
nesting_with terminals.Open n = more n
nesting_with terminals.Close n = n - 1
nesting_with _ n = n

abbrev pub taken : Terminal → Counts → Counts
taken t m = record m { nesting = nesting_with t m.nesting; tokens = more m.tokens; nodes = nodes_with t m }

abbrev pub next : Event Terminal Production → Counts → Counts
next (events.Open p) m = opened p m
next (events.Take t) m = taken t m
next (events.Close p) m = closed p m

-- the smallest limit that is passed
abbrev pub passed : Counts → Option ℕ
passed m =
    if nat_lt 100 m.nesting then Some 3
    else (if nat_lt 500 m.procedures then Some 5
    else (if m.within && nat_lt 20000 m.tokens then Some 6 else (if nat_lt 1000 m.nodes then Some 10 else None)))

abbrev pub meter : Meter Terminal Production Counts
meter = record { first = first; next = next; passed = passed }
