-- What is counted against the limits: 3 nesting, 5 units, 6 tokens of a unit, 10 nodes of an expression.
use Rattle.std.specs.Prelude.{ℕ, ◌-◌, Bool, true, false, ◌&&◌, nat_lt, nat_eq, Option, Some, None, if◌then◌else◌}
use Rattle.grammar.specs.declared.language.Event.{Event}
use Rattle.grammar.specs.declared.language.Event.TheVariants as events
use Rattle.grammar.specs.Limits.{Meter, more}
use Rattle.rat_parse_table.specs.declared.counts.Counts.{Counts}
use Rattle.rat_parse_table.specs.declared.table.Terminal.{Terminal}
use Rattle.rat_parse_table.specs.declared.table.Terminal.TheVariants as terminals
use Rattle.rat_parse_table.specs.declared.table.Production.{Production}
use Rattle.rat_parse_table.specs.declared.table.Production.TheVariants as productions

abbrev pub first : Counts
first = record { nesting = 0; units = 0; within = false; tokens = 0; expressions = 0; nodes = 0 }

abbrev pub deeper : Counts → Counts
deeper m = record m { nesting = more m.nesting }

abbrev pub shallower : Counts → Counts
shallower m = record m { nesting = m.nesting - 1 }

-- an expression begins; its nodes are counted from these where it is the outermost
abbrev pub begun : ℕ → Counts → Counts
begun n m =
    if nat_eq m.expressions 0 then (record m { expressions = more m.expressions; nodes = n }) else (record m { expressions = more m.expressions })

abbrev pub ended : Counts → Counts
ended m = record m { expressions = m.expressions - 1 }

-- Blocks, control statements and unary operators nest. An element of an implied DO begins behind its name.
abbrev pub opened : Production → Counts → Counts
opened productions.OneUnit m = record m { units = more m.units; within = true }
opened productions.Braces m = deeper m
opened productions.IfStatement m = deeper m
opened productions.WhileStatement m = deeper m
opened productions.ForStatement m = deeper m
opened productions.RepeatStatement m = deeper m
opened productions.DoStatement m = deeper m
opened productions.SwitchStatement m = deeper m
opened productions.Negated m = deeper m
opened productions.SignedTerm m = deeper m
opened productions.Expr m = begun 0 m
opened productions.Ref m = begun 0 m
opened productions.Element m = begun 1 m
opened productions.GroupPrime m = record m { nodes = more m.nodes }
opened _ m = m

abbrev pub closed : Production → Counts → Counts
closed productions.OneUnit m = record m { within = false; tokens = 0 }
closed productions.Braces m = shallower m
closed productions.IfStatement m = shallower m
closed productions.WhileStatement m = shallower m
closed productions.ForStatement m = shallower m
closed productions.RepeatStatement m = shallower m
closed productions.DoStatement m = shallower m
closed productions.SwitchStatement m = shallower m
closed productions.Negated m = shallower m
closed productions.SignedTerm m = shallower m
closed productions.Expr m = ended m
closed productions.Ref m = ended m
closed productions.Element m = ended m
closed _ m = m

-- a number, a truth value, a name or an operator; a group counts where it opens
abbrev pub is_node : Terminal → Bool
is_node terminals.Name = true
is_node terminals.FieldWord = true
is_node terminals.Octal = true
is_node terminals.Number = true
is_node terminals.Truth = true
is_node terminals.Adding = true
is_node terminals.Star = true
is_node terminals.Slash = true
is_node terminals.Power = true
is_node terminals.Relation = true
is_node terminals.And = true
is_node terminals.Or = true
is_node terminals.Not = true
is_node _ = false

abbrev pub nodes_with : Terminal → Counts → ℕ
nodes_with t m = if nat_lt 0 m.expressions && is_node t then more m.nodes else m.nodes

abbrev pub nesting_with : Terminal → ℕ → ℕ
nesting_with terminals.Open n = more n
nesting_with terminals.Close n = n - 1
nesting_with _ n = n

abbrev pub taken : Terminal → Counts → Counts
taken t m = record m { nesting = nesting_with t m.nesting; tokens = more m.tokens; nodes = nodes_with t m }

abbrev pub next : Event Terminal Production → Counts → Counts
next (events.Open p) m = opened p m
next (events.Take t) m = taken t m
next (events.Close p) m = closed p m

-- the smallest limit that is passed
abbrev pub passed : Counts → Option ℕ
passed m =
    if nat_lt 100 m.nesting then Some 3
    else (if nat_lt 500 m.units then Some 5
    else (if m.within && nat_lt 20000 m.tokens then Some 6 else (if nat_lt 1000 m.nodes then Some 10 else None)))

abbrev pub meter : Meter Terminal Production Counts
meter = record { first = first; next = next; passed = passed }
