-- A text that passes no limit has at most 500 units: its tree has no more than were opened.
use Rattle.std.proofs.Common.{◌≤◌, ℕ, ◌+◌, arith, List, [], length, refl}
use Rattle.grammar.specs.Stack.{piled}
use Rattle.rat_tree.specs.Syntax.{RatRoutine}
use Rattle.rat_parse_table.specs.declared.table.Terminal.TheVariants as terminals
use Rattle.rat_parse_table.specs.declared.table.Nonterminal.{Nonterminal as ANonterminal}
use Rattle.rat_parse_table.specs.declared.table.Nonterminal.TheVariants as nonterminals
use Rattle.rat_parse_table.specs.declared.table.Production.{Production}
use Rattle.rat_parse_table.specs.declared.table.Production.TheVariants as productions
use Rattle.rat_parse_table.specs.Table.{symbols, nonterminal_of}
use Rattle.rat_parse_values.specs.Kinds as part
use Rattle.rat_parse_values.specs.Values.{Val, nothing, program, at}
use Rattle.rat_parse_values.specs.Values as val
use Rattle.rat_parse_values.specs.Parts.{as_units, as_program, with_routine}
use Rattle.rat_parse.specs.Build.{build}
use Rattle.rat_room.specs.Room.{ParsedHasFewUnits}
use Rattle.rat_room.proofs.MeteredUnits.{one_if}
use Rattle.rat_room.proofs.TreeValues.{all_size, accepted_few}
use Rattle.rat_room.proofs.UnitTokens.{is_unit, counts_units}

-- the units that a value has
abbrev size : ANonterminal → Val → ℕ
size nonterminals.Program v = length (as_program v).routines
size nonterminals.Units v = length (as_units v)
size nonterminals.Unit v = length (with_routine v [])
size _ v = 0

size_with : (v : Val) (us : List RatRoutine) → length (with_routine v us) ≤ length (with_routine v []) + length us
size_with (val.unit (part.routine u)) us = omega arith
size_with _ us = omega arith

size_one : (v : Val) → length (with_routine v []) ≤ 1
size_one (val.unit (part.routine u)) = omega arith
size_one _ = omega arith

made : (p : Production) (vs : List Val) → size (nonterminal_of p) (build p vs) ≤ one_if (is_unit p) + all_size nothing size (piled (λ x. x) (symbols p) []) vs
made productions.Whole vs = omega arith
made productions.BlankLine vs = omega arith
made productions.MoreUnits vs = omega (arith, size_with (at 1 vs) (as_units (at 0 vs)))
made productions.NoUnit vs = omega arith
made productions.OneUnit vs = omega (arith, size_one (build productions.OneUnit vs))
made _ vs = omega arith

pub parsed_has_few_units : ParsedHasFewUnits
parsed_has_few_units ts tree accepted = accepted_few counts_units nothing size made nonterminals.Units terminals.TextEnd refl ts (program tree) accepted
