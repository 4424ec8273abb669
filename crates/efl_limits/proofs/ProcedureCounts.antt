-- A text that passes no limit has at most 500 procedures: its tree has no more than were opened.
use Rattle.std.proofs.Common.{◌≤◌, ℕ, ◌+◌, arith, List, [], length, refl}
use Rattle.grammar.specs.Stack.{piled}
use Rattle.efl_parse_table.specs.declared.table.Terminal.TheVariants as terminals
use Rattle.efl_parse_table.specs.declared.table.Nonterminal.{Nonterminal as ANonterminal}
use Rattle.efl_parse_table.specs.declared.table.Nonterminal.TheVariants as nonterminals
use Rattle.efl_parse_table.specs.declared.table.Production.{Production}
use Rattle.efl_parse_table.specs.declared.table.Production.TheVariants as productions
use Rattle.efl_parse_table.specs.Table.{symbols, nonterminal_of}
use Rattle.efl_parse_values.specs.Values.{Val, nothing, program}
use Rattle.efl_parse_values.specs.Parts.{as_procedures, as_program}
use Rattle.efl_parse.specs.Build.{build, build_lists, build_statements, build_records}
use Rattle.efl_parse.specs.Phrases.{build_expressions, build_acts, build_types, build_declarations}
use Rattle.rat_room.proofs.MeteredUnits.{one_if}
use Rattle.rat_room.proofs.TreeValues.{all_size, accepted_few}
use Rattle.efl_limits.specs.Laws.{ParsedHasFewProcedures}
use Rattle.efl_limits.proofs.ProcedureTokens.{is_procedure, counts_units}

-- the procedures that a value has
abbrev size : ANonterminal → Val → ℕ
size nonterminals.Program v = length (as_program v).procedures
size nonterminals.Procedures v = length (as_procedures v)
size nonterminals.ProcedureText v = 1
size _ v = 0

made : (p : Production) (vs : List Val) → size (nonterminal_of p) (build p vs) ≤ one_if (is_procedure p) + all_size nothing size (piled (λ x. x) (symbols p) []) vs
unfolding build build_lists build_statements build_records build_expressions build_acts build_types build_declarations
made productions.Whole vs = omega arith
made productions.BlankLine vs = omega arith
made productions.MoreProcedures vs = omega arith
made productions.NoProcedure vs = omega arith
made productions.OneProcedure vs = omega arith
made _ vs = omega arith

pub parsed_has_few_procedures : ParsedHasFewProcedures
parsed_has_few_procedures ts tree accepted = accepted_few counts_units nothing size made nonterminals.Procedures terminals.TextEnd refl ts (program tree) accepted
