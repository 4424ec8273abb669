-- EFL's grammar, and what a program is in memory.
use Rattle.ground.specs.declared.token.Token.{Token}
use Rattle.grammar.specs.Grammar.{Grammar}
use Rattle.efl_tree.specs.declared.procedure.EflProgram.{EflProgram}
use Rattle.efl_tree.specs.Views.{program_of}
use Rattle.efl_parse_table.specs.declared.table.Terminal.{Terminal}
use Rattle.efl_parse_table.specs.declared.table.Nonterminal.{Nonterminal}
use Rattle.efl_parse_table.specs.declared.table.Production.{Production}
use Rattle.efl_parse_table.specs.Efl.{grammar_with}
use Rattle.efl_parse_values.specs.Values.{Val, tok, program}
use Rattle.efl_parse.specs.Build.{build}

abbrev pub grammar : Grammar Token Terminal Nonterminal Production Val
grammar = grammar_with (λ t. tok t) build

-- a program in memory, as what a whole text gives
abbrev pub whole : EflProgram → Val
whole p = program (program_of p)
