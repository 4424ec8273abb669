-- Ratfor's grammar, and what a program is in memory.
use Rattle.ground.specs.declared.token.Token.{Token}
use Rattle.grammar.specs.Grammar.{Grammar}
use Rattle.rat_tree.specs.declared.program.RatProgram.{RatProgram}
use Rattle.rat_tree.specs.Views.{program_of}
use Rattle.rat_parse_table.specs.declared.table.Terminal.{Terminal}
use Rattle.rat_parse_table.specs.declared.table.Nonterminal.{Nonterminal}
use Rattle.rat_parse_table.specs.declared.table.Production.{Production}
use Rattle.rat_parse_table.specs.Ratfor.{grammar_with}
use Rattle.rat_parse_values.specs.Values.{Val, tok, program}
use Rattle.rat_parse.specs.Build.{build}

abbrev pub grammar : Grammar Token Terminal Nonterminal Production Val
grammar = grammar_with (λ t. tok t) build

-- its tables alone, which tell whether a text is a program, and make nothing of it
abbrev pub shape : Grammar Token Terminal Nonterminal Production (Unit {0})
shape = grammar_with (λ t. tt) (λ p us. tt)

-- a program in memory, as what a whole text gives
abbrev pub whole : RatProgram → Val
whole p = program (program_of p)
