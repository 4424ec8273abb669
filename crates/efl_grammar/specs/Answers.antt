-- What `parse` answers, in the words of the published grammar. What a limit counts stands in crate efl_parse_table.
use Rattle.std.specs.Prelude.{Result, List}
use Rattle.ground.specs.declared.token.Token.{Token}
use Rattle.ground.specs.declared.fault.Fault.{Fault}
use Rattle.ground.specs.declared.fault.Refusal.{Refusal}
use Rattle.efl_tree.specs.declared.procedure.EflProgram as memory
use Rattle.efl_tree.specs.Syntax.{EflProgram}
use Rattle.efl_tree.specs.Views.{program_of}
use Rattle.efl_parse_table.specs.Limits.{meter}
use Rattle.efl_parse.specs.Efl.{grammar}
use Rattle.rat_grammar.specs.Relation as relation
use Rattle.efl_grammar.specs.Programs.{Program}

abbrev pub IsAccepted : List Token → EflProgram → Type 0
IsAccepted = relation.IsAccepted Program grammar meter

abbrev pub IsFirstFault : List Token → Fault → Type 0
IsFirstFault = relation.IsFirstFault Program grammar meter

abbrev pub Answers : List Token → Result memory.EflProgram Refusal → Type 0
Answers = relation.Answers Program grammar meter program_of
