-- What `parse` answers, in the words of the published grammar. What a limit counts stands in crate rat_parse_table.
use Rattle.std.specs.Prelude.{Result, List}
use Rattle.ground.specs.declared.token.Token.{Token}
use Rattle.ground.specs.declared.fault.Fault.{Fault}
use Rattle.ground.specs.declared.fault.Refusal.{Refusal}
use Rattle.rat_tree.specs.declared.program.RatProgram as memory
use Rattle.rat_tree.specs.Syntax.{RatProgram}
use Rattle.rat_tree.specs.Views.{program_of}
use Rattle.rat_parse_table.specs.Limits.{meter}
use Rattle.rat_parse.specs.Ratfor.{grammar}
use Rattle.rat_grammar.specs.Programs.{Program}
use Rattle.rat_grammar.specs.Relation as relation

abbrev pub IsAccepted : List Token → RatProgram → Type 0
IsAccepted = relation.IsAccepted Program grammar meter

abbrev pub IsFirstFault : List Token → Fault → Type 0
IsFirstFault = relation.IsFirstFault Program grammar meter

abbrev pub Answers : List Token → Result memory.RatProgram Refusal → Type 0
Answers = relation.Answers Program grammar meter program_of
