-- What is answered by the table's grammar is what is answered by the published one.
use Rattle.std.proofs.Common.{List, refl}
use Rattle.std.specs.Prelude.{Result}
use Rattle.ground.specs.declared.token.Token.{Token}
use Rattle.ground.specs.declared.fault.Refusal.{Refusal}
use Rattle.grammar.specs.Grammar.{EndsWith}
use Rattle.grammar.specs.Answers as table
use Rattle.efl_tree.specs.declared.procedure.EflProgram as memory
use Rattle.efl_tree.specs.Views.{program_of}
use Rattle.efl_parse_table.specs.Efl.{certificate}
use Rattle.efl_parse_table.specs.Limits.{meter}
use Rattle.efl_parse_values.specs.Values.{program}
use Rattle.efl_parse.specs.Efl.{grammar, whole}
use Rattle.rat_grammar.specs.Tokens.{one}
use Rattle.rat_grammar.specs.Relation.{EndsText}
use Rattle.rat_grammar.proofs.Related.{are_accepted, are_first}
use Rattle.rat_grammar.proofs.Related as related
use Rattle.efl_grammar.specs.Programs.{Program}
use Rattle.efl_grammar.specs.Answers.{Answers}
use Rattle.efl_grammar.specs.Laws.{AnswersArePublished}
use Rattle.efl_grammar.proofs.Published.{same}

pub are_published : AnswersArePublished
are_published = record { accepted = are_accepted Program grammar meter (λ r. program r) same; faults = are_first Program grammar meter (λ r. program r) same }

-- what the table's parser answers
pub answered : (ts : List Token) (result : Result memory.EflProgram Refusal) → table.Answers grammar meter whole ts result → Answers ts result
answered ts result h = related.answered Program grammar meter (λ r. program r) same program_of ts result h

-- the table sees the end of a text there
pub ends : (ts : List Token) → EndsText ts → EndsWith grammar certificate.end ts
ends ts (before, last, whole_is, one) = (before, _, whole_is, refl)
