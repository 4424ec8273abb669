-- The line is plain where the tokens from here on are.
use Rattle.std.proofs.Common.{drop}
use Rattle.macro_define.specs.Plain.{ArePlain}
use Rattle.macro_define.specs.Uses.{table}
use Rattle.macro_define.proofs.plain.are_plain.Given as goal

abbrev pub invariant-loop-token : goal.invariant-loop-token
invariant-loop-token l = ArePlain l.dialect (table l.macros) l.here (drop l.token-index l.line) → ArePlain l.dialect (table l.macros) l.begins l.line
