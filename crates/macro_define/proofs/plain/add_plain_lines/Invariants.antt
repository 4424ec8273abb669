-- What was passed, where the line that was taken is still to come, stands for itself.
use Rattle.std.proofs.Common.{◌≡◌, ◌++◌, length}
use Rattle.macro_define.specs.Made.{made}
use Rattle.macro_define.specs.Plain.{ArePassed}
use Rattle.macro_define.specs.Uses.{table}
use Rattle.macro_define.proofs.plain.add_plain_lines.Given as goal

abbrev pub invariant-loop-dialect : goal.invariant-loop-dialect
invariant-loop-dialect l =
    ArePassed l.dialect (table l.macros) l.begins l.fn.tokens.tokens (l.line.items ++ l.tokens.tokens) (made l.fn.output) (made l.output) l.later
    × (l.tokens.fault ≡ l.fn.tokens.fault)

abbrev pub decreases-loop-dialect : goal.decreases-loop-dialect
decreases-loop-dialect l = length (l.line.items ++ l.tokens.tokens)
