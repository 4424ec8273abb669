-- What the macro stands for is what the texts under way still stand for.
use Rattle.std.proofs.Common.{◌≡◌, ◌+◌, ◌*◌, [], length}
use Rattle.macro_define.specs.Made.{made}
use Rattle.macro_define.specs.Macros.{replaced}
use Rattle.macro_define.specs.Uses.{still_made, table}
use Rattle.macro_define.proofs.macros.replace.Given as goal

abbrev pub invariant-loop-innermost : goal.invariant-loop-innermost
invariant-loop-innermost l =
    replaced l.dialect (table l.macros) l.place (length (table l.macros)) [] l.number (made l.fn.output)
    ≡ still_made l.dialect (table l.macros) l.place [] l.uses (made l.output)

abbrev pub decreases-loop-innermost : goal.decreases-loop-innermost
decreases-loop-innermost l = 2 * l.output.left + length l.uses
