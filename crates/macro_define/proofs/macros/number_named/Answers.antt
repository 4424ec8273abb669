-- Ratfor compares names as they are written.
use Rattle.std.proofs.Common.{ap, sym, ◌∙◌}
use Rattle.macro_define.specs.Macros.{key, number_of}
use Rattle.macro_define.specs.Uses.{table}
use Rattle.macro_define.proofs.macros.number_named.Goals as goal

pub returns-in-Ratfor-clause-number : goal.returns-in-Ratfor-clause-number
returns-in-Ratfor-clause-number c =
    c.number_of.ensures.number ∙ ap (λ d. number_of (table c.args.macros.now) (key d c.args.name.now)) (sym c.in-Ratfor.is)
