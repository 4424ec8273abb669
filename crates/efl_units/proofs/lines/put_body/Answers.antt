-- The statements of the body come behind.
use Rattle.efl_units.proofs.UnitLemmas.{lines_both}
use Rattle.efl_units.proofs.lines.put_body.Goals as goal

pub returns : goal.returns
returns c = λ next. lines_both c.args.lines.now.items c.in_ok-code.code.items _ _ next c.in_ok-append.ensures.items (c.in_ok-code.ensures next)
