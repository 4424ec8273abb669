-- Why `enters_at` keeps its clauses.
use Rattle.std.proofs.Common.{◌∙◌, sym, ap}
use Rattle.std.specs.Prelude.{not}
use Rattle.f66_flow.specs.Ranges.{range_ends}
use Rattle.f66_flow.specs.Under.{lines_under}
use Rattle.f66_flow.proofs.NestLemmas.{enter_some, enter_none}
use Rattle.f66_flow.proofs.rows.enters_at.Goals as goal

pub returns-in-Some : goal.returns-in-Some
returns-in-Some c =
    ap not c.holds.ensures
    ∙ sym (enter_some (range_ends (lines_under c.args.flow.now)) c.args.i c.args.place c.in-Some.inner (sym c.in-Some.ensures) c.requires.nested)

pub returns-in-None : goal.returns-in-None
returns-in-None c = sym (enter_none (range_ends (lines_under c.args.flow.now)) c.args.i c.args.place (sym c.in-None.ensures))
