-- The declarations and what is told behind them are put together.
use Rattle.std.proofs.Common.{ap, subst, ◌∙◌}
use Rattle.std.proofs.lemmas.List.{map-append}
use Rattle.f66_tree.specs.Views.{line_of, lines_of, routine_of}
use Rattle.f66_program.specs.Mentions.{context_of}
use Rattle.rat_tree.specs.Views.{rat_routine_of}
use Rattle.rat_said.specs.Brief.{IsTold}
use Rattle.rat_said.specs.Said.{said_lines, said_routine}
use Rattle.rat_said.proofs.BriefUnits.{put_together}
use Rattle.rat_said.proofs.brief.brief_unit.Goals as goal

pub returns : goal.returns
returns c =
    let s = said_routine (rat_routine_of c.args.unit.now) in
    let d = routine_of c.in_ok-brief.brief in
    let told = lines_of c.in_ok-told.told.items in
    put_together s d (lines_of c.append.new.self.items) told c.in_ok-brief.ensures
    (subst (λ vs. IsTold (context_of d) (said_lines s.header vs) told) c.requires c.in_ok-told.ensures)
    (ap lines_of c.in_ok-append.ensures.items ∙ map-append line_of c.in_ok-brief.brief.statements.items c.in_ok-told.told.items)
