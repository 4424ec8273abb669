-- Why `overlaps` keeps its clauses.
use Rattle.std.proofs.Common.{◌∙◌, sym, ap, ℕ, List}
use Rattle.std.specs.Prelude.{nat_lt}
use Rattle.f66_tree.specs.Views.{act_of}
use Rattle.f66_flow.specs.Ranges.{range_ends, range_end, end_at}
use Rattle.f66_flow.specs.Under.{lines_under}
use Rattle.f66_flow.proofs.NestLemmas.{overlap_some, overlap_none}
use Rattle.f66_flow.proofs.rows.overlaps.Goals as goal

pub returns-in-Some : goal.returns-in-Some
returns-in-Some c =
    let ends : List ℕ = range_ends (lines_under c.args.flow.now) in
    let last : ℕ = range_end (lines_under c.args.flow.now) (act_of c.args.kind.now) in
    ap (λ n. nat_lt n c.range_end-in-Some.result) c.range_end.ensures ∙ ap (λ n. nat_lt (end_at ends c.in-Some.outer) n) c.range_end-in-Some.ensures
    ∙ sym (overlap_some ends c.args.i last c.in-Some.outer (sym c.in-Some.ensures) c.requires.nested)

pub returns-in-None : goal.returns-in-None
returns-in-None c =
    sym (overlap_none (range_ends (lines_under c.args.flow.now)) c.args.i (range_end (lines_under c.args.flow.now) (act_of c.args.kind.now)) (sym c.in-None.ensures))
