-- Why `ends_before` keeps its clauses.
use Rattle.std.proofs.Common.{◌∙◌, sym, ap, length, ◌-◌}
use Rattle.std.specs.List.{slice_get}
use Rattle.f66_flow.specs.Innermost.{ends_before}
use Rattle.f66_flow.proofs.StackLemmas.{top_of_at}
use Rattle.f66_flow.proofs.ranges.ends_before.Goals as goal

pub returns-in-Some : goal.returns-in-Some
returns-in-Some c =
    ap (ends_before c.args.place) (c.in-Some.ensures.value ∙ ap (λ xs. slice_get xs (length xs - 1)) c.deref.ensures.value ∙ sym (top_of_at c.args.stack.now.items))
