-- Why `beginning_on_top` keeps its clauses.
use Rattle.std.proofs.Common.{◌∙◌, sym, ap, length, ◌-◌, option_map}
use Rattle.std.specs.List.{slice_get}
use Rattle.f66_flow.proofs.StackLemmas.{top_of_at}
use Rattle.f66_flow.proofs.ranges.beginning_on_top.Goals as goal

pub returns-in-Some : goal.returns-in-Some
returns-in-Some c =
    ap (option_map (λ t. t.0)) (c.in-Some.ensures.value ∙ ap (λ xs. slice_get xs (length xs - 1)) c.deref.ensures.value ∙ sym (top_of_at c.args.stack.now.items))
