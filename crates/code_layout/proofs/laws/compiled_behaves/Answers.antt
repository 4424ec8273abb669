-- Its layout is a program as the law of code asks.
use Rattle.std.proofs.Common.{◌≡◌, ◌∙◌, length, ap, sym, subst}
use Rattle.linker.specs.CallViews.{units_in}
use Rattle.whole_program.specs.Linkage.{linkage_of}
use Rattle.stack_code.specs.StackMachine.{Ends, start, first_world}
use Rattle.f66_tree.specs.Execution.{f66}
use Rattle.code_gen.specs.Behaves.{program}
use Rattle.code_emit.specs.Plans.{all_formats, plan_at}
use Rattle.code_layout.specs.Compiled.{program_of}
use Rattle.code_layout.specs.Order.{others_of}
use Rattle.code_layout.specs.Ranked.{bound_of, initial_of}
use Rattle.code_layout.specs.Spreading.{layout_of}
use Rattle.code_layout.specs.Tabled.{lines_in, order_in}
use Rattle.code_layout.proofs.laws.compiled_behaves.Goals as goal

pub returns : goal.returns
returns c = λ l made is input n well.
    let others = others_of l.main (length (units_in l.calls)) in
    let plans = all_formats (lines_in l) (order_in l) in
    let y = layout_of l is.rank in
    let same : program_of made ≡ program y others plans =
    ap (λ code. record { code = code; plans = made.plans.items }) is.code ∙ ap (λ fs. record { code = (program y others plans).code; plans = fs }) is.plans in
    let there = c.ranked_is_program.ensures (units_in l.calls) (linkage_of l) (lines_in l) (plan_at (lines_in l) (order_in l)) (initial_of l) (bound_of l) is.rank others plans is.ranked in
    subst (λ p. Ends p start (first_world input n) (f66 (linkage_of l) (lines_in l) input n)) (sym same) (c.code_behaves.ensures y others (bound_of l) plans there input n well)
