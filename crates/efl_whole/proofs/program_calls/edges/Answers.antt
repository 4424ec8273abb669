-- The calls that the procedures give are those of the program.
use Rattle.std.proofs.Common.{map, ap, ◌∙◌}
use Rattle.efl_tree.specs.Syntax.{Text}
use Rattle.efl_tree.specs.Views.{procedure_of, program_of}
use Rattle.efl_types.specs.Whole.{number_of}
use Rattle.efl_whole.specs.Calls.{no_calls, procedures_calls}
use Rattle.efl_whole.specs.CallViews.{calls_of, numbers_of}
use Rattle.efl_whole.proofs.WholeLemmas.{edges_are}
use Rattle.efl_whole.proofs.program_calls.edges.Goals as goal

pub returns : goal.returns
returns c =
    let numbers = numbers_of c.in_ok-numbers.numbers in
    let are = λ (x : Text). c.in_ok-numbers.ensures x ∙ ap (λ us. number_of (map procedure_of us) x) c.deref.ensures.value in
    let known = c.in_ok-calls.ensures ∙ ap (λ us. procedures_calls numbers 0 (map procedure_of us) no_calls) c.deref-2.ensures.value in
    edges_are (program_of c.args.program.now) numbers are (calls_of c.in_ok-calls.calls) known
