-- There is one list of areas for each procedure, and the first fault is that along them.
use Rattle.std.proofs.Common.{map, length, sym, ap, ◌∙◌}
use Rattle.std.proofs.lemmas.List.{length-map}
use Rattle.std.proofs.lemmas.Result.{IfOk-weaker}
use Rattle.efl_tree.specs.Views.{procedure_of}
use Rattle.efl_scope.specs.AreaViews.{first_along}
use Rattle.efl_scope.proofs.ProgramLemmas.{agreements-length, program-first}
use Rattle.efl_scope.proofs.program.program_fault.Goals as goal

pub first_fault_along-requires : goal.first_fault_along-requires
first_fault_along-requires c =
    let items = c.args.program.now.procedures.items in
    let all = map procedure_of items in
    agreements-length c.args.firsts.now all c.args.lists.now all c.requires ∙ length-map items procedure_of ∙ sym (ap length c.deref.ensures.value)

pub returns : goal.returns
returns c =
    let all = map procedure_of c.args.program.now.procedures.items in
    IfOk-weaker c.first_fault_along.result _ _
    (λ fault e. e ∙ ap (λ ps. first_along c.args.firsts.now c.args.lists.now (map procedure_of ps)) c.deref.ensures.value ∙ program-first c.args.firsts.now all c.args.lists.now c.requires)
    c.first_fault_along.ensures
