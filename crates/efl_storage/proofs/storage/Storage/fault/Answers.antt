-- The limit is passed where it is by the definition.
use Rattle.std.proofs.Common.{map, sym, ap, ◌∙◌}
use Rattle.efl_tree.specs.Views.{procedure_of}
use Rattle.efl_scope.specs.Marks.{program_variables}
use Rattle.efl_storage.specs.Counted.{passed_by}
use Rattle.efl_storage.proofs.LimitLemmas.{passed_all}
use Rattle.efl_storage.proofs.storage.Storage.fault.Goals as goal

pub returns : goal.returns
returns c = λ p same counted.
    let sums = c.args.self.now.places.items in
    c.passed.ensures ∙ ap (λ ps. passed_by ps 0 0 (map procedure_of c.args.procedures.now)) c.deref.ensures.value ∙ sym (ap (λ us. passed_by sums 0 0 us) same)
    ∙ sym (passed_all p.procedures (program_variables p) sums counted.places)
