-- What the units say in brief is ready, and good, and where it links the program is accepted.
use Rattle.std.proofs.Common.{map, sym, subst}
use Rattle.std.specs.List.{All}
use Rattle.f66_tree.specs.Views.{routine_of}
use Rattle.f66_program.specs.Association.{IsBadUnit}
use Rattle.rat_tree.specs.Views.{program_of, rat_routine_of}
use Rattle.storage_assoc.specs.Naming.{IsReady}
use Rattle.rat_said.specs.Said.{said_routine}
use Rattle.rat_link.specs.Briefs.{AreBriefs}
use Rattle.rat_link.specs.Linking.{AreClean}
use Rattle.rat_link.proofs.BriefLemmas.{briefly_accepted, ready_briefs, well_briefs}
use Rattle.rat_link.proofs.checking.check_program.Goals as goal

pub linked_storage-requires-clause-ready : goal.linked_storage-requires-clause-ready
linked_storage-requires-clause-ready c =
    subst (All (λ s. IsReady (routine_of s))) (sym c.deref-2.ensures.value) (ready_briefs _ c.in-Ok.briefs.items c.in-Ok.ensures.briefs c.in-Ok.ensures.clean)

pub linked_storage-requires-clause-well : goal.linked_storage-requires-clause-well
linked_storage-requires-clause-well c =
    subst (All (λ s. ¬ IsBadUnit (routine_of s))) (sym c.deref-2.ensures.value) (well_briefs _ c.in-Ok.briefs.items c.in-Ok.ensures.briefs c.in-Ok.ensures.clean)

pub returns-in-Ok-linked_storage-clause-accepted : goal.returns-in-Ok-linked_storage-clause-accepted
returns-in-Ok-linked_storage-clause-accepted c =
    let units = c.deref.result.now in
    let briefs = c.deref-2.result.now in
    let are : AreBriefs (map said_routine (map rat_routine_of units)) (map routine_of briefs) =
    subst (λ bs. AreBriefs (map said_routine (map rat_routine_of units)) (map routine_of bs)) (sym c.deref-2.ensures.value) c.in-Ok.ensures.briefs in
    briefly_accepted (program_of c.args.program.now) (map routine_of briefs) c.in-Ok-linked_storage.total
    (subst (λ us. AreBriefs (map said_routine (map rat_routine_of us)) (map routine_of briefs)) c.deref.ensures.value are)
    (subst (λ us. AreClean (map rat_routine_of us)) c.deref.ensures.value c.in-Ok.ensures.clean)
    c.in-Ok-linked_storage.ensures.units c.if-total-le-MOST.true c.in-Ok-linked_storage.ensures.whole
