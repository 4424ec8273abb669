-- The units are ready, and good, so they link, or the fault is that of linking.
use Rattle.std.proofs.Common.{◌≡◌, map, sym, subst, ap, ◌∙◌}
use Rattle.std.specs.List.{All}
use Rattle.f66_tree.specs.Views.{routine_of}
use Rattle.f66_program.specs.Association.{IsBadUnit}
use Rattle.rat_tree.specs.Views.{rat_routine_of}
use Rattle.storage_assoc.specs.Naming.{IsReady}
use Rattle.rat_said.specs.Said.{said_routine}
use Rattle.rat_link.proofs.CheckLemmas.{ready_units, well_units}
use Rattle.rat_link.proofs.checking.link_units.Goals as goal

pub link_said-requires-clause-ready : goal.link_said-requires-clause-ready
link_said-requires-clause-ready c =
    let said : map routine_of c.in_ok-said.said.items ≡ map said_routine (map rat_routine_of c.args.program.now.units.items) = c.in_ok-said.ensures ∙ ap (λ us. map said_routine (map rat_routine_of us)) c.deref.ensures.value in
    subst (All (λ s. IsReady (routine_of s))) (sym c.deref-2.ensures.value) (ready_units c.in_ok-said.said.items (map rat_routine_of c.args.program.now.units.items) said c.requires.clean)

pub link_said-requires-clause-well : goal.link_said-requires-clause-well
link_said-requires-clause-well c =
    let said : map routine_of c.in_ok-said.said.items ≡ map said_routine (map rat_routine_of c.args.program.now.units.items) = c.in_ok-said.ensures ∙ ap (λ us. map said_routine (map rat_routine_of us)) c.deref.ensures.value in
    subst (All (λ s. ¬ IsBadUnit (routine_of s))) (sym c.deref-2.ensures.value) (well_units c.in_ok-said.said.items (map rat_routine_of c.args.program.now.units.items) said c.requires.clean)
