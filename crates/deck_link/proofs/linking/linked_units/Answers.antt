-- Units without a fault of their own are asked for linking.
use Rattle.std.proofs.Common.{rules, ◌≡◌, Err, sym, ◌∙◌, subst}
use Rattle.std.specs.Prelude.{IfErr}
use Rattle.std.specs.List.{All}
use Rattle.f66_tree.specs.Views.{routine_of}
use Rattle.f66_program.specs.Association.{IsBadUnit}
use Rattle.f66_program.specs.Linking.{IsWhole}
use Rattle.linker.specs.Rules.{program_of}
use Rattle.storage_assoc.specs.Naming.{IsReady}
use Rattle.whole_program.specs.Linked.{IsLinkRefusal}
use Rattle.deck_link.specs.Linking.{IsRefusedProgram}
use Rattle.deck_link.proofs.LinkLemmas.{ready_units, well_units, units_refused, links_refused}
use Rattle.deck_link.proofs.linking.linked_units.Goals as goal

pub returns-in_err-checked-clause-refused : goal.returns-in_err-checked-clause-refused
returns-in_err-checked-clause-refused c =
    let p = program_of c.args.units.items c.args.finish in
    let gone : c.from_residual.result ≡ Err c.in_err-checked.field-0.0 = search rules in
    subst (λ r. IfErr r (IsRefusedProgram p)) (sym gone) (units_refused p c.in_err-checked.field-0.0 c.in_err-checked.ensures.refused)

pub check_links-requires-clause-ready : goal.check_links-requires-clause-ready
check_links-requires-clause-ready c =
    subst (All (λ u. IsReady (routine_of u))) (sym (c.deref.ensures.value ∙ c.in_ok-checked.ensures.same)) (ready_units c.args.units.items c.in_ok-checked.ensures.clean)

pub check_links-requires-clause-well : goal.check_links-requires-clause-well
check_links-requires-clause-well c =
    subst (All (λ u. ¬ IsBadUnit (routine_of u))) (sym (c.deref.ensures.value ∙ c.in_ok-checked.ensures.same)) (well_units c.args.units.items c.in_ok-checked.ensures.clean)

pub returns-in_err-check_links-clause-refused : goal.returns-in_err-check_links-clause-refused
returns-in_err-check_links-clause-refused c =
    let p = program_of c.args.units.items c.args.finish in
    let e = c.in_err-check_links.field-0.0 in
    let same = c.deref.ensures.value ∙ c.in_ok-checked.ensures.same in
    let gone : c.from_residual-in_err-check_links.result ≡ Err e = search rules in
    subst (λ r. IfErr r (IsRefusedProgram p)) (sym gone)
    (links_refused p c.in_ok-checked.ensures.clean e (subst (λ us. IsLinkRefusal (program_of us c.args.finish) e) same c.in_err-check_links.ensures.refused))

pub returns-clause-accepted : goal.returns-clause-accepted
returns-clause-accepted c =
    let same = c.deref.ensures.value ∙ c.in_ok-checked.ensures.same in
    record { units = c.in_ok-checked.ensures.clean; whole = subst (λ us. IsWhole (program_of us c.args.finish)) same c.in_ok-check_links.ensures.whole }
