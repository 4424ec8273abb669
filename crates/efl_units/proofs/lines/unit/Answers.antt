-- The header and the lines are those of the unit.
use Rattle.std.proofs.Common.{◌≡◌, ◌∙◌, refl, ap, subst}
use Rattle.std.proofs.lemmas.Option.{slice_get_within}
use Rattle.f66_tree.specs.declared.unit.Unit.{Unit}
use Rattle.f66_tree.specs.Views.{routine_of}
use Rattle.efl_tree.specs.Views.{procedure_of}
use Rattle.efl_scope.specs.Marks.{program_variables}
use Rattle.efl_lowered.specs.Needs.{all_need}
use Rattle.efl_lowered.specs.Lowering.{unit_of}
use Rattle.efl_units.specs.NamesSeen.{naming_in}
use Rattle.efl_units.proofs.UnitLemmas.{unit_made}
use Rattle.efl_units.proofs.lines.unit.Goals as goal

pub returns : goal.returns
returns c = λ p are typed is body own.
    let n = c.args.number in
    let u = procedure_of c.args.procedure.now in
    let room = c.in_ok-room.ensures ∙ ap (λ ss. all_need ss 0) body in
    let header = c.in_ok-header.ensures (program_variables p) are in
    let lines = c.in_ok-statements.ensures p typed (slice_get_within p.procedures n u is) body own in
    let r : Unit = record { header = c.in_ok-header.header; statements = c.in_ok-statements.statements; place = c.args.procedure.now.place } in
    subst (λ k. routine_of r ≡ unit_of (naming_in c.args.naming.now k) p n u) room (unit_made (naming_in c.args.naming.now c.in_ok-room.room) p n u r header lines refl)
