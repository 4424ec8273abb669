-- The units of a program over scalars associate no places, so the association of none of them is bad.
use Rattle.std.proofs.Common.{get_or, sym, ap, ◌∙◌}
use Rattle.std.specs.Prelude.{is_some}
use Rattle.std.specs.List.{All}
use Rattle.std.proofs.lemmas.Option.{slice_get-get_or}
use Rattle.f66_tree.specs.Syntax.{Routine}
use Rattle.f66_program.specs.Association.{IsBadUnit, unit_ties}
use Rattle.f66_program.proofs.Untied.{untied_good}
use Rattle.efl_tree.specs.Syntax.{EflProgram}
use Rattle.efl_lowered.specs.Naming.{Naming}
use Rattle.efl_lowered.specs.Lowering.{units_of}
use Rattle.efl_lowered.specs.Facts.{AreReady}
use Rattle.efl_lowered.proofs.UnitLemmas.{at_unit, no_unit_ties, unit_plain}

pub well : (p : EflProgram) (names : Naming) → AreReady p names → All (λ r. ¬ IsBadUnit r) (units_of names p)
well p names ready n d lt =
    let r : Routine = get_or (units_of names p) n d in
    let w = at_unit p names n r (slice_get-get_or (units_of names p) n d lt) in
    untied_good r (ap (unit_ties 0) (sym w.2) ∙ no_unit_ties p names n w.0 (unit_plain p names ready n (ap is_some w.1)) 0)
