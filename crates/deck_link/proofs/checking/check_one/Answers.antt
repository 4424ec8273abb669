-- A unit that breaks no rule is ready for its association.
use Rattle.std.proofs.Common.{rules, ◌≡◌, Err, sym, ◌∙◌, subst}
use Rattle.std.specs.Prelude.{IfErr}
use Rattle.f66_tree.specs.Views.{routine_of}
use Rattle.storage_assoc.specs.Associating.{IsRightRefusal}
use Rattle.storage_assoc.specs.Naming.{IsReady}
use Rattle.sound_units.proofs.ReadyLemmas.{sound_is_ready}
use Rattle.associated_units.specs.Fit.{IsFit}
use Rattle.associated_units.proofs.FitLemmas.{fit}
use Rattle.deck_link.specs.Units.{IsRefusedUnit}
use Rattle.deck_link.proofs.CheckLemmas.{rules_refused, storage_refused}
use Rattle.deck_link.proofs.checking.check_one.Goals as goal

pub returns-in_err-sound-clause-refused : goal.returns-in_err-sound-clause-refused
returns-in_err-sound-clause-refused c =
    let gone : c.from_residual.result ≡ Err c.in_err-sound.field-0.0 = search rules in
    subst (λ r. IfErr r (IsRefusedUnit (routine_of c.args.unit))) (sym gone) (rules_refused (routine_of c.args.unit) c.in_err-sound.field-0.0 c.in_err-sound.ensures.refused)

pub associate-requires : goal.associate-requires
associate-requires c = record { ready = subst (λ u. IsReady (routine_of u)) (sym (c.unit.ensures.unit ∙ c.in_ok-sound.ensures.accepted)) (sound_is_ready (routine_of c.args.unit) c.in_ok-sound.ensures.sound) }

pub returns-in-Err-clause-refused : goal.returns-in-Err-clause-refused
returns-in-Err-clause-refused c =
    let same = c.unit.ensures.unit ∙ c.in_ok-sound.ensures.accepted in
    storage_refused (routine_of c.args.unit) c.in_ok-sound.ensures.sound c.in-Err.refusal (subst (λ u. IsRightRefusal (routine_of u) c.in-Err.refusal) same c.in-Err.ensures.refused)

pub returns-clause-clean : goal.returns-clause-clean
returns-clause-clean c =
    let same = c.unit.ensures.unit ∙ c.in_ok-sound.ensures.accepted in
    record { sound = c.in_ok-sound.ensures.sound; fit = subst (λ u. IsFit (routine_of u)) same (fit (routine_of c.unit.result.now) _ _ c.in_default.ensures.associated) }
