-- A program of sound units whose calls are complete has what the runs of its units rest on, and so never goes wrong.
use Rattle.std.proofs.Common.{◌≡◌, ◌≢◌, ℕ, suc, true, true≢false, List, [], length, Some, refl, ap, sym, subst}
use Rattle.std.specs.Prelude.{⊤}
use Rattle.std.specs.List.{All, slice_get}
use Rattle.std.proofs.lemmas.Option.{slice_get_within, get_or_from_slice_get}
use Rattle.f66_tree.specs.Syntax.{Header, MainUnit, SubUnit, FuncUnit, DataUnit, Line, Routine}
use Rattle.f66_tree.specs.World.{Wrong, Ended, Out, Gives, Halts, shown}
use Rattle.f66_tree.specs.Units.{is_main, dummies_of, Linkage}
use Rattle.f66_tree.specs.Execution.{nowhere, first_state, no_loops}
use Rattle.f66_soundness.specs.Rightly.{IsRightEnd, NeverWrong}
use Rattle.ground.specs.declared.fault.FaultKind.TheVariants.{MissingUnit, WrongCount}
use Rattle.f66_check.specs.CheckRules as check
use Rattle.f66_check.specs.Answers.{IsSoundUnit}
use Rattle.f66_program.specs.Mentions as program
use Rattle.f66_program.specs.Linking.{Program}
use Rattle.linked_soundness.specs.Laws.{IsComplete, AreCodes, IsCallLinkage, NeverEndsWrong, CompleteNeverWrong, LinkedNeverWrong}
use Rattle.linked_soundness.proofs.PlaceLemmas.{IsJudged}
use Rattle.linked_soundness.proofs.ActLemmas.{FitLines}
use Rattle.linked_soundness.proofs.RunLemmas.{IsLinked, FitUnit, exec_rightly}
use Rattle.linked_soundness.proofs.RuleLemmas.{FitRoutine, judged, unit_fit, sound_fit}
use Rattle.linked_soundness.proofs.CallLemmas.{calls_linked}

main_only : (h : Header) → is_main h ≡ true → h ≡ MainUnit
main_only MainUnit e = refl
main_only (SubUnit x ds) e = absurd (true≢false (sym e))
main_only (FuncUnit t x ds) e = absurd (true≢false (sym e))
main_only DataUnit e = absurd (true≢false (sym e))

end_right : (o : Out ⊤) → NeverWrong o → (shown o).end ≢ Ended Wrong
end_right (Gives a w) h e = cc
end_right (Halts d w) h e = subst IsRightEnd e h

module _ (p : Program) (fit : (u : ℕ) (r : Routine) → slice_get p.units u ≡ Some r → FitRoutine r) (complete : IsComplete p) (l : Linkage) (linked : IsCallLinkage p.units l) (codes : ℕ → List Line) (are : AreCodes p.units codes) where
  fit_at : (u : ℕ) (r : Routine) → slice_get p.units u ≡ Some r → FitUnit p.units l codes u r
  fit_at u r here =
      let told = sym (linked.contexts u r here) in
      let lines = unit_fit r (fit u r here) (IsLinked p.units l) (λ i s stands. calls_linked p complete u r here i s stands l linked.finds) in
      record {
        context = check.context_of r;
        judged = subst (IsJudged (check.context_of r)) told (judged r (fit u r here));
        dummies = ap (λ d. length (dummies_of d.header)) (sym told);
        lines = subst (λ d. FitLines (IsLinked p.units l) (check.context_of r) d (codes u)) told
            (subst (FitLines (IsLinked p.units l) (check.context_of r) (program.context_of r)) (sym (are u r here)) lines);
      }

  pub fit_never_wrong : NeverEndsWrong l codes
  fit_never_wrong input n =
      let main = linked.main in
      end_right _
      (exec_rightly p.units l codes fit_at (suc n) (record { unit = l.main; actuals = []; place = nowhere })
      (record { unit = main.0; here = main.1; actuals = ap (λ h. length (dummies_of h)) (main_only main.0.header main.2) })
      (codes l.main) (fit_at l.main main.0 main.1).lines no_loops (record { state = first_state l input; left = n; count = 0 }))

sound_at : (p : Program) → All IsSoundUnit p.units → (u : ℕ) (r : Routine) → slice_get p.units u ≡ Some r → FitRoutine r
sound_at p sound u r here = sound_fit r (subst IsSoundUnit (get_or_from_slice_get p.units u r r here) (sound u r (slice_get_within p.units u r here)))

pub complete_never_wrong : CompleteNeverWrong
complete_never_wrong p sound complete l linked codes are = fit_never_wrong p (sound_at p sound) complete l linked codes are

pub linked_never_wrong : LinkedNeverWrong
linked_never_wrong p sound whole l linked codes are =
    complete_never_wrong p sound (record { there = whole.clean MissingUnit; counted = whole.clean WrongCount }) l (record { contexts = linked.contexts; finds = linked.finds; main = linked.main }) codes are
