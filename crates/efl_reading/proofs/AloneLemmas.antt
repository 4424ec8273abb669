-- Parts without initial values that come at once: their first fault is the first where none stands before them.
use Rattle.std.proofs.Common.{◌≡◌, true, false, List, [], ◌∷◌, ◌++◌, Option, Some, None, is_some, refl, sym, ap, subst, append_assoc}
use Rattle.std.specs.Option.{option_or}
use Rattle.std.proofs.lemmas.List.{append-nil}
use Rattle.ground.specs.declared.fault.Fault.{Fault}
use Rattle.efl_tree.specs.Syntax.{EflProcedure}
use Rattle.efl_scope.specs.Parts.{Part}
use Rattle.efl_types.specs.TypeRules.{part_faults}
use Rattle.efl_expressions.specs.FirstRule.{first_rule}
use Rattle.efl_reading.specs.declared.progress.Progress.{Progress}
use Rattle.efl_reading.specs.Reading.{Behind}
use Rattle.efl_reading.specs.Alone.{fault_alone, first_alone, GiveNone}
use Rattle.efl_reading.proofs.ReadingLemmas.{behind_done, part_noted}

-- where no fault is there
all_noted : (us : List EflProcedure) (vs ws : List Part) (p : Progress) → p.fault ≡ None → Behind us vs p → GiveNone ws → Behind us (vs ++ ws) (record p { fault = first_alone us ws })
all_noted us vs [] p none known quiet = subst (λ xs. Behind us xs (record p { fault = None })) (sym (append-nil vs)) (subst (λ o. Behind us vs (record p { fault = o })) none known)
all_noted us vs (w ∷ ws) p none known quiet =
    subst (λ xs. Behind us xs (record p { fault = first_alone us (w ∷ ws) })) (append_assoc vs (w ∷ []) ws)
    (each (fault_alone us w) refl (λ q clean before. all_noted us (vs ++ w ∷ []) ws q clean before quiet.1))
  where
    one : Behind us (vs ++ w ∷ []) (record p { fault = fault_alone us w })
    one = part_noted us vs w w.place (first_rule (part_faults us w)) p (record p { fault = fault_alone us w }) (ap is_some none) refl refl refl refl known refl quiet.0 refl

    each : (o : Option Fault) → fault_alone us w ≡ o →
        ((q : Progress) → q.fault ≡ None → Behind us (vs ++ w ∷ []) q → Behind us ((vs ++ w ∷ []) ++ ws) (record q { fault = first_alone us ws })) →
        Behind us ((vs ++ w ∷ []) ++ ws) (record p { fault = option_or o (first_alone us ws) })
    each None is rest = rest (record p { fault = None }) refl (subst (λ o. Behind us (vs ++ w ∷ []) (record p { fault = o })) is one)
    each (Some f) is rest = behind_done us (vs ++ w ∷ []) ws (record p { fault = Some f }) refl (subst (λ o. Behind us (vs ++ w ∷ []) (record p { fault = o })) is one)

pub parts_noted : (us : List EflProcedure) (vs ws : List Part) (p : Progress) (o : Option Fault) → is_some p.fault ≡ false → Behind us vs p → GiveNone ws → o ≡ first_alone us ws →
    Behind us (vs ++ ws) (record p { fault = o })
parts_noted us vs ws p o none known quiet is = subst (λ f. Behind us (vs ++ ws) (record p { fault = f })) (sym is) (all_noted us vs ws p (clear p.fault none) known quiet)
  where
    clear : (f : Option Fault) → is_some f ≡ false → f ≡ None
    clear None e = refl
    clear (Some f) e = absurd (let d : true ≡ false = e in cc)
