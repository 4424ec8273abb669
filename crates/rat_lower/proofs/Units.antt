-- The statements of a unit that the checks accept: they are what it becomes, a sound unit, and fit their cards.
use Rattle.std.proofs.Common.{◌≡◌, ℕ, ◌+◌, ◌≤◌, true, List, [], length, None, refl, sym, ap, ◌∙◌, subst}
use Rattle.std.specs.List.{AllByRecursion}
use Rattle.std.proofs.lemmas.Bool.{ltb-false}
use Rattle.ground.specs.declared.place.Place.{Place}
use Rattle.f66_tree.specs.declared.unit.Unit.{Unit as AUnit}
use Rattle.f66_tree.specs.Syntax.{Line, Routine}
use Rattle.f66_tree.specs.Units.{notes_of}
use Rattle.f66_tree.specs.Views.{header_of, lines_of, routine_of}
use Rattle.f66_check.specs.Answers.{IsSoundUnit}
use Rattle.stmt_text.specs.Fitting.{FitsCards, IsPrintable}
use Rattle.rat_tree.specs.Syntax.{RatRoutine}
use Rattle.rat_check.specs.Parts.{no_label, unit_parts}
use Rattle.rat_check.specs.FirstFault.{with_own, unit_fault}
use Rattle.rat_check.specs.Survey.{is_among, own_labels}
use Rattle.rat_check.proofs.CleanLemmas.{Passed, passed}
use Rattle.rat_check.proofs.SurveyLemmas.{own_among}
use Rattle.name_alloc.specs.MadeNames.{Used, next_name}
use Rattle.name_alloc.proofs.KeptNames.{next_apart}
use Rattle.rat_lower.specs.Checked.{IsChecked}
use Rattle.rat_lower.specs.Code.{have_switch, all_labels, ends_itself, unit_code}
use Rattle.rat_lower.specs.Emitted.{labels_past, unit_names, spare_name}
use Rattle.rat_lower.specs.Lowered.{lowered, HasRoom, IsUnitCode}
use Rattle.rat_lower.specs.Served.{Serves}
use Rattle.rat_lower.proofs.Checks.{is_checked, accepted_flow}
use Rattle.rat_lower.proofs.Emitting.Unswitched.{same_unit}
use Rattle.rat_lower.proofs.Simulation.LinkedUnits.{spare_of}
use Rattle.rat_lower.proofs.Simulation.OneLinkage.{Made}
use Rattle.rat_lower.proofs.Soundness.CleanUnits.{unit_is_sound}
use Rattle.rat_lower.proofs.Soundness.PrintedUnits.{unit_fits}

module _ (u : RatRoutine) (taken given : List ℕ) (last : Place) (names : Used) (code : List Line) (none_found : unit_fault u ≡ None) (own : taken ≡ own_labels (unit_parts u.body) []) (same : given ≡ taken)
    (room : HasRoom u) (is_code : IsUnitCode (labels_past given) (next_name names) u last code) (spare : have_switch u.body ≡ true → next_name names ≡ spare_name u) where
  made : code ≡ lowered given u last
  made = is_code.is ∙ same_unit (labels_past given) (next_name names) (spare_name u) u.header u.place last u.body spare

  accepted : Passed u.header (unit_parts u.body)
  accepted = passed u.header u.place (unit_parts u.body) none_found

  all : is_among given ≡ with_own (unit_parts u.body) no_label
  all = ap is_among (same ∙ own) ∙ own_among (unit_parts u.body)

  labels_fit : length given + all_labels u.body ≤ 77000
  labels_fit = subst (λ labels. length labels + all_labels u.body ≤ 77000) (sym (same ∙ own)) room.labels

  code_sound : ends_itself u.header code ≡ true → IsSoundUnit (record { header = u.header; lines = code; place = u.place })
  code_sound finished =
      subst (λ lines. IsSoundUnit (record { header = u.header; lines = lines; place = u.place })) (sym made)
      (unit_is_sound u accepted room.names (labels_past given) last u.place (accepted_flow u accepted room.names given all last labels_fit (sym (ap (ends_itself u.header) made) ∙ finished)))

  code_printable : IsPrintable (record { header = u.header; lines = code; place = u.place })
  code_printable = record { header = ltb-false 1320 _ accepted.short; lines = subst (AllByRecursion FitsCards) (sym made) (unit_fits u accepted (labels_past given) last) }

  pub code_serves : (unit : AUnit) → routine_of unit ≡ record { header = u.header; lines = code; place = u.place } → ends_itself u.header code ≡ true → Serves u last unit
  code_serves unit is finished = record {
    header = ap (λ (r : Routine). r.header) is;
    place = ap (λ (r : Routine). r.place) is;
    made = labels_past given;
    spare = spare_name u;
    unnamed = next_apart (unit_names u) room.names;
    code = record { is = ap (λ (r : Routine). r.lines) is ∙ made };
    checked = is_checked u accepted room.names given all;
    sound = subst IsSoundUnit (sym is) (code_sound finished);
    printable = subst IsPrintable (sym is) code_printable;
  }

-- ---- linked programs ----

-- a unit that serves is made of its source, as a linked program asks of each of its units
pub served_made : (u : RatRoutine) (finish : Place) (unit : AUnit) (serves : Serves u finish unit) →
    Made (record { header = header_of unit.header; notes = notes_of (lines_of unit.statements.items) }) (spare_of (have_switch u.body) serves.spare) u.body (lines_of unit.statements.items)
served_made u finish unit serves = record {
  made = serves.made;
  name = serves.spare;
  first = u.place;
  last = finish;
  checked = subst (λ k. IsChecked serves.made serves.spare k u.body) (sym serves.header) serves.checked;
  is_code = serves.code.is ∙ ap (λ k. unit_code serves.made serves.spare k u.place finish u.body) (sym serves.header);
  is_spare = refl;
  notes = refl;
}
