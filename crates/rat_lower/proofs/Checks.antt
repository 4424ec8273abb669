-- A unit without a fault is checked: its labels and its spare name are as its meaning wants them, and the unit that it becomes breaks
-- no rule on order, labels and DO ranges.
use Rattle.std.proofs.Common.{◌≡◌, ◌≢◌, ℕ, ◌+◌, ◌≤◌, ◌<◌, Bool, true, false, List, [], ◌∷◌, length, refl, sym, subst, arith, ◌∙◌}
use Rattle.std.specs.Prelude.{⊤}
use Rattle.std.specs.List.{list_any}
use Rattle.std.specs.Str.{bytes_eq}
use Rattle.std.proofs.lemmas.Bool.{or_parts}
use Rattle.std.proofs.lemmas.List.Folds.{list_any-append}
use Rattle.ground.specs.declared.place.Place.{Place}
use Rattle.f66_tree.specs.Syntax.{Header, Text, Act, Return}
use Rattle.f66_tree.specs.Units.{is_main, name_of}
use Rattle.f66_tree.specs.Uses.{NamesOfAct}
use Rattle.rat_tree.specs.Syntax.{Commands, RatRoutine}
use Rattle.name_alloc.proofs.Free.{made-free, made-low, made-rises}
use Rattle.name_alloc.proofs.KeptNames.{next_apart}
use Rattle.rat_check.specs.Parts.{no_label, Part, with_labels, unit_parts}
use Rattle.rat_check.specs.Said.{said_in}
use Rattle.rat_check.specs.Rules.{Before, behind, nothing_before, UnitRules}
use Rattle.rat_check.specs.FirstFault.{with_own, unit_whole}
use Rattle.rat_check.specs.Survey.{is_among}
use Rattle.rat_check.proofs.CleanLemmas.{AllKeep, Passed}
use Rattle.rat_lower.specs.Notes.{notes_of_unit}
use Rattle.rat_lower.specs.Code.{have_switch, all_labels, all_code, ends_itself, end_unless}
use Rattle.rat_lower.specs.Checked.{NamesOfNote, Lacks, all_given, IsChecked}
use Rattle.rat_lower.specs.Emitted.{labels_past, names_of, header_names, unit_names, spare_name}
use Rattle.rat_lower.specs.Lowered.{lowered}
use Rattle.rat_lower.proofs.Accepted.NoFault.{AllParts, AllFine, all_fine, AllOf, of_weaker, said_so}
use Rattle.rat_lower.proofs.Accepted.Reached.{Sees, sees_list}
use Rattle.rat_lower.proofs.Accepted.Clear.{AllClear, all_clear}
use Rattle.rat_lower.proofs.Emitting.MadeLabels.{labels_low}
use Rattle.rat_lower.proofs.Accepted.PartLabels.{given_once, given_range, not_given}
use Rattle.rat_lower.proofs.Accepted.PartNotes.{names_of_notes, has_format}
use Rattle.rat_lower.proofs.Accepted.ActNames.{AllNamed, Lacking, lacking_parts, all_lacking, other_names, other_note_names}
use Rattle.rat_lower.proofs.Soundness.Kept.{AllSayGood}
use Rattle.rat_lower.proofs.Soundness.Says.{MayReturn, any_return, both_good, all_good, all_named}
use Rattle.rat_lower.proofs.Soundness.FormatsNamed.{IsFormatted, parts_formatted}
use Rattle.rat_lower.proofs.Soundness.Early.{Early, early_parts, early_unit}
use Rattle.rat_lower.proofs.Soundness.SpareNames.{IsApart, apart}
use Rattle.rat_lower.proofs.Soundness.BlockData.{IsPlacedPart, unit_placed}
use Rattle.rat_lower.proofs.Soundness.FlowRules.{KeepsFlow}
use Rattle.rat_lower.proofs.Soundness.FlowUnits.{unit_flow}

sees_none : (m : ℕ) → no_label m ≡ true → false ≡ true
sees_none m e = e

all_placed : (u : UnitRules) (b : Before) (vs : List Part) → AllKeep u b vs → AllParts (IsPlacedPart u.context.header) vs
all_placed u b [] h = tt
all_placed u b (v ∷ vs) h = (h.0.placed, all_placed u (behind u.context.header b v) vs h.1)

module _ (h : Header) (ss : Commands) (accepted : Passed h (unit_parts ss)) where
  abbrev vs : List Part
  vs = unit_parts ss

  abbrev u : UnitRules
  u = unit_whole h vs

  abbrev said : List Act
  said = said_in h vs

  pub fine : AllFine u vs
  fine = all_fine u nothing_before vs accepted.keep

  -- what holds of all that the parts say holds of all that the commands say
  pub says_with : (Good : Act → Type 0) → AllParts (MayReturn Good u) vs → AllOf Good said → AllSayGood Good (name_of h) ss
  says_with Good returns k = all_good Good u ss 0 (with_labels ss no_label) (both_good Good u vs fine (said_so h Good vs k) returns)

  pub says : (Good : Act → Type 0) → Good Return → AllOf Good said → AllSayGood Good (name_of h) ss
  says Good returns k = says_with Good (any_return Good u returns vs) k

  sees : Sees (with_labels ss no_label) (ss ∷ [])
  sees = sees_list ss no_label [] sees_none

  pub clear : AllClear u 0 (ss ∷ []) ss
  clear = all_clear u ss 0 (with_labels ss no_label) (ss ∷ []) sees fine

  pub formatted : AllSayGood (IsFormatted (notes_of_unit ss)) (name_of h) ss
  formatted =
      all_good (IsFormatted (notes_of_unit ss)) u ss 0 (with_labels ss no_label)
      (both_good (IsFormatted (notes_of_unit ss)) u vs fine (parts_formatted u (notes_of_unit ss) (has_format u ss fine) vs fine) (any_return (IsFormatted (notes_of_unit ss)) u refl vs))

-- ---- the unit ----

module _ (unit : RatRoutine) (accepted : Passed unit.header (unit_parts unit.body)) (few : length (unit_names unit) < 99999) where
  abbrev k : Header
  k = unit.header

  abbrev ss : Commands
  ss = unit.body

  abbrev all_said : List Act
  all_said = said_in k (unit_parts ss)

  abbrev spare : Text
  spare = spare_name unit

  -- it has six characters
  nameless : [] ≢ spare
  nameless e = subst IsEmpty e tt
    where
      IsEmpty : Text → Type 0
      IsEmpty [] = ⊤
      IsEmpty (c ∷ cs) = ⊥

  none_there : (list_any (bytes_eq spare) (header_names k) ≡ false) × (list_any (bytes_eq spare) (names_of k ss) ≡ false)
  none_there = or_parts _ _ (sym (list_any-append (bytes_eq spare) (header_names k) (names_of k ss)) ∙ next_apart (unit_names unit) few)

  pub header_apart : IsApart spare k
  header_apart = apart spare k nameless none_there.0

  lacking : AllOf (Lacking spare) all_said
  lacking = all_lacking spare all_said none_there.1

  -- what the source says names the spare name nowhere
  pub named : AllOf (AllNamed (λ x. x ≢ spare)) all_said
  named = of_weaker (AllNamed (λ x. x ≢ spare)) (Lacking spare) all_said (lacking_parts spare) lacking

  lacks : Lacks spare k ss
  lacks = record {
    own = header_apart.own;
    dummies = header_apart.dummies;
    statements = all_named (λ x. x ≢ spare) (name_of k) ss (says k ss accepted (NamesOfAct (λ x. x ≢ spare)) tt (of_weaker (NamesOfAct (λ x. x ≢ spare)) (Lacking spare) all_said (other_names spare) lacking));
    dimensions =
        names_of_notes k (λ x. x ≢ spare) (unit_whole k (unit_parts ss)) ss (fine k ss accepted)
        (said_so k (NamesOfNote (λ x. x ≢ spare)) (unit_parts ss) (of_weaker (NamesOfNote (λ x. x ≢ spare)) (Lacking spare) all_said (other_note_names spare) lacking));
  }

  module _ (taken : List ℕ) (all : is_among taken ≡ with_own (unit_parts ss) no_label) where
    pub is_checked : IsChecked (labels_past taken) spare k ss
    is_checked =
        let clear_so = clear k ss accepted in
        record {
          built = clear_so.built;
          fits = clear_so.fits;
          lands = clear_so.lands;
          once = given_once (unit_whole k (unit_parts ss)) ss accepted.unbroken;
          rises = λ i j lt. made-rises 23000 taken i j lt;
          unused = λ i. not_given taken ss all (labels_past taken i) (made-free 23000 taken i);
          spared = λ there. lacks;
        }

    -- the unit breaks no rule on order, labels and DO ranges
    pub accepted_flow : (last : Place) → length taken + all_labels ss ≤ 77000 → ends_itself k (lowered taken unit last) ≡ true → KeepsFlow k (lowered taken unit last)
    accepted_flow last room finished =
        let rules = unit_whole k (unit_parts ss) in
        let parts_fine = fine k ss accepted in
        let made_range : (i : ℕ) → i < all_labels ss → (1 ≤ labels_past taken i) × (labels_past taken i ≤ 99999) = λ i lt. (labels_low taken i, omega (arith, made-low 23000 taken i, room, lt)) in
        let ranged : (l : ℕ) → 1 ≤ all_given l ss → (1 ≤ l) × (l ≤ 99999) = given_range rules ss accepted.unbroken in
        let early : (v : Bool) → Early false (all_code (labels_past taken) spare (name_of k) ss 0 [] (end_unless (is_main k) v last)) =
        λ v. early_unit rules (labels_past taken) spare ss (is_main k) v last (with_labels ss no_label) parts_fine (early_parts rules nothing_before (unit_parts ss) accepted.keep) in
        unit_flow k (labels_past taken) spare unit.place last ss is_checked ranged made_range early (formatted k ss accepted)
        (unit_placed (labels_past taken) spare unit.place last ss (have_switch ss) (with_labels ss no_label) k (all_placed rules nothing_before (unit_parts ss) accepted.keep)) finished
