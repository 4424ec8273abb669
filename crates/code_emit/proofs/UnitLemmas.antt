-- Units one behind the other.
use Rattle.std.proofs.Common.{◌≡◌, ◌++◌, ℕ, ◌+◌, ◌<◌, ◌≤◌, List, [], ◌∷◌, length, map, All, refl, ap, sym, subst, ◌∙◌, append_assoc, drop, get_or}
use Rattle.std.proofs.lemmas.List.{append-nil, drop_all}
use Rattle.std.proofs.lemmas.List.Elements.{All-head, All-tail}
use Rattle.stack_code.specs.declared.op.Op.{Op}
use Rattle.stack_code.specs.Instructions.{Instruction}
use Rattle.stack_code.specs.Views.{code_of}
use Rattle.code_gen.specs.Layout.{Layout}
use Rattle.code_gen.specs.Statements.{unit_code, unit_size, units_code}
use Rattle.code_gen.specs.Behaves.{AreEntered}
use Rattle.code_emit.specs.Plans.{ArePlanned, formats_count, plan_in}
use Rattle.code_emit.specs.Units.{all_code, AllEntered, AllPlanned}
use Rattle.code_emit.proofs.ListLemmas.{drop_at, ended}
use Rattle.code_emit.proofs.OpeningLemmas.{unit_length}

module _ {A : Type 0} (layout : A → Layout) (number : A → ℕ) (all : List A) (i : ℕ) (v : A) (within : i < length all) (here : v ≡ get_or all i v) where
  pub entered_here : (at : ℕ) → AllEntered layout number at (drop i all) → ((layout v).entry (number v) ≡ at) × AllEntered layout number (at + unit_size (layout v) (number v)) (drop (i + 1) all)
  entered_here at entered = subst (AllEntered layout number at) (drop_at all i v within here) entered

  pub entered_next : (old new : List Op) → code_of new ≡ code_of old ++ unit_code (layout v) (number v) → AllEntered layout number (length old) (drop i all) → AllEntered layout number (length new) (drop (i + 1) all)
  entered_next old new put entered =
      let size = ended old new (unit_code (layout v) (number v)) (unit_size (layout v) (number v)) put (unit_length (layout v) (number v)) in
      subst (λ at. AllEntered layout number at (drop (i + 1) all)) (sym size) (entered_here (length old) entered).1

  pub planned_here : (n : ℕ) → AllPlanned layout number n (drop i all) → ((l : ℕ) → (layout v).plan (number v) l ≡ plan_in n ((layout v).lines (number v)) l) × AllPlanned layout number (n + formats_count ((layout v).lines (number v))) (drop (i + 1) all)
  planned_here n planned = subst (AllPlanned layout number n) (drop_at all i v within here) planned

  pub planned_next : (n next : ℕ) → next ≡ n + formats_count ((layout v).lines (number v)) → AllPlanned layout number n (drop i all) → AllPlanned layout number next (drop (i + 1) all)
  planned_next n next counted planned = subst (λ m. AllPlanned layout number m (drop (i + 1) all)) (sym counted) (planned_here n planned).1

  pub code_next : (old new : List Op) (whole : List Instruction) → code_of new ≡ code_of old ++ unit_code (layout v) (number v) → code_of old ++ all_code layout number (drop i all) ≡ whole → code_of new ++ all_code layout number (drop (i + 1) all) ≡ whole
  code_next old new whole put before =
      ap (λ z. z ++ all_code layout number (drop (i + 1) all)) put
      ∙ append_assoc (code_of old) (unit_code (layout v) (number v)) (all_code layout number (drop (i + 1) all))
      ∙ ap (λ vs. code_of old ++ all_code layout number vs) (sym (drop_at all i v within here))
      ∙ before

module _ {A : Type 0} (layout : A → Layout) (number : A → ℕ) where
  pub code_end : (all : List A) (i : ℕ) (code whole : List Instruction) → length all ≤ i → code ++ all_code layout number (drop i all) ≡ whole → code ≡ whole
  code_end all i code whole past before = sym (append-nil code) ∙ ap (λ vs. code ++ all_code layout number vs) (sym (drop_all i all past)) ∙ before

  -- in one layout
  pub one_layout : (y : Layout) (vs : List A) → All (λ v. layout v ≡ y) vs → all_code layout number vs ≡ units_code y (map number vs)
  one_layout y [] same = refl
  one_layout y (v ∷ vs) same =
      ap (λ z. unit_code z (number v) ++ all_code layout number vs) (All-head (λ w. layout w ≡ y) v vs same)
      ∙ ap (λ code. unit_code y (number v) ++ code) (one_layout y vs (All-tail (λ w. layout w ≡ y) v vs same))

  pub entered_in : (y : Layout) (at : ℕ) (vs : List A) → All (λ v. layout v ≡ y) vs → AreEntered y at (map number vs) → AllEntered layout number at vs
  entered_in y at [] same entered = tt
  entered_in y at (v ∷ vs) same entered =
      let here : layout v ≡ y = All-head (λ w. layout w ≡ y) v vs same in (
        ap (λ z. z.entry (number v)) here ∙ entered.0,
        subst (λ z. AllEntered layout number (at + unit_size z (number v)) vs) (sym here) (entered_in y (at + unit_size y (number v)) vs (All-tail (λ w. layout w ≡ y) v vs same) entered.1),
      )

  pub planned_in : (y : Layout) (n : ℕ) (vs : List A) → All (λ v. layout v ≡ y) vs → ArePlanned y n (map number vs) → AllPlanned layout number n vs
  planned_in y n [] same planned = tt
  planned_in y n (v ∷ vs) same planned =
      let here : layout v ≡ y = All-head (λ w. layout w ≡ y) v vs same in
      subst (λ z. ((l : ℕ) → z.plan (number v) l ≡ plan_in n (z.lines (number v)) l) × AllPlanned layout number (n + formats_count (z.lines (number v))) vs) (sym here)
      (planned.0, planned_in y (n + formats_count (y.lines (number v))) vs (All-tail (λ w. layout w ≡ y) v vs same) planned.1)
