-- A legal deck has a linkage: its units are sound and linked, and their places have numbers.
use Rattle.std.proofs.Common.{◌≡◌, ◌⊎◌, inl, inr, ℕ, suc, pos, Bool, true, false, List, [], ◌∷◌, length, Some, refl, sym, ◌∙◌, subst}
use Rattle.std.specs.List.{All, slice_get}
use Rattle.std.specs.Ordering.{int_eq}
use Rattle.std.proofs.lemmas.Bool.Decides.{Decides-int_eq}
use Rattle.std.proofs.lemmas.List.Elements.{All-nil, All-cons}
use Rattle.ground.specs.declared.fault.FaultKind.TheVariants.{MainCount, InitialTwice}
use Rattle.f66_tree.specs.Syntax.{Routine}
use Rattle.f66_tree.specs.Units.{is_main}
use Rattle.f66_check.specs.Answers.{IsSoundUnit}
use Rattle.f66_program.specs.Association.{IsBadUnit, twice, ties_of}
use Rattle.f66_program.specs.Linking.{Program, at_part, none, IsWhole}
use Rattle.f66_program.proofs.ProgramLemmas.{well_together}
use Rattle.renumbering.proofs.NumberedLemmas.{by_numbers, links_by}
use Rattle.deck_link.specs.Linking.{AreClean}
use Rattle.legal_decks.specs.Laws.{LegalHasLinkage, LegalIsSound, LegalIsWell, LegalIsWhole}
use Rattle.legal_decks.proofs.Classes.{IsOnce, numbers}

-- ---- units ----

all_sound : (rs : List Routine) → AreClean rs → All IsSoundUnit rs
all_sound [] clean = All-nil IsSoundUnit
all_sound (r ∷ rs) clean = All-cons IsSoundUnit r rs clean.0.sound (all_sound rs clean.1)

all_well : (rs : List Routine) → AreClean rs → All (λ r. ¬ IsBadUnit r) rs
all_well [] clean = All-nil (λ r. ¬ IsBadUnit r)
all_well (r ∷ rs) clean = All-cons (λ r. ¬ IsBadUnit r) r rs clean.0.fit.well (all_well rs clean.1)

pub legal_is_sound : LegalIsSound
legal_is_sound p legal = all_sound p.units legal.accepted.units

pub legal_is_well : LegalIsWell
legal_is_well p legal = all_well p.units legal.accepted.units

pub legal_is_whole : LegalIsWhole
legal_is_whole p legal = legal.accepted.whole

-- ---- the main ----

-- the first main, or none is one
abbrev pub HasMain : List Routine → Type 0
HasMain rs = (u : ℕ) × (r : Routine) × (slice_get rs u ≡ Some r) × (is_main r.header ≡ true)

some_main : (rs : List Routine) → HasMain rs ⊎ All (λ r. is_main r.header ≡ false) rs
some_main [] = inr (All-nil (λ r. is_main r.header ≡ false))
some_main (r ∷ rs) = by_header (is_main r.header) refl (some_main rs)
  where
    by_header : (b : Bool) → is_main r.header ≡ b → HasMain rs ⊎ All (λ r. is_main r.header ≡ false) rs → HasMain (r ∷ rs) ⊎ All (λ r. is_main r.header ≡ false) (r ∷ rs)
    by_header true e rest = inl (0, r, refl, e)
    by_header false e (inl m) = inl (suc m.0, m.1, m.2, m.3)
    by_header false e (inr others) = inr (All-cons (λ r. is_main r.header ≡ false) r rs e others)

pub main_there : (p : Program) → IsWhole p → HasMain p.units
main_there p whole = elim (some_main p.units) [
  | inl m ↦ m
  | inr others ↦ absurd (whole.clean MainCount (at_part (length p.units) 0) (none (λ r c. subst (λ (s : Routine). is_main s.header ≡ false) c.2 (others c.0 r c.1)) refl))
]

-- ---- a linkage ----

once : (rs : List Routine) → All (λ r. ¬ IsBadUnit r) rs → IsOnce (ties_of rs)
once rs well a d h = by_test (int_eq d (pos 0)) refl
  where
    by_test : (b : Bool) → int_eq d (pos 0) ≡ b → d ≡ pos 0
    by_test true e = (Decides-int_eq d (pos 0)).0 e
    by_test false e = absurd (well_together rs well (twice (λ is. let no = sym e ∙ (Decides-int_eq d (pos 0)).1 is in cc) h))

pub legal_has_linkage : LegalHasLinkage
legal_has_linkage p legal =
    let found = numbers (ties_of p.units) (once p.units (legal_is_well p legal)) in
    let whole = legal.accepted.whole in
    let main = main_there p whole in
    (by_numbers p.units main.0 found.0, links_by p (legal_is_sound p legal) (whole.clean InitialTwice) found.0 (λ u x o v y q real other. found.1 u x o v y q) main.0 main.1 main.2 main.3)
