-- Units without a fault are ready and good; and refusals.
use Rattle.std.proofs.Common.{◌≡◌, inl, inr, List, [], ◌∷◌, map, Result, Ok, Err, refl, sym, ap, ◌∙◌, subst}
use Rattle.std.specs.Prelude.{IfOk, IfErr, OnOk}
use Rattle.std.specs.List.{All}
use Rattle.std.proofs.lemmas.List.Elements.{All-nil, All-cons}
use Rattle.ground.specs.declared.place.Place.{Place}
use Rattle.ground.specs.declared.fault.Refusal.{Refusal}
use Rattle.ground.specs.declared.fault.Refusal.TheVariants as refusals
use Rattle.f66_tree.specs.declared.unit.Unit.{Unit as AUnit}
use Rattle.f66_tree.specs.Syntax.{Routine}
use Rattle.f66_tree.specs.Views.{routine_of}
use Rattle.f66_program.specs.Association.{IsBadUnit}
use Rattle.f66_program.specs.Linking.{Program}
use Rattle.linker.specs.Rules.{program_of}
use Rattle.storage_assoc.specs.Naming.{IsReady}
use Rattle.sound_units.proofs.ReadyLemmas.{sound_is_ready}
use Rattle.whole_program.specs.Linked.{IsLinkRefusal}
use Rattle.deck_reader.specs.Steps.{IsLineRefusal}
use Rattle.deck_reader.specs.Units.{Units}
use Rattle.deck_link.specs.Units.{IsClean, AreRefusedUnits}
use Rattle.deck_link.specs.Linking.{AreClean, IsAccepted, IsRefusedProgram, IsDeckFault, IsRefusedDeck}

-- ---- units without a fault ----

each : (P : Routine → Type 0) → ((r : Routine) → IsClean r → P r) → (units : List AUnit) → AreClean (map routine_of units) → All (λ u. P (routine_of u)) units
each P f [] clean = All-nil (λ u. P (routine_of u))
each P f (u ∷ units) clean = All-cons (λ u. P (routine_of u)) u units (f (routine_of u) clean.0) (each P f units clean.1)

pub ready_units : (units : List AUnit) → AreClean (map routine_of units) → All (λ u. IsReady (routine_of u)) units
ready_units = each IsReady (λ r c. sound_is_ready r c.sound)

pub well_units : (units : List AUnit) → AreClean (map routine_of units) → All (λ u. ¬ IsBadUnit (routine_of u)) units
well_units = each (λ r. ¬ IsBadUnit r) (λ r c. c.fit.well)

-- ---- refusals ----

pub units_refused : (p : Program) (e : Refusal) → AreRefusedUnits p.units e → IsRefusedProgram p e
units_refused p (refusals.Fault f) h = inl h
units_refused p refusals.Memory h = tt

pub links_refused : (p : Program) → AreClean p.units → (e : Refusal) → IsLinkRefusal p e → IsRefusedProgram p e
links_refused p clean (refusals.Fault f) h = inr (clean, h)
links_refused p clean refusals.Memory h = tt

pub lines_refused : (told : Units) (finish : Place) (e : Refusal) → IsLineRefusal told e → IsRefusedDeck told finish e
lines_refused told finish (refusals.Fault f) h = subst (λ us. IsDeckFault us finish f) (sym h) refl
lines_refused told finish refusals.Memory h = tt

program_is_deck : (units : List AUnit) (finish : Place) (e : Refusal) → IsRefusedProgram (program_of units finish) e → IsRefusedDeck (Ok (map routine_of units)) finish e
program_is_deck units finish (refusals.Fault f) h = h
program_is_deck units finish refusals.Memory h = tt

pub program_refused : (told : Units) (units : List AUnit) (finish : Place) → told ≡ Ok (map routine_of units) → (e : Refusal) → IsRefusedProgram (program_of units finish) e → IsRefusedDeck told finish e
program_refused told units finish is e h = subst (λ us. IsRefusedDeck us finish e) (sym is) (program_is_deck units finish e h)

-- ---- answers that hold the same units ----

module _ {X E : Type 0} (items : X → List AUnit) (units : List AUnit) where
  pub units_told : (told : Units) → told ≡ Ok (map routine_of units) → (r : Result X E) → IfOk r (λ x. items x ≡ units) → IfOk r (λ x. told ≡ Ok (map routine_of (items x)))
  units_told told is (Ok x) same = is ∙ ap (λ us. Ok (map routine_of us)) (sym same)
  units_told told is (Err e) same = tt

  pub accepted_told : (finish : Place) (r : Result X E) → IfOk r (λ x. items x ≡ units) → OnOk r (IsAccepted (program_of units finish)) → IfOk r (λ x. IsAccepted (program_of (items x) finish))
  accepted_told finish (Ok x) same accepted = subst (λ us. IsAccepted (program_of us finish)) (sym same) accepted
  accepted_told finish (Err e) same accepted = tt

pub refused_told : {X : Type 0} (P Q : Refusal → Type 0) → ((e : Refusal) → P e → Q e) → (r : Result X Refusal) → IfErr r P → IfErr r Q
refused_told P Q f (Ok x) h = tt
refused_told P Q f (Err e) h = f e h
