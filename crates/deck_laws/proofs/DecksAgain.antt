-- The printed deck of sound units is read with success, and its units are the same but for places.
use Rattle.std.proofs.Common.{◌≡◌, List, [], ◌∷◌, ◌++◌, map, Ok, refl, ap, subst, ◌∙◌}
use Rattle.std.specs.List.{AllByRecursion}
use Rattle.ground.specs.declared.fault.Refusal.{Refusal}
use Rattle.ground.specs.declared.fault.Refusal.TheVariants.{Fault as AFault, Memory}
use Rattle.f66_tree.specs.Syntax.{Routine}
use Rattle.f66_check.specs.Answers.{IsSoundUnit}
use Rattle.deck.specs.Decks.{deck_of}
use Rattle.deck_reader.specs.Answers.{deck_units, IsDeckRefusal}
use Rattle.deck_reader.specs.Units.{Units}
use Rattle.deck_laws.specs.Fitting.{FitsDeck}
use Rattle.deck_laws.specs.Places.{unplaced, units_at}
use Rattle.deck_laws.specs.Whole.{IsSoundDeck}
use Rattle.deck_laws.proofs.UnitsAgain.{units_again, places_alone}
use Rattle.deck_laws.proofs.SameChecks.{sound_again}
use Rattle.deck_laws.proofs.SoundDecks.{deck_fits, all_sound}
use Rattle.deck_laws.proofs.WritableLines.{units_writable}

pub deck_again : (units : List Routine) → FitsDeck units → deck_units (deck_of units) ≡ Ok (units_at 1 units)
deck_again units fits = units_again units fits.each (units_writable units fits.each fits.printable fits.texts) fits.some fits.few fits.statements fits.bytes

same_units : (answer : Units) (read units : List Routine) → answer ≡ Ok read → answer ≡ Ok units → read ≡ units
same_units answer read units one two = cc

pub read_again : (units read : List Routine) → FitsDeck units → deck_units (deck_of units) ≡ Ok read → map unplaced read ≡ map unplaced units
read_again units read fits is =
    ap (map unplaced) (same_units (deck_units (deck_of units)) read (units_at 1 units) is (deck_again units fits)) ∙ places_alone units 1

one_of : (before : List Routine) (unit : Routine) (behind : List Routine) → AllByRecursion IsSoundUnit (before ++ unit ∷ behind) → IsSoundUnit unit
one_of [] unit behind all = all.0
one_of (first ∷ before) unit behind all = one_of before unit behind all.1

no_fault : (units : List Routine) → AllByRecursion IsSoundUnit units → (r : Refusal) → IsDeckRefusal (Ok units) r → r ≡ Memory
no_fault units sound Memory is = refl
no_fault units sound (AFault f) is = absurd (is.unsound (one_of is.before is.unit is.behind (subst (AllByRecursion IsSoundUnit) is.splits sound)))

pub sound_read : (units read : List Routine) → IsSoundDeck units → deck_units (deck_of units) ≡ Ok read → map unplaced read ≡ map unplaced units
sound_read units read is e = read_again units read (deck_fits units is) e

pub sound_accepted : (units : List Routine) (r : Refusal) → IsSoundDeck units → IsDeckRefusal (deck_units (deck_of units)) r → r ≡ Memory
sound_accepted units r is refused =
    no_fault (units_at 1 units) (sound_again units 1 (all_sound units is.each)) r (subst (λ (answer : Units). IsDeckRefusal answer r) (deck_again units (deck_fits units is)) refused)
