-- Units in memory that serve for those of a text are printed as units of the text are.
use Rattle.std.proofs.Common.{◌≡◌, List, [], ◌∷◌, map, refl}
use Rattle.std.specs.List.{AllByRecursion}
use Rattle.ground.specs.declared.place.Place.{Place}
use Rattle.std.proofs.Common.{arith}
use Rattle.std.proofs.lemmas.List.{length-map}
use Rattle.f66_tree.specs.declared.unit.Unit.{Unit as AUnit}
use Rattle.f66_tree.specs.Syntax.{Routine}
use Rattle.f66_tree.specs.Views.{routine_of}
use Rattle.f66_check.specs.Answers.{IsSoundUnit}
use Rattle.stmt_text.specs.Fitting.{IsPrintable}
use Rattle.rat_tree.specs.Syntax.{RatRoutine}
use Rattle.rat_lower.specs.Served.{Serves, AllServe}
use Rattle.deck_laws.proofs.FittingTexts.{units_pass}
use Rattle.deck_room.specs.Printed.{printed, ArePrinted, ServingPassNoLimit}
use Rattle.deck_room.proofs.PrintedDecks.{printed_passes}

unit_is : (u : RatRoutine) (finish : Place) (unit : AUnit) (serves : Serves u finish unit) → routine_of unit ≡ printed serves.made serves.spare finish u
unit_is u finish unit serves = let header = serves.header in let place = serves.place in let code = serves.code.is in rw (header, place, code) refl

all_printed : (finish : Place) (us : List RatRoutine) (made : List AUnit) → AllServe us finish made → ArePrinted finish us (map routine_of made)
all_printed finish [] [] h = tt
all_printed finish [] (unit ∷ made) h = absurd h
all_printed finish (u ∷ us) [] h = absurd h
all_printed finish (u ∷ us) (unit ∷ made) h = ((h.0.made, h.0.spare, unit_is u finish unit h.0), all_printed finish us made h.1)

all_sound : (finish : Place) (us : List RatRoutine) (made : List AUnit) → AllServe us finish made → AllByRecursion IsSoundUnit (map routine_of made)
all_sound finish [] [] h = tt
all_sound finish [] (unit ∷ made) h = absurd h
all_sound finish (u ∷ us) [] h = absurd h
all_sound finish (u ∷ us) (unit ∷ made) h = (h.0.sound, all_sound finish us made h.1)

all_printable : (finish : Place) (us : List RatRoutine) (made : List AUnit) → AllServe us finish made → AllByRecursion IsPrintable (map routine_of made)
all_printable finish [] [] h = tt
all_printable finish [] (unit ∷ made) h = absurd h
all_printable finish (u ∷ us) [] h = absurd h
all_printable finish (u ∷ us) (unit ∷ made) h = (h.0.printable, all_printable finish us made h.1)

pub serving_pass : ServingPassNoLimit
serving_pass ts tree made accepted few some serve =
    let units : List Routine = map routine_of made in
    printed_passes ts tree tree.finish units accepted (all_printed tree.finish tree.routines made serve) few
    (record { some = omega (arith, length-map made routine_of, some); each = all_sound tree.finish tree.routines made serve; texts = units_pass units (all_printable tree.finish tree.routines made serve) })
