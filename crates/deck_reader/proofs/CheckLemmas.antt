-- The first unit at fault, behind units that are sound; and the fault of lines.
use Rattle.std.proofs.Common.{◌≡◌, List, ◌∷◌, ◌++◌, map, Ok, refl, sym, ap, ◌∙◌, subst}
use Rattle.std.specs.List.{AllByRecursion}
use Rattle.std.proofs.lemmas.List.{map-append}
use Rattle.ground.specs.declared.fault.Refusal.{Refusal}
use Rattle.ground.specs.declared.fault.Refusal.TheVariants.{Fault as AFault, Memory}
use Rattle.f66_tree.specs.declared.unit.Unit.{Unit as AUnit}
use Rattle.f66_tree.specs.Views.{routine_of}
use Rattle.f66_check.specs.Answers.{IsRightRefusal, IsSoundUnit}
use Rattle.deck_reader.specs.Answers.{IsDeckRefusal}
use Rattle.deck_reader.specs.Steps.{IsLineRefusal}
use Rattle.deck_reader.specs.Units.{Units}

pub first_unsound : (units before behind : List AUnit) (unit : AUnit) → units ≡ before ++ unit ∷ behind → AllByRecursion IsSoundUnit (map routine_of before) → (r : Refusal) → IsRightRefusal (routine_of unit) r → IsDeckRefusal (Ok (map routine_of units)) r
first_unsound units before behind unit e sound Memory is = tt
first_unsound units before behind unit e sound (AFault f) is = record {
  before = map routine_of before;
  unit = routine_of unit;
  behind = map routine_of behind;
  splits = ap (map routine_of) e ∙ map-append routine_of before (unit ∷ behind);
  sound = sound;
  unsound = is.1;
  part = is.0.0;
  first = is.0.1;
}

-- the fault of cards or lines is that of the deck
pub line_refusal : (units : Units) (r : Refusal) → IsLineRefusal units r → IsDeckRefusal units r
line_refusal units Memory is = tt
line_refusal units (AFault f) is = subst (λ us. IsDeckRefusal us (AFault f)) (sym is) refl
