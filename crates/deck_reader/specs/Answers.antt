-- What is answered for a deck: its units, all of them sound, or its first fault.
use Rattle.std.specs.Prelude.{◌≡◌, ⊤, ℕ, List, ◌∷◌, ◌++◌, Ok, Err, Option, Some, None}
use Rattle.std.specs.List.{AllByRecursion}
use Rattle.ground.specs.declared.fault.Fault.{Fault}
use Rattle.ground.specs.declared.fault.Refusal.{Refusal}
use Rattle.ground.specs.declared.fault.Refusal.TheVariants.{Fault as AFault, Memory}
use Rattle.f66_tree.specs.Syntax.{Routine}
use Rattle.f66_flow.specs.declared.scope.Scope.TheVariants.{Whole}
use Rattle.f66_check.specs.Answers.{IsFirstFault, IsSoundUnit}
use Rattle.card_reader.specs.Reading.{read_deck_cards}
use Rattle.deck_reader.specs.Units.{Units, units_of}

abbrev pub unless_refused : Option Fault → Units → Units
unless_refused (Some f) units = Err f
unless_refused None units = units

-- the units of a deck, or the fault of its cards, or else that of its first line at fault
abbrev pub deck_units : List ℕ → Units
deck_units bytes = unless_refused (read_deck_cards bytes).fault (units_of (read_deck_cards bytes).lines)

-- the first unit that is not sound, and its first fault
pub record IsFirstUnsound (units : List Routine) (f : Fault) : Type 0 where
  pub before : List Routine
  pub unit : Routine
  pub behind : List Routine
  pub splits : units ≡ before ++ unit ∷ behind
  pub sound : AllByRecursion IsSoundUnit before
  pub unsound : ¬ IsSoundUnit unit
  pub part : ℕ
  pub first : IsFirstFault Whole unit part f

-- a refusal is the fault of the cards or lines, or else of the first unit at fault, if it is not for want of memory
abbrev pub IsDeckRefusal : Units → Refusal → Type 0
IsDeckRefusal units Memory = ⊤
IsDeckRefusal (Ok units) (AFault f) = IsFirstUnsound units f
IsDeckRefusal (Err f) (AFault g) = f ≡ g
