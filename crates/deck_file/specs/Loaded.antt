-- What becomes of a deck in a file: the program of its units, or the deck's first fault.
use Rattle.std.specs.Prelude.{◌≡◌, ℕ, List, Option, Some, None, Result, Ok, Err}
use Rattle.ground.specs.declared.place.Place.{Place}
use Rattle.ground.specs.declared.fault.Fault.{Fault}
use Rattle.ground.specs.declared.fault.FaultKind.TheVariants.{IncludeMissing}
use Rattle.ground.specs.Faults.{fault_at}
use Rattle.f66_program.specs.Linking.{Program}
use Rattle.deck_reader.specs.Answers.{deck_units}
use Rattle.deck_reader.specs.Units.{Units}
use Rattle.deck_link.specs.Ending.{end_of}
use Rattle.deck_link.specs.Linking.{IsAccepted, IsFirstFaultOf}

-- units that link, or a fault
abbrev pub Loaded : Type 0
Loaded = Result Program Fault

-- the place of a file as a whole
abbrev pub whole_file : Place
whole_file = record { file = 0; line = 0 }

-- the first fault of units, or these where they link
abbrev pub IsJudged : Program → Loaded → Type 0
IsJudged p (Err f) = IsFirstFaultOf p f
IsJudged p (Ok made) = IsAccepted p × (made ≡ p)

-- what the units become that the lines of a deck give, which ends there; a fault of cards or lines goes before all others
abbrev pub IsRead : Units → Place → Loaded → Type 0
IsRead (Err f) finish loaded = loaded ≡ Err f
IsRead (Ok units) finish loaded = IsJudged (record { units = units; finish = finish }) loaded

-- what a file's bytes become, where there is one
abbrev pub IsLoaded : Option (List ℕ) → Loaded → Type 0
IsLoaded None loaded = loaded ≡ Err (fault_at whole_file IncludeMissing)
IsLoaded (Some bytes) loaded = IsRead (deck_units bytes) (end_of bytes) loaded
