-- What is answered for a deck in a file.
use Rattle.std.specs.Prelude.{◌≡◌, ⊤, ℕ, List, Option, Result, Ok, Err}
use Rattle.ground.specs.declared.fault.Refusal.{Refusal}
use Rattle.ground.specs.declared.fault.Refusal.TheVariants.{Fault as AFault, Memory}
use Rattle.linker.specs.Rules.{program_of}
use Rattle.macro_define.specs.declared.refusal.TextRefusal.{TextRefusal}
use Rattle.macro_define.specs.declared.refusal.TextRefusal.TheVariants as refusals
use Rattle.macro_define.specs.Answers.{Known, IsOf, answer}
use Rattle.deck_file.specs.declared.deck.Deck.{Deck}
use Rattle.deck_file.specs.Loaded.{Loaded, IsLoaded}

-- the program of the units, or the fault; want of memory says nothing
abbrev pub Finds : (Loaded → Type 0) → Result Deck Refusal → Type 0
Finds P (Ok deck) = P (Ok (program_of deck.units.items deck.finish))
Finds P (Err (AFault f)) = P (Err f)
Finds P (Err Memory) = ⊤

-- a refusal with the name of the file; memory may be wanting for that
abbrev pub IsNamed : List ℕ → Refusal → TextRefusal → Type 0
IsNamed name (AFault f) (refusals.Fault g file) = (g ≡ f) × (file ≡ name)
IsNamed name refusal refusals.Memory = ⊤
IsNamed name refusal answered = ⊥

-- the same of a file of this name; a failed fetch says nothing either
abbrev pub IsAnswered : List ℕ → (Loaded → Type 0) → Result Deck TextRefusal → Type 0
IsAnswered name P (Ok deck) = P (Ok (program_of deck.units.items deck.finish))
IsAnswered name P (Err (refusals.Fault f file)) = P (Err f) × (file ≡ name)
IsAnswered name P (Err refusals.Library) = ⊤
IsAnswered name P (Err refusals.Memory) = ⊤

-- by what the library tells, or, where it tells nothing, by some bytes that the fetch may have given
pub record IsDeckIn (files : Option (List ℕ → Option (List ℕ))) (name : List ℕ) (result : Result Deck TextRefusal) : Type 0 where
  pub known : Known
  pub of : IsOf files known
  pub gives : IsAnswered name (IsLoaded (answer known name)) result
