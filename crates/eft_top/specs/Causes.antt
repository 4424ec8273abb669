-- When a status comes, and what out and diag then have.
use Rattle.std.specs.Prelude.{◌≡◌, ◌≢◌, ◌⊎◌, ℕ, List, [], ◌∷◌, Some, None}
use Rattle.std.specs.declared.option.Option.{Option}
use Rattle.eft_top.specs.declared.status.Status.{Status}
use Rattle.eft_top.specs.declared.status.Status.TheVariants.{Done, Usage, SourceFault, LibraryFault, InputFault, OutputFault, StepLimit, Memory, Stopped, Trapped}
use Rattle.eft_top.specs.Lines.{usage_line, library_fault_line, memory_line, output_fault_line}
use Rattle.eft_top.specs.Input.{Got}
use Rattle.macro_define.specs.Answers.{Holds}
use Rattle.eft_top.specs.Words.{Command, AskNothing}
use Rattle.eft_top.specs.Outcome.{Outcome, status_of, out_of, diag_line, IsOutcomeOf, IsOutcome}

abbrev pub IsOneOf : Status → List Status → Type 0
IsOneOf status [] = ⊥
IsOneOf status (one ∷ others) = (status ≡ one) ⊎ IsOneOf status others

-- the status comes only where P holds, and wherever Q holds, unless one of these others comes
pub record Comes (result status : Status) (P Q : Type 0) (others : List Status) : Type 0 where
  pub only : result ≡ status → P
  pub wherever : Q → IsOneOf result (status ∷ others)

-- Of what may come of a command, something has this status. All has it: so it is of the program's end, whichever target runs.
abbrev pub MayBe : (Outcome → Type 0) → Status → Type 0
MayBe told status = (outcome : Outcome) × told outcome × (status_of outcome ≡ Some status)

abbrev pub MustBe : (Outcome → Type 0) → Status → Type 0
MustBe told status = (outcome : Outcome) → told outcome → status_of outcome ≡ Some status

-- a status that a text has, or a text and its input
abbrev pub IsOfText : Status → Type 0
IsOfText Done = Unit {0}
IsOfText Usage = ⊥
IsOfText SourceFault = Unit {0}
IsOfText LibraryFault = ⊥
IsOfText InputFault = Unit {0}
IsOfText OutputFault = ⊥
IsOfText StepLimit = Unit {0}
IsOfText Memory = ⊥
IsOfText (Stopped n) = Unit {0}
IsOfText (Trapped trap) = Unit {0}

-- What compels a status: that all that may come has it. A text has a fault or has none, so that something has it is enough.
abbrev pub Compels : (Outcome → Type 0) → Status → Type 0
Compels told SourceFault = MayBe told SourceFault
Compels told status = MustBe told status

-- a status for which no input is read
abbrev pub NeedsNoInput : Status → Type 0
NeedsNoInput Done = ⊥
NeedsNoInput Usage = Unit {0}
NeedsNoInput SourceFault = Unit {0}
NeedsNoInput LibraryFault = Unit {0}
NeedsNoInput InputFault = ⊥
NeedsNoInput OutputFault = ⊥
NeedsNoInput StepLimit = ⊥
NeedsNoInput Memory = Unit {0}
NeedsNoInput (Stopped n) = ⊥
NeedsNoInput (Trapped trap) = ⊥

-- the line of a status that says all
abbrev pub fixed_line : Status → Option (List ℕ)
fixed_line Done = None
fixed_line Usage = Some usage_line
fixed_line SourceFault = None
fixed_line LibraryFault = Some library_fault_line
fixed_line InputFault = None
fixed_line OutputFault = None
fixed_line StepLimit = None
fixed_line Memory = Some memory_line
fixed_line (Stopped n) = None
fixed_line (Trapped trap) = None

-- There is an outcome of what the words ask for, of the told text where the library tells it, and of what reads may have
-- given, whose status this is, whose bytes out got and whose line diag got.
pub record IsShown (asks : Command → Type 0) (files : Option (List ℕ → Option (List ℕ))) (given : Got → Type 0) (result : Status) (out diag : List ℕ → Type 0) : Type 0 where
  pub outcome : Outcome
  pub is : IsOutcome asks files given outcome
  pub status : Some result ≡ status_of outcome
  pub on_out : out (out_of outcome)
  pub on_diag : diag (diag_line outcome)

-- a fact of a library that tells its texts
abbrev pub IfTold : Option (List ℕ → Option (List ℕ)) → ((List ℕ → Option (List ℕ)) → Type 0) → Type 0
IfTold (Some held) P = P held
IfTold None P = Unit {0}

-- What a call answers to what its words ask for, by what the library tells and what reads may have given; out and diag hold of
-- what these got. Each status comes exactly where it is said here, but that a fetch or a put may fail, or memory be wanting.
pub record AnswersCall (asks : Command → Type 0) (files : Option (List ℕ → Option (List ℕ))) (given : Got → Type 0) (result : Status) (out diag : List ℕ → Type 0) : Type 0 where
  pub usage : Comes result Usage (AskNothing asks) (AskNothing asks) (OutputFault ∷ [])
  pub status : (command : Command) → asks command → (status : Status) → IsOfText status → IfTold files (λ held.
      Comes result status (MayBe (IsOutcomeOf command (Holds held) given) status) (Compels (IsOutcomeOf command (Holds held) given) status) (LibraryFault ∷ OutputFault ∷ Memory ∷ []))
  pub shown : IsOfText result → IsShown asks files given result out diag

abbrev pub IsLineOf : List ℕ → List (List ℕ) → Type 0
IsLineOf line [] = ⊥
IsLineOf line (one ∷ others) = (line ≡ one) ⊎ IsLineOf line others

-- What out and diag were to get where a put failed: a line that says all, or the bytes and the line of an outcome; and what they got of
-- it. Diag got a front of a line that is not empty; or it was a put on out that failed, of bytes that are some, and diag got a front of
-- the line of that failure.
pub record WasToShow (asks : Command → Type 0) (files : Option (List ℕ → Option (List ℕ))) (given : Got → Type 0) (out diag : List ℕ → Type 0) : Type 0 where
  pub bytes : List ℕ
  pub line : List ℕ
  pub planned : ((bytes ≡ []) × IsLineOf line (usage_line ∷ library_fault_line ∷ memory_line ∷ []))
      ⊎ ((outcome : Outcome) × IsOutcome asks files given outcome × (bytes ≡ out_of outcome) × (line ≡ diag_line outcome))
  pub on_out : out bytes
  pub on_diag : ((line ≢ []) × diag line) ⊎ ((bytes ≢ []) × diag output_fault_line)
