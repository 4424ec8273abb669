-- What comes of a command: a fault of its text, its deck or its listing, or a run over the records that it asked for.
use Rattle.std.specs.Prelude.{◌≡◌, ◌≢◌, ℕ, Bool, true, false, ◌&&◌, List, [], ◌∷◌, ◌++◌, Ok, Err, Some, None, if◌then◌else◌}
use Rattle.std.specs.declared.option.Option.{Option}
use Rattle.ground.specs.declared.fault.Fault.{Fault}
use Rattle.ground.specs.declared.place.Place.{Place}
use Rattle.ground.specs.declared.trap.Trap.{Trap}
use Rattle.ground.specs.declared.trap.Trap.TheVariants.{EndOfInput}
use Rattle.ports.specs.Records.{output_bytes}
use Rattle.f66_tree.specs.World.{Record, Shown, End, Ended, GoesOn, Lost, Done, Stopped, Trapped, Wrong}
use Rattle.f66_program.specs.Linking.{Program}
use Rattle.macro_define.specs.Answers.{Known, IsOf, answer}
use Rattle.front.specs.Checked.{Meaning}
use Rattle.deck.specs.Decks.{deck_of}
use Rattle.front.specs.Verdict.{Verdict, Refuses, Accepts, Becomes, file_name}
use Rattle.front.specs.Programs.{IsProgramOf}
use Rattle.record_intake.specs.Intakes.{Pieces}
use Rattle.machine.specs.Runs.{IsRunOf, Executes}
use Rattle.machine.specs.Listings.{IsListingOf}
use Rattle.deck_file.specs.Loaded.{Loaded, IsLoaded}
use Rattle.eft_top.specs.declared.status.Status.{Status}
use Rattle.eft_top.specs.declared.status.Status.TheVariants.{SourceFault, Done as IsDone, Stopped as IsStopped, Trapped as IsTrapped, StepLimit, InputFault}
use Rattle.eft_top.specs.Lines.{fault_line, trap_line, stop_line, limit_line, counts_line, input_fault_line}
use Rattle.eft_top.specs.Input.{Got, Behind, Unread, Nothing, Broken, is_broken, OfEach}
use Rattle.eft_top.specs.Words.{Command, Run, Cards, Listing, Deck}

-- a fault in the file of a name; a text that is put, a deck or a listing; or what a run shows of which at most so many statements begin,
-- with the names of the files, whether a read of its input has failed, and the number of instructions where the counts are asked for
pub data Outcome : Type 0 where
  HasFault : Fault → List ℕ → Outcome
  HasText : List ℕ → Outcome
  Runs : List (List ℕ) → ℕ → Bool → Option ℕ → Shown → Outcome

-- A run with a limit over an input: it shows what a program of the meaning does within the limit, a program of sound FORTRAN
-- that agrees with the meaning whatever the input holds. So where it has ended, the meaning has the same records and the same
-- end; where it goes on, that program goes on past so many statements, and its records begin those of the meaning; and
-- whatever the meaning does with a work w where 32 * (w + 1) is within the limit, the run has done. The instructions are those that
-- code of this program executes.
pub record IsRun (meaning : Meaning) (limit : ℕ) (input : List Record) (shown : Shown) (executed : ℕ) : Type 0 where
  pub made : Program
  pub program : IsProgramOf meaning made
  pub is : shown ≡ program.run input limit
  pub counted : Executes made input limit shown executed

-- A deck of a text is the cards of a program of its meaning: of units of sound FORTRAN that are linked and agree with the meaning, and
-- each of whose headers and statements fits its cards.
pub record IsDeck (meaning : Meaning) (deck : List ℕ) : Type 0 where
  pub made : Program
  pub program : IsProgramOf meaning made
  pub is : deck ≡ deck_of made.units

-- A listing of a text is that of valid stack code whose runs are those of a program of its meaning, in records, end and count.
pub record IsListing (meaning : Meaning) (text : List ℕ) : Type 0 where
  pub made : Program
  pub program : IsProgramOf meaning made
  pub listed : IsListingOf made text

-- a refused text comes to its fault, an accepted one to a text that is put
abbrev pub IsPrinted : (Meaning → List ℕ → Type 0) → Verdict → Outcome → Type 0
IsPrinted IsText (Refuses fault file) outcome = outcome ≡ HasFault fault file
IsPrinted IsText (Accepts files meaning) outcome = (text : List ℕ) × IsText meaning text × (outcome ≡ HasText text)

-- A run asks for one record more than there are where a read has failed, and never where nothing is known of what is behind.
abbrev pub Asks : Behind → End → Type 0
Asks Unread end = (place : Place) → end ≢ Ended (Trapped EndOfInput place)
Asks Nothing end = Unit {0}
Asks Broken end = (place : Place) × (end ≡ Ended (Trapped EndOfInput place))

abbrev pub if_asked : Bool → ℕ → Option ℕ
if_asked true executed = Some executed
if_asked false executed = None

-- P holds of a run over these records alone that ends where it asks for one more
abbrev pub AsksForMore : (List Record → Shown → ℕ → Type 0) → List Record → Type 0
AsksForMore P records = (shown : Shown) × (executed : ℕ) × P records shown executed × ((place : Place) × (shown.end ≡ Ended (Trapped EndOfInput place)))

-- What comes of a run: of what reads may have given, something was got, and P holds of what the run shows, and of its instructions, over the
-- records of each input that begins so. Each piece of what was got is at most 65,537 bytes, and was read where the run, over the records that
-- were got before it, asks for one more; so a run that asks for none reads nothing.
abbrev pub RunsOver : List (List ℕ) → (List Record → Shown → ℕ → Type 0) → ℕ → Bool → (Got → Type 0) → Outcome → Type 0
RunsOver files P limit count given outcome =
    (got : Got) × given got × (shown : Shown) × (executed : ℕ) × OfEach got (λ records. P records shown executed) × Asks got.behind shown.end × Pieces (AsksForMore P) [] got.pieces
    × (outcome ≡ Runs files limit (is_broken got.behind) (if_asked count executed) shown)

-- a refused text comes to its fault, an accepted one to a run
abbrev pub ComesOf : Verdict → ℕ → Bool → (Got → Type 0) → Outcome → Type 0
ComesOf (Refuses fault file) limit count given outcome = outcome ≡ HasFault fault file
ComesOf (Accepts files meaning) limit count given outcome = RunsOver files (IsRun meaning limit) limit count given outcome

-- what the units of a deck show over records; no number of instructions is shown
abbrev pub IsDeckRun : Program → ℕ → List Record → Shown → ℕ → Type 0
IsDeckRun made limit records shown executed = IsRunOf made records limit shown

-- a refused deck comes to its fault, another one to the run of its units; all its places are in its file
abbrev pub DeckComesOf : List ℕ → Loaded → ℕ → (Got → Type 0) → Outcome → Type 0
DeckComesOf file (Err fault) limit given outcome = outcome ≡ HasFault fault file
DeckComesOf file (Ok made) limit given outcome = RunsOver (file ∷ []) (IsDeckRun made limit) limit false given outcome

-- what may come of a command, by what is known of the library and what reads may have given
abbrev pub IsOutcomeOf : Command → Known → (Got → Type 0) → Outcome → Type 0
IsOutcomeOf (Run limit count language file) known given outcome = (verdict : Verdict) × Becomes language file known verdict × ComesOf verdict limit count given outcome
IsOutcomeOf (Cards language file) known given outcome = (verdict : Verdict) × Becomes language file known verdict × IsPrinted IsDeck verdict outcome
IsOutcomeOf (Listing language file) known given outcome = (verdict : Verdict) × Becomes language file known verdict × IsPrinted IsListing verdict outcome
IsOutcomeOf (Deck limit file) known given outcome = (loaded : Loaded) × IsLoaded (answer known file) loaded × DeckComesOf file loaded limit given outcome

-- the same by what the library tells, or, where it tells nothing, by some texts that fetches may have given
abbrev pub IsOutcomeBy : Command → Option (List ℕ → Option (List ℕ)) → (Got → Type 0) → Outcome → Type 0
IsOutcomeBy command files given outcome = (known : Known) × IsOf files known × IsOutcomeOf command known given outcome

-- the same of the command that words ask for
abbrev pub IsOutcome : (Command → Type 0) → Option (List ℕ → Option (List ℕ)) → (Got → Type 0) → Outcome → Type 0
IsOutcome asks files given outcome = (command : Command) × asks command × IsOutcomeBy command files given outcome

abbrev pub is_end_of_input : Trap → Bool
is_end_of_input EndOfInput = true
is_end_of_input _ = false

-- where a read has failed, the end of the records got is no end of the input
abbrev pub trap_status : Bool → Trap → Status
trap_status failed trap = if failed && is_end_of_input trap then InputFault else IsTrapped trap

-- the status of an end; an end that no accepted program has gives none
abbrev pub end_status : Bool → End → Option Status
end_status failed (Ended Done) = Some IsDone
end_status failed (Ended (Stopped n)) = Some (IsStopped n)
end_status failed (Ended (Trapped trap place)) = Some (trap_status failed trap)
end_status failed (Ended Wrong) = None
end_status failed GoesOn = Some StepLimit
end_status failed Lost = None

abbrev pub trap_end_line : List (List ℕ) → Bool → Trap → Place → List ℕ
trap_end_line files failed trap place = if failed && is_end_of_input trap then input_fault_line else trap_line trap (file_name files place.file) place.line

abbrev pub end_line : List (List ℕ) → ℕ → Bool → End → List ℕ
end_line files limit failed (Ended (Stopped n)) = stop_line n
end_line files limit failed (Ended (Trapped trap place)) = trap_end_line files failed trap place
end_line files limit failed GoesOn = limit_line limit
end_line files limit failed _ = []

-- the line of the counts, where they are asked for
abbrev pub count_line : Option ℕ → ℕ → List ℕ
count_line (Some executed) begun = counts_line begun executed
count_line None begun = []

-- the status, the bytes on out and the lines on diag
abbrev pub status_of : Outcome → Option Status
status_of (HasFault fault file) = Some SourceFault
status_of (HasText text) = Some IsDone
status_of (Runs files limit failed count run) = end_status failed run.end

abbrev pub out_of : Outcome → List ℕ
out_of (HasFault fault file) = []
out_of (HasText text) = text
out_of (Runs files limit failed count run) = output_bytes run.records

abbrev pub diag_line : Outcome → List ℕ
diag_line (HasFault fault file) = fault_line fault file
diag_line (HasText text) = []
diag_line (Runs files limit failed count run) = count_line count run.work ++ end_line files limit failed run.end
