-- What came of a call before its lines were put.
use Rattle.std.specs.Prelude.{◌≡◌, ◌≢◌, ◌⊎◌, ℕ, List, []}
use Rattle.std.specs.declared.option.Option.{Option}
use Rattle.ports.specs.Causes.{Rose}
use Rattle.ports.specs.Puts.{PutsPrefix}
use Rattle.f66_tree.specs.World.{Record, Shown}
use Rattle.f66_program.specs.Linking.{Program}
use Rattle.machine.specs.Runs.{IsRunOf, Executes}
use Rattle.eft_top.specs.declared.status.Status.TheVariants.{Done, Usage, LibraryFault, OutputFault, Memory}
use Rattle.eft_top.specs.declared.report.Report.{Report}
use Rattle.eft_top.specs.Lines.{usage_line, library_fault_line, output_fault_line, memory_line}
use Rattle.eft_top.specs.Words.{Command, AskNothing}
use Rattle.eft_top.specs.Input.{Got}
use Rattle.eft_top.specs.Outcome.{Outcome, IsOutcomeBy, out_of}
use Rattle.eft_top.specs.Report.{SaysAll, IsReport}

-- all of these bytes were put, and no put has failed
pub record HasPut {K : Type 0} (puts : K → List ℕ → K → Type 0) (faults : K → ℕ) (before after : K) (bytes : List ℕ) : Type 0 where
  pub all : puts before bytes after
  pub steady : faults after ≡ faults before

-- a front of these bytes, of which there are some, was put, and then a put has failed
pub record HasBroken {K : Type 0} (puts : K → List ℕ → K → Type 0) (faults : K → ℕ) (before after : K) (bytes : List ℕ) : Type 0 where
  pub some : bytes ≢ []
  pub front : PutsPrefix puts before bytes after
  pub cause : Rose (faults before) (faults after)

-- What came of what has an outcome: its bytes were put, and the report shows it; or they were broken off, by what was got by then.
pub data Shows (comes : (Got → Type 0) → Outcome → Type 0) (given got : Got → Type 0) (put broken : List ℕ → Type 0) (report : Report) : Type 0 where
  AllPut : (outcome : Outcome) → comes given outcome → put (out_of outcome) → IsReport report outcome → Shows comes given got put broken report
  BrokenOff : (outcome : Outcome) → comes got outcome → broken (out_of outcome) → SaysAll report OutputFault output_fault_line → Shows comes given got put broken report

-- what linked units show over records, and the instructions of their code
abbrev pub IsUnitsRun : Program → ℕ → List Record → Shown → ℕ → Type 0
IsUnitsRun made limit records shown executed = IsRunOf made records limit shown × Executes made records limit shown executed

-- a text was put, and the report says that all is done; or it was broken off
abbrev pub Prints : List ℕ → (List ℕ → Type 0) → (List ℕ → Type 0) → Report → Type 0
Prints text put broken report = (put text × SaysAll report Done []) ⊎ (broken text × SaysAll report OutputFault output_fault_line)

-- what came of a command: by the library's texts and its count before and after, what reads may have given, and what was put on out
pub data CameOf (command : Command) (files : Option (List ℕ → Option (List ℕ))) (before now : ℕ) (given got : Got → Type 0) (put broken : List ℕ → Type 0) (report : Report) : Type 0 where
  NotFetched : Rose before now → put [] → SaysAll report LibraryFault library_fault_line → CameOf command files before now given got put broken report
  NoMemory : put [] → SaysAll report Memory memory_line → CameOf command files before now given got put broken report
  Came : now ≡ before → Shows (IsOutcomeBy command files) given got put broken report → CameOf command files before now given got put broken report

-- what came of the words
pub data CameOfWords (asks : Command → Type 0) (files : Option (List ℕ → Option (List ℕ))) (before now : ℕ) (given got : Got → Type 0) (put broken : List ℕ → Type 0) (report : Report) : Type 0 where
  BadWords : AskNothing asks → put [] → SaysAll report Usage usage_line → CameOfWords asks files before now given got put broken report
  Asked : (command : Command) → asks command → CameOf command files before now given got put broken report → CameOfWords asks files before now given got put broken report
