-- How a run over a source and a sink ends.
use Rattle.std.specs.Prelude.{◌≡◌, ◌≢◌, ℕ, Bool, true, false, List, [], ◌++◌}
use Rattle.std.specs.declared.option.Option.{Option}
use Rattle.std.specs.Io.KnownBytes.{Consumes, IsAtEnd}
use Rattle.ground.specs.declared.place.Place.{Place}
use Rattle.ground.specs.declared.trap.Trap.TheVariants.{EndOfInput}
use Rattle.f66_tree.specs.World.{Record, End, Done, Stopped, Trapped, Ended, GoesOn, Shown, IsPrefix}
use Rattle.ports.specs.Causes.{Rose}
use Rattle.ports.specs.Puts.{PutsPrefix}
use Rattle.ports.specs.Records.{got_records, input_records, output_bytes}
use Rattle.record_intake.specs.Intakes.{Content, MayCome, Gets, untouched}
use Rattle.record_flow.specs.declared.flow.Stop.{Stop}
use Rattle.record_flow.specs.declared.flow.Stop.TheVariants as stops
use Rattle.record_flow.specs.Flows.{AreSteady}
use Rattle.stack_code.specs.StackMachine.{Runs}
use Rattle.stack_code.specs.declared.valid.Code.{Code}
use Rattle.runner.specs.declared.run.Ran.{Ran}
use Rattle.runner.specs.declared.run.End.{End as TheEnd}
use Rattle.runner.specs.declared.run.End.TheVariants as ends
use Rattle.runner.specs.Running.{program, RunsTo, Wants}

-- nothing has been read
pub record IsUnread (c : Content) : Type 0 where
  pub hand : c.hand ≡ []
  pub going : c.ended ≡ false

-- The machine comes to this end over the records of the bytes that were got and of all that may come behind them: nothing, where the
-- source has told its end. What it writes was put. Each read was made where the machine, over the records of what was got before, asks for
-- one more.
pub record IsWhole {S K : Type 0} (left : S → Option (List ℕ)) (puts : K → List ℕ → K → Type 0) (faults : S → ℕ) (failures : K → ℕ) (i0 i1 : S) (o0 o1 : K) (c : Code) (steps : ℕ) (end : End) (rest shown : ℕ) : Type 0 where
  pub got : List ℕ
  pub written : List Record
  pub ended : Bool
  pub consumes : Consumes (left i0) (left i1) got
  pub gets : Gets (Wants (program c) steps) i0 i1 untouched got
  pub at_end : ended ≡ true → IsAtEnd (left i1)
  pub sent : puts o0 (output_bytes written) o1
  pub steady : AreSteady faults failures i0 i1 o0 o1
  pub runs : (failed : Bool) (later : List ℕ) → MayCome ended failed later → RunsTo (program c) (got_records failed (got ++ later)) steps written end rest shown

-- a read has failed where the machine, over the records that were got by then, comes to the end of its input
pub record IsCutOff {S K : Type 0} (left : S → Option (List ℕ)) (puts : K → List ℕ → K → Type 0) (faults : S → ℕ) (failures : K → ℕ) (i0 i1 : S) (o0 o1 : K) (c : Code) (steps rest shown : ℕ) : Type 0 where
  pub got : List ℕ
  pub written : List Record
  pub place : Place
  pub consumes : Consumes (left i0) (left i1) got
  pub gets : Gets (Wants (program c) steps) i0 i1 untouched got
  pub sent : puts o0 (output_bytes written) o1
  pub input : Rose (faults i0) (faults i1)
  pub out : failures o1 ≡ failures o0
  pub runs : RunsTo (program c) (got_records true got) steps written (Ended (Trapped EndOfInput place)) rest shown

-- a put has failed, of records with which those that the machine writes begin, at least one
pub record IsBrokenOff {S K : Type 0} (left : S → Option (List ℕ)) (puts : K → List ℕ → K → Type 0) (faults : S → ℕ) (failures : K → ℕ) (i0 i1 : S) (o0 o1 : K) (c : Code) (steps : ℕ) : Type 0 where
  pub got : List ℕ
  pub written : List Record
  pub consumes : Consumes (left i0) (left i1) got
  pub gets : Gets (Wants (program c) steps) i0 i1 untouched got
  pub sent : PutsPrefix puts o0 (output_bytes written) o1
  pub some : written ≢ []
  pub input : faults i1 ≡ faults i0
  pub out : Rose (failures o0) (failures o1)
  pub begins : (a : Shown) (count : ℕ) → Runs (program c) (input_records got) steps a count → IsPrefix written a.records

-- what a step with the records ends in
abbrev pub end_in : Stop → Place → TheEnd
end_in (stops.Trapped e) p = ends.Trapped e p
end_in stops.Input p = ends.InputFault
end_in stops.Output p = ends.OutputFault

abbrev pub IsEnd : {S K : Type 0} → (S → Option (List ℕ)) → (K → List ℕ → K → Type 0) → (S → ℕ) → (K → ℕ) → S → S → K → K → Code → ℕ → ℕ → ℕ → TheEnd → Type 0
IsEnd left puts faults failures i0 i1 o0 o1 c steps rest shown ends.Done = IsWhole left puts faults failures i0 i1 o0 o1 c steps (Ended Done) rest shown
IsEnd left puts faults failures i0 i1 o0 o1 c steps rest shown (ends.Stopped n) = IsWhole left puts faults failures i0 i1 o0 o1 c steps (Ended (Stopped n)) rest shown
IsEnd left puts faults failures i0 i1 o0 o1 c steps rest shown (ends.Trapped t p) = IsWhole left puts faults failures i0 i1 o0 o1 c steps (Ended (Trapped t p)) rest shown
IsEnd left puts faults failures i0 i1 o0 o1 c steps rest shown ends.StepLimit = IsWhole left puts faults failures i0 i1 o0 o1 c steps GoesOn rest shown
IsEnd left puts faults failures i0 i1 o0 o1 c steps rest shown ends.InputFault = IsCutOff left puts faults failures i0 i1 o0 o1 c steps rest shown
IsEnd left puts faults failures i0 i1 o0 o1 c steps rest shown ends.OutputFault = IsBrokenOff left puts faults failures i0 i1 o0 o1 c steps

-- what came in and went out by the end of a run, and that the end is the machine's
abbrev pub IsRunOf : {S K : Type 0} → (S → Option (List ℕ)) → (K → List ℕ → K → Type 0) → (S → ℕ) → (K → ℕ) → S → S → K → K → Code → ℕ → Ran → Type 0
IsRunOf left puts faults failures i0 i1 o0 o1 c steps ran = IsEnd left puts faults failures i0 i1 o0 o1 c steps ran.left ran.executed ran.end
