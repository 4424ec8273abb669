-- What a run of linked units comes to over a source and a sink.
use Rattle.std.specs.Prelude.{◌≡◌, ◌≢◌, ℕ, Bool, true, List, [], ◌++◌, Option}
use Rattle.std.specs.Io.KnownBytes.{Consumes, IsAtEnd}
use Rattle.ground.specs.declared.place.Place.{Place}
use Rattle.ground.specs.declared.trap.Trap.TheVariants.{EndOfInput}
use Rattle.ports.specs.Causes.{Rose}
use Rattle.ports.specs.Puts.{PutsPrefix}
use Rattle.ports.specs.Records.{got_records, input_records, output_bytes}
use Rattle.f66_tree.specs.World.{Record, Shown, End, Ended, GoesOn, Done, Stopped, Trapped, IsPrefix}
use Rattle.f66_program.specs.Linking.{Program}
use Rattle.record_intake.specs.Intakes.{MayCome, Gets, untouched}
use Rattle.record_flow.specs.Flows.{AreSteady}
use Rattle.runner.specs.declared.run.End.{End as TheEnd}
use Rattle.runner.specs.declared.run.End.TheVariants as ends
use Rattle.machine.specs.Runs.{IsRunOf, Executes, AsksForMore}

-- The units come to this end over the records of the bytes that were got and of all that may come behind them: nothing, where the
-- source has told its end, as it has where one record more than there are was asked for. What they write was put. Each read was made where
-- the units, over the records of what was got before, ask for one more.
pub record RunsWhole {S K : Type 0} (left : S → Option (List ℕ)) (puts : K → List ℕ → K → Type 0) (faults : S → ℕ) (failures : K → ℕ) (i0 i1 : S) (o0 o1 : K) (made : Program) (steps : ℕ) (end : End) (begun executed : ℕ) : Type 0 where
  pub got : List ℕ
  pub written : List Record
  pub ended : Bool
  pub consumes : Consumes (left i0) (left i1) got
  pub gets : Gets (AsksForMore made steps) i0 i1 untouched got
  pub at_end : ended ≡ true → IsAtEnd (left i1)
  pub told : (place : Place) → end ≡ Ended (Trapped EndOfInput place) → ended ≡ true
  pub sent : puts o0 (output_bytes written) o1
  pub steady : AreSteady faults failures i0 i1 o0 o1
  pub runs : (failed : Bool) (later : List ℕ) → MayCome ended failed later → IsRunOf made (got_records failed (got ++ later)) steps (record { records = written; end = end; work = begun })
  pub counts : (failed : Bool) (later : List ℕ) → MayCome ended failed later → Executes made (got_records failed (got ++ later)) steps (record { records = written; end = end; work = begun }) executed

-- a read has failed where the units, over the records that were got by then, ask for one more
pub record RunsCutOff {S K : Type 0} (left : S → Option (List ℕ)) (puts : K → List ℕ → K → Type 0) (faults : S → ℕ) (failures : K → ℕ) (i0 i1 : S) (o0 o1 : K) (made : Program) (steps begun executed : ℕ) : Type 0 where
  pub got : List ℕ
  pub written : List Record
  pub place : Place
  pub consumes : Consumes (left i0) (left i1) got
  pub gets : Gets (AsksForMore made steps) i0 i1 untouched got
  pub sent : puts o0 (output_bytes written) o1
  pub input : Rose (faults i0) (faults i1)
  pub out : failures o1 ≡ failures o0
  pub runs : IsRunOf made (got_records true got) steps (record { records = written; end = Ended (Trapped EndOfInput place); work = begun })
  pub counts : Executes made (got_records true got) steps (record { records = written; end = Ended (Trapped EndOfInput place); work = begun }) executed

-- a put has failed, of records with which those begin that the units write over what was got, at least one
pub record RunsBrokenOff {S K : Type 0} (left : S → Option (List ℕ)) (puts : K → List ℕ → K → Type 0) (faults : S → ℕ) (failures : K → ℕ) (i0 i1 : S) (o0 o1 : K) (made : Program) (steps : ℕ) : Type 0 where
  pub got : List ℕ
  pub written : List Record
  pub consumes : Consumes (left i0) (left i1) got
  pub gets : Gets (AsksForMore made steps) i0 i1 untouched got
  pub sent : PutsPrefix puts o0 (output_bytes written) o1
  pub wanted : written ≢ []
  pub input : faults i1 ≡ faults i0
  pub out : Rose (failures o0) (failures o1)
  pub some : (shown : Shown) × IsRunOf made (input_records got) steps shown
  pub begins : (shown : Shown) → IsRunOf made (input_records got) steps shown → IsPrefix written shown.records
  pub counts : (shown : Shown) → IsRunOf made (input_records got) steps shown → (executed : ℕ) × Executes made (input_records got) steps shown executed

-- what came in and went out by this end, before which so many statements began and so many instructions were executed
abbrev pub StreamsTo : {S K : Type 0} → (S → Option (List ℕ)) → (K → List ℕ → K → Type 0) → (S → ℕ) → (K → ℕ) → S → S → K → K → Program → ℕ → ℕ → ℕ → TheEnd → Type 0
StreamsTo left puts faults failures i0 i1 o0 o1 made steps begun executed ends.Done = RunsWhole left puts faults failures i0 i1 o0 o1 made steps (Ended Done) begun executed
StreamsTo left puts faults failures i0 i1 o0 o1 made steps begun executed (ends.Stopped n) = RunsWhole left puts faults failures i0 i1 o0 o1 made steps (Ended (Stopped n)) begun executed
StreamsTo left puts faults failures i0 i1 o0 o1 made steps begun executed (ends.Trapped t p) = RunsWhole left puts faults failures i0 i1 o0 o1 made steps (Ended (Trapped t p)) begun executed
StreamsTo left puts faults failures i0 i1 o0 o1 made steps begun executed ends.StepLimit = RunsWhole left puts faults failures i0 i1 o0 o1 made steps GoesOn begun executed
StreamsTo left puts faults failures i0 i1 o0 o1 made steps begun executed ends.InputFault = RunsCutOff left puts faults failures i0 i1 o0 o1 made steps begun executed
StreamsTo left puts faults failures i0 i1 o0 o1 made steps begun executed ends.OutputFault = RunsBrokenOff left puts faults failures i0 i1 o0 o1 made steps
