-- A run of a runner of linked units is the units' own.
use Rattle.std.proofs.Common.{◌≡◌, ◌<◌, ◌-◌, ℕ, Bool, true, false, List, ◌++◌, refl, sym, subst, arith}
use Rattle.std.specs.Prelude.{Option}
use Rattle.ground.specs.declared.place.Place.{Place}
use Rattle.ground.specs.declared.trap.Trap.TheVariants.{EndOfInput}
use Rattle.ports.specs.Records.{got_records, input_records}
use Rattle.f66_tree.specs.World.{Record, Shown, End, Ended, Trapped}
use Rattle.f66_program.specs.Linking.{Program}
use Rattle.stack_code.specs.declared.valid.Code.{Code}
use Rattle.runner.specs.declared.run.End.{End as TheEnd}
use Rattle.runner.specs.declared.run.End.TheVariants as ends
use Rattle.runner.specs.declared.runner.Runner.{Runner}
use Rattle.stack_code.specs.StackMachine.{Runs}
use Rattle.runner.specs.Running.{program, bounded, RunsTo, Wants}
use Rattle.record_intake.specs.Intakes.{MayCome}
use Rattle.record_intake.proofs.Asking.{gets_by}
use Rattle.runner.specs.Endings.{IsWhole, IsCutOff, IsBrokenOff, IsEnd}
use Rattle.runner.specs.Runners.{IsFresh, IsRun, IsRunFrom, IsFirst}
use Rattle.machine.specs.Runs.{IsRunOf, Codes, Executes, AsksForMore}
use Rattle.machine.specs.Streams.{RunsWhole, RunsCutOff, RunsBrokenOff, StreamsTo}
use Rattle.machine.specs.Loading.{IsLoaded}
use Rattle.machine.proofs.LongInputs.{long_never_ends, letters, later_long}

-- a fresh runner of their code is loaded
pub loaded : (made : Program) (steps : ℕ) (code : Code) (r : Runner) → Codes made code → IsFresh code steps r → IsLoaded made steps r
loaded made steps code r codes fresh = record {
  codes = subst (Codes made) (sym fresh.same) codes;
  fresh = subst (λ (c : Code). IsFresh c steps r) (sym fresh.same) fresh;
}

module _ {S K : Type 0} (left : S → Option (List ℕ)) (puts : K → List ℕ → K → Type 0) (faults : S → ℕ) (failures : K → ℕ) (i0 i1 : S) (o0 o1 : K) (made : Program) where
  module _ (code : Code) (codes : Codes made code) (steps rest executed begun : ℕ) (counts : begun ≡ steps - rest) where
    shows : (input : List Record) (written : List Record) (end : End) → RunsTo (program code) input steps written end rest executed → IsRunOf made input steps (record { records = written; end = end; work = begun })
    shows input written end h =
        subst (λ (work : ℕ). IsRunOf made input steps (record { records = written; end = end; work = work })) (sym counts)
        (codes.runs input steps (record { records = written; end = end; work = steps - rest }) h.count h.runs)

    counts_of : (input : List Record) (written : List Record) (end : End) → RunsTo (program code) input steps written end rest executed → Executes made input steps (record { records = written; end = end; work = begun }) executed
    counts_of input written end h = record {
      code = code;
      codes = codes;
      count = h.count;
      runs = subst (λ (work : ℕ). Runs (program code) input steps (record { records = written; end = end; work = work }) h.count) (sym counts) h.runs;
      is = h.executed;
    }

    asks_more : (input : List Record) → Wants (program code) steps input → AsksForMore made steps input
    asks_more input w =
        let shown : Shown = record { records = w.records; end = Ended (Trapped EndOfInput w.place); work = w.work } in
        record {
          shown = shown;
          executed = bounded w.count;
          place = w.place;
          runs = codes.runs input steps shown w.count w.runs;
          counts = record { code = code; codes = codes; count = w.count; runs = w.runs; is = refl };
          end = refl;
        }

    -- A run that may still get anything is not at the end of its input: over a record that is too long it would be trapped before.
    told_end : (got : List ℕ) (written : List Record) (end : End) (ended : Bool) → ((failed : Bool) (later : List ℕ) → MayCome ended failed later → RunsTo (program code) (got_records failed (got ++ later)) steps written end rest executed) → (place : Place) → end ≡ Ended (Trapped EndOfInput place) → ended ≡ true
    told_end got written end true runs place is = refl
    told_end got written end false runs place is = by 65537 (omega arith)
      where
        by : (n : ℕ) → 65536 < n → false ≡ true
        by n many =
            let run = runs true (letters n) tt in
            absurd (long_never_ends (program code) (got_records true (got ++ letters n)) steps (record { records = written; end = end; work = steps - rest }) run.count (later_long got n many) run.runs place is)

    whole : (end : End) → IsWhole left puts faults failures i0 i1 o0 o1 code steps end rest executed → RunsWhole left puts faults failures i0 i1 o0 o1 made steps end begun executed
    whole end h = record {
      got = h.got;
      written = h.written;
      ended = h.ended;
      consumes = h.consumes;
      gets = gets_by asks_more h.gets;
      at_end = h.at_end;
      told = told_end h.got h.written end h.ended h.runs;
      sent = h.sent;
      steady = h.steady;
      runs = λ failed later may. shows (got_records failed (h.got ++ later)) h.written end (h.runs failed later may);
      counts = λ failed later may. counts_of (got_records failed (h.got ++ later)) h.written end (h.runs failed later may);
    }

    cut_off : IsCutOff left puts faults failures i0 i1 o0 o1 code steps rest executed → RunsCutOff left puts faults failures i0 i1 o0 o1 made steps begun executed
    cut_off h = record {
      got = h.got;
      written = h.written;
      place = h.place;
      consumes = h.consumes;
      gets = gets_by asks_more h.gets;
      sent = h.sent;
      input = h.input;
      out = h.out;
      runs = shows _ h.written _ h.runs;
      counts = counts_of _ h.written _ h.runs;
    }

    broken_off : IsBrokenOff left puts faults failures i0 i1 o0 o1 code steps → RunsBrokenOff left puts faults failures i0 i1 o0 o1 made steps
    broken_off h = record {
      got = h.got;
      written = h.written;
      consumes = h.consumes;
      gets = gets_by asks_more h.gets;
      sent = h.sent;
      wanted = h.some;
      input = h.input;
      out = h.out;
      some = codes.some (input_records h.got) steps;
      begins = λ shown is. let run = codes.all (input_records h.got) steps shown is in h.begins shown run.0 run.1;
      counts = λ shown is. let run = codes.all (input_records h.got) steps shown is in (bounded run.0, record { code = code; codes = codes; count = run.0; runs = run.1; is = refl });
    }

    streams : (e : TheEnd) → IsEnd left puts faults failures i0 i1 o0 o1 code steps rest executed e → StreamsTo left puts faults failures i0 i1 o0 o1 made steps begun executed e
    streams ends.Done h = whole _ h
    streams (ends.Stopped n) h = whole _ h
    streams (ends.Trapped t p) h = whole _ h
    streams ends.StepLimit h = whole _ h
    streams ends.InputFault h = cut_off h
    streams ends.OutputFault h = broken_off h

  pub loaded_runs : (steps : ℕ) (old new : Runner) (e : TheEnd) → IsLoaded made steps old → IsRun left puts faults failures i0 i1 o0 o1 old new e → StreamsTo left puts faults failures i0 i1 o0 o1 made steps new.begun new.executed e
  loaded_runs steps old new e loaded run =
      let first : IsFirst left puts faults failures i0 i1 o0 o1 old new e = subst (λ (end : Option TheEnd). IsRunFrom left puts faults failures i0 i1 o0 o1 end old new e) loaded.fresh.none run in
      subst (λ (n : ℕ). StreamsTo left puts faults failures i0 i1 o0 o1 made n new.begun new.executed e) loaded.fresh.limit
      (streams old.code loaded.codes old.steps first.rest new.executed new.begun first.begun e first.runs)
