-- What an item of a READ or WRITE at a spot does, with the records and the store.
use Rattle.std.specs.Prelude.{◌≡◌, ◌≢◌, ℕ, ◌++◌, List, [], length, Result, Ok, Err, ⊤}
use Rattle.std.specs.declared.option.Option.{Option}
use Rattle.ground.specs.declared.place.Place.{Place}
use Rattle.ground.specs.declared.trap.Trap.{Trap}
use Rattle.ground.specs.declared.trap.Trap.TheVariants.{EndOfInput}
use Rattle.ground.specs.declared.value.Kind.{Kind}
use Rattle.ground.specs.declared.value.Value.{Value}
use Rattle.ground.specs.Content.{Content}
use Rattle.f66_tree.specs.declared.editing.Way.{Way}
use Rattle.f66_tree.specs.Fields.{Fields}
use Rattle.f66_tree.specs.World.{Record, Tape, Store, State, World, Trapped, Ended, Out, Gives, Halts, Try, Yields, Traps, IsPrefix}
use Rattle.format_io.specs.Places.{Stand as Standing}
use Rattle.ports.specs.Causes.{Rose}
use Rattle.ports.specs.Puts.{PutsPrefix}
use Rattle.ports.specs.Records.{output_bytes}
use Rattle.record_intake.specs.Intakes.{IsCut}
use Rattle.record_flow.specs.declared.flow.Stop.{Stop}
use Rattle.record_flow.specs.declared.flow.Stop.TheVariants as stops
use Rattle.record_flow.specs.Flows as flows
use Rattle.record_flow.specs.Flows.{tape, MayFollow, Reads, Flows, AreSteady}
use Rattle.record_flow.specs.Values.{content}
use Rattle.stack_code.specs.Safety.{IsRight, IsWithin}
use Rattle.stack_code.specs.StackMachine.{Spot, At, transfer}
use Rattle.runner.specs.declared.words.Word.{Word}
use Rattle.runner.specs.declared.words.Cell.{Cell}
use Rattle.runner.specs.Words.{Shows, Agrees}

-- a word is a spot of units of the store
pub record IsSpot (cells : List Cell) (word : Word) : Type 0 where
  pub spot : Spot
  pub shows : Shows (At spot) word
  pub within : IsWithin (length cells) spot

-- a value is what was asked for, or the trap is the same
abbrev pub IsAsked : Try Content → Result Value Trap → Type 0
IsAsked (Yields c) (Ok v) = c ≡ content v
IsAsked (Traps t) (Err e) = t ≡ e
IsAsked _ _ = ⊥

-- these cells stand for the store, or the trap is the same
abbrev pub IsSet : Try Store → List Cell → Result (Unit {0}) Trap → Type 0
IsSet (Yields st) cells (Ok u) = Agrees cells st
IsSet (Traps t) cells (Err e) = t ≡ e
IsSet _ cells _ = ⊥

-- it goes on with this store and these records
pub record Comes (o : Out ⊤) (w : World) (cells : List Cell) (t : Tape) : Type 0 where
  pub store : Store
  pub is : o ≡ Gives tt (record { state = record { store = store; tape = t }; left = w.left; count = w.count })
  pub agrees : Agrees cells store

-- the run is trapped in the statement at this place, by which time these records were written
pub record Trips (o : Out ⊤) (place : Place) (w : World) (e : Trap) (written : List Record) : Type 0 where
  pub state : State
  pub is : o ≡ Halts (Ended (Trapped e place)) (record { state = state; left = w.left; count = w.count })
  pub shows : state.tape.written ≡ written

abbrev pub GoesRight : Out ⊤ → Type 0
GoesRight o = IsRight (λ a. Unit {0}) o

abbrev pub IsTransfer : Out ⊤ → Place → World → List Cell → Tape → Result (Unit {0}) Trap → Type 0
IsTransfer o place w cells t (Ok u) = Comes o w cells t
IsTransfer o place w cells t (Err e) = Trips o place w e t.written

-- a content comes or goes by the edit that is due
abbrev pub Transfers : Way → Kind → Word → Standing → Standing → List Cell → List Cell → Result (Unit {0}) Trap → Type 0
Transfers way kind word old new cells cells1 result =
    (fs : Fields) (p : Spot) (place : Place) (w : World) (unread written : List Record) → Shows (At p) word → Agrees cells w.state.store → w.state.tape ≡ tape fs old unread written → GoesRight (transfer place way kind p w) → IsTransfer (transfer place way kind p w) place w cells1 (tape fs new unread written) result

-- ---- an item ----

-- a state of the world that these cells and records stand for, in which the step goes right
pub record Meets (go : World → Out ⊤) (cells : List Cell) (t : Tape) (w : World) : Type 0 where
  pub agrees : Agrees cells w.state.store
  pub taped : w.state.tape ≡ t
  pub right : GoesRight (go w)

-- these records are written, however it goes on
abbrev pub AreWritten : List Record → Out ⊤ → Type 0
AreWritten ws (Gives a w) = IsPrefix ws w.state.tape.written
AreWritten ws (Halts e w) = IsPrefix ws w.state.tape.written

-- over these records alone one is lacking for the step
abbrev pub LacksItem : (Spot → Place → World → Out ⊤) → Word → Fields → Standing → List Cell → List Record → Type 0
LacksItem go word fs stand cells records =
    (p : Spot) (place : Place) (w : World) (written : List Record) → Shows (At p) word → Meets (go p place) cells (tape fs stand records written) w → (ws : List Record) × Trips (go p place w) place w EndOfInput ws

-- a step with the records and the store goes on, or it is trapped, or a read or a put fails
abbrev pub IsExchange : {S K : Type 0} → (S → Option (List ℕ)) → (K → List ℕ → K → Type 0) → (S → ℕ) → (K → ℕ) → S → S → K → K → (Spot → Place → World → Out ⊤) → Word → Fields → flows.State → flows.State → List Cell → List Cell → Result (Unit {0}) Stop → Type 0
IsExchange left puts faults failures i0 i1 o0 o1 go word fs old new cells cells1 (Ok u) =
    (taken : List Record) × (put : List Record) × Flows left puts (LacksItem go word fs old.stand cells) i0 i1 o0 o1 old.intake new.intake taken put × AreSteady faults failures i0 i1 o0 o1
    × ((p : Spot) (place : Place) (w : World) (unread written : List Record) → Shows (At p) word → Meets (go p place) cells (tape fs old.stand (taken ++ unread) written) w → Comes (go p place w) w cells1 (tape fs new.stand unread (written ++ put)))
IsExchange left puts faults failures i0 i1 o0 o1 go word fs old new cells cells1 (Err (stops.Trapped e)) =
    (taken : List Record) × (put : List Record) × Flows left puts (LacksItem go word fs old.stand cells) i0 i1 o0 o1 old.intake new.intake taken put × AreSteady faults failures i0 i1 o0 o1
    × ((p : Spot) (place : Place) (w : World) (unread written : List Record) → MayFollow new.intake unread → Shows (At p) word → Meets (go p place) cells (tape fs old.stand (taken ++ unread) written) w → Trips (go p place w) place w e (written ++ put))
IsExchange left puts faults failures i0 i1 o0 o1 go word fs old new cells cells1 (Err stops.Input) =
    (taken : List Record) × (put : List Record) × Flows left puts (LacksItem go word fs old.stand cells) i0 i1 o0 o1 old.intake new.intake taken put × Rose (faults i0) (faults i1) × (failures o1 ≡ failures o0) × IsCut new.intake
    × ((p : Spot) (place : Place) (w : World) (written : List Record) → Shows (At p) word → Meets (go p place) cells (tape fs old.stand (taken ++ []) written) w → Trips (go p place w) place w EndOfInput (written ++ put))
IsExchange left puts faults failures i0 i1 o0 o1 go word fs old new cells cells1 (Err stops.Output) =
    (taken : List Record) × (put : List Record) × Reads left (LacksItem go word fs old.stand cells) i0 i1 old.intake new.intake taken × PutsPrefix puts o0 (output_bytes put) o1 × (faults i1 ≡ faults i0) × Rose (failures o0) (failures o1)
    × ((p : Spot) (place : Place) (w : World) (unread written : List Record) → Shows (At p) word → Meets (go p place) cells (tape fs old.stand (taken ++ unread) written) w → AreWritten (written ++ put) (go p place w))
    × (put ≢ [])
