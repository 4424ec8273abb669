-- What an instruction does that has to do with records, over a source and a sink.
use Rattle.std.specs.Prelude.{◌≡◌, ◌≢◌, ℕ, ◌-◌, ◌≤◌, ◌<◌, ◌++◌, Bool, true, false, List, [], length, Option, Some, None, Result, Ok, Err, slice_get}
use Rattle.ground.specs.declared.trap.Trap.{Trap}
use Rattle.ground.specs.declared.trap.Trap.TheVariants.{EndOfInput, BadUnit}
use Rattle.f66_tree.specs.declared.editing.Way.{Way}
use Rattle.f66_tree.specs.Fields.{Fields}
use Rattle.f66_tree.specs.Turns.{Hand, is_over}
use Rattle.f66_tree.specs.World.{Record, Tape, Store, State, World, Trapped, Ended, Out, Gives, Halts, bind, Move, IsPrefix}
use Rattle.f66_tree.specs.Statements.{taped, opened_by}
use Rattle.format_io.specs.Places.{Stand as Standing, hand_of}
use Rattle.ports.specs.Causes.{Rose}
use Rattle.ports.specs.Puts.{PutsPrefix}
use Rattle.ports.specs.Records.{output_bytes}
use Rattle.record_intake.specs.Intakes.{IsCut}
use Rattle.record_flow.specs.declared.flow.Stop.{Stop}
use Rattle.record_flow.specs.declared.flow.Stop.TheVariants as stops
use Rattle.record_flow.specs.Flows as flows
use Rattle.record_flow.specs.Flows.{MayFollow, Reads, Flows, AreSteady}
use Rattle.stack_code.specs.Instructions.{Instruction, Start}
use Rattle.stack_code.specs.StackMachine.{Entry, Core, act, next}
use Rattle.stack_code.specs.ValidCode.{Open, opens}
use Rattle.runner.specs.declared.words.Word.{Word}
use Rattle.runner.specs.declared.words.Cell.{Cell}
use Rattle.runner.specs.Words.{Stand, Agrees, pile_of}
use Rattle.runner.specs.Work.{IsFine}

-- the records that are unread, those that were written, and the statement that reads or writes
abbrev pub tape_at : Hand → List Record → List Record → Tape
tape_at hand written unread = record { unread = unread; written = written; hand = hand }

-- the Flow is at this statement, with the hand that the machine has
pub record IsInHand (plans : List Fields) (plan n : ℕ) (way : Way) (hand : Hand) (stand : Standing) : Type 0 where
  pub number : n ≡ plan
  pub fields : Fields
  pub there : slice_get plans plan ≡ Some fields
  pub is : hand ≡ hand_of fields stand
  pub way_is : stand.way ≡ way
  pub going : is_over stand.mark ≡ false

abbrev pub InHand : List Fields → Open → Hand → Standing → ℕ → Type 0
InHand plans None hand stand plan = Unit {0}
InHand plans (Some p) hand stand plan = IsInHand plans plan p.0 p.1 hand stand

-- a state of the machine for which an instruction goes right, and what stands for it
pub record Faces (plans : List Fields) (j : Instruction) (buffer : List Word) (top : ℕ) (cells : List Cell) (tape : Tape) (s : Core) (w : World) : Type 0 where
  pub stand : Stand s.stack (pile_of buffer top)
  pub agrees : Agrees cells w.state.store
  pub taped : w.state.tape ≡ tape
  pub fine : IsFine (act plans (Some j) s w)

-- the next instruction comes, over this stack and store and these records
pub record MovesTo (o : Out Core) (s : Core) (w : World) (pile : List Word) (cells : List Cell) (tape : Tape) : Type 0 where
  pub stack : List Entry
  pub store : Store
  pub is : o ≡ Gives (next s stack) (record { state = record { store = store; tape = tape }; left = w.left; count = w.count })
  pub stand : Stand stack pile
  pub agrees : Agrees cells store

-- the run is trapped, by which time these records were written
pub record TripsOver (o : Out Core) (s : Core) (w : World) (e : Trap) (written : List Record) : Type 0 where
  pub state : State
  pub is : o ≡ Halts (Ended (Trapped e s.frame.place)) (record { state = state; left = w.left; count = w.count })
  pub shows : state.tape.written ≡ written

-- these records are written, however it goes on
abbrev pub HasWritten : List Record → Out Core → Type 0
HasWritten ws (Gives s w) = IsPrefix ws w.state.tape.written
HasWritten ws (Halts e w) = IsPrefix ws w.state.tape.written

-- over these records alone one is lacking for the instruction
abbrev pub LacksAct : List Fields → Instruction → Hand → List Word → ℕ → List Cell → List Record → Type 0
LacksAct plans j hand buffer top cells records =
    (s : Core) (w : World) (written : List Record) → Faces plans j buffer top cells (tape_at hand written records) s w → (ws : List Record) × TripsOver (act plans (Some j) s w) s w EndOfInput ws

-- the instruction goes on, with this statement open; or it is trapped, or a read or a put fails
abbrev pub IsActed : {S K : Type 0} → (S → Option (List ℕ)) → (K → List ℕ → K → Type 0) → (S → ℕ) → (K → ℕ) → S → S → K → K → List Fields → Instruction → Open → Hand → flows.State → flows.State → List Word → ℕ → List Cell → List Word → List Cell → Result (ℕ × ℕ) Stop → Type 0
IsActed left puts faults failures i0 i1 o0 o1 plans j after hand old new buffer top cells buffer1 cells1 (Ok r) =
    (taken : List Record) × (put : List Record) × (hand1 : Hand) × Flows left puts (LacksAct plans j hand buffer top cells) i0 i1 o0 o1 old.intake new.intake taken put × AreSteady faults failures i0 i1 o0 o1
    × InHand plans after hand1 new.stand r.1
    × ((s : Core) (w : World) (unread written : List Record) → Faces plans j buffer top cells (tape_at hand written (taken ++ unread)) s w → MovesTo (act plans (Some j) s w) s w (pile_of buffer1 r.0) cells1 (tape_at hand1 (written ++ put) unread))
IsActed left puts faults failures i0 i1 o0 o1 plans j after hand old new buffer top cells buffer1 cells1 (Err (stops.Trapped e)) =
    (taken : List Record) × (put : List Record) × Flows left puts (LacksAct plans j hand buffer top cells) i0 i1 o0 o1 old.intake new.intake taken put × AreSteady faults failures i0 i1 o0 o1
    × ((s : Core) (w : World) (unread written : List Record) → MayFollow new.intake unread → Faces plans j buffer top cells (tape_at hand written (taken ++ unread)) s w → TripsOver (act plans (Some j) s w) s w e (written ++ put))
IsActed left puts faults failures i0 i1 o0 o1 plans j after hand old new buffer top cells buffer1 cells1 (Err stops.Input) =
    (taken : List Record) × (put : List Record) × Flows left puts (LacksAct plans j hand buffer top cells) i0 i1 o0 o1 old.intake new.intake taken put × Rose (faults i0) (faults i1) × (failures o1 ≡ failures o0) × IsCut new.intake
    × ((s : Core) (w : World) (written : List Record) → Faces plans j buffer top cells (tape_at hand written (taken ++ [])) s w → TripsOver (act plans (Some j) s w) s w EndOfInput (written ++ put))
IsActed left puts faults failures i0 i1 o0 o1 plans j after hand old new buffer top cells buffer1 cells1 (Err stops.Output) =
    (taken : List Record) × (put : List Record) × Reads left (LacksAct plans j hand buffer top cells) i0 i1 old.intake new.intake taken × PutsPrefix puts o0 (output_bytes put) o1 × (faults i1 ≡ faults i0) × Rose (failures o0) (failures o1)
    × ((s : Core) (w : World) (unread written : List Record) → Faces plans j buffer top cells (tape_at hand written (taken ++ unread)) s w → HasWritten (written ++ put) (act plans (Some j) s w))
    × (put ≢ [])

-- whatever statement is open where the instruction stands
abbrev pub Acts : {S K : Type 0} → (S → Option (List ℕ)) → (K → List ℕ → K → Type 0) → (S → ℕ) → (K → ℕ) → S → S → K → K → List Fields → Instruction → ℕ → flows.State → flows.State → List Word → ℕ → List Cell → List Word → List Cell → Result (ℕ × ℕ) Stop → Type 0
Acts left puts faults failures i0 i1 o0 o1 plans j plan old new buffer top cells buffer1 cells1 result =
    (among after : Open) (hand : Hand) → InHand plans among hand old.stand plan → opens j among ≡ Some after → IsActed left puts faults failures i0 i1 o0 o1 plans j after hand old new buffer top cells buffer1 cells1 result

abbrev pub HasPlan : Instruction → ℕ → Type 0
HasPlan (Start way n) plans = n < plans
HasPlan _ plans = Unit {0}

-- a record statement is open where the instruction needs one, and the format of one that begins is there
pub record MayAct (plans : List Fields) (j : Instruction) (plan : ℕ) (stand : Standing) : Type 0 where
  pub among : Open
  pub after : Open
  pub hand : Hand
  pub in_hand : InHand plans among hand stand plan
  pub opened : opens j among ≡ Some after
  pub plans_there : HasPlan j (length plans)

abbrev pub IsRoomOver : List Word → Result (ℕ × ℕ) Stop → Type 0
IsRoomOver buffer (Ok r) = r.0 ≤ length buffer
IsRoomOver buffer (Err e) = Unit {0}

-- ---- a statement begins ----

-- a step with the records decides what comes, with this stack if it goes on
pub record GoesBy (o : Out Core) (move : Tape → Move) (s : Core) (w : World) (pile : List Word) : Type 0 where
  pub stack : List Entry
  pub is : o ≡ bind (taped s.frame.place move w) (λ _ w1. Gives (next s stack) w1)
  pub stand : Stand stack pile

-- the unit is the right one, or it is not
abbrev pub IsUnitTest : List Fields → Way → ℕ → Core → World → List Word → ℕ → Bool → Type 0
IsUnitTest plans way n s w buffer top true = GoesBy (act plans (Some (Start way n)) s w) (opened_by way (slice_get plans n)) s w (pile_of buffer (top - 1))
IsUnitTest plans way n s w buffer top false = act plans (Some (Start way n)) s w ≡ Halts (Ended (Trapped BadUnit s.frame.place)) w

-- over these records alone the first one of the statement is lacking
abbrev pub LacksStart : Way → ℕ → Fields → List Word → ℕ → List Record → Type 0
LacksStart way n fs buffer top records =
    (plans : List Fields) (cells : List Cell) (s : Core) (w : World) (hand : Hand) (written : List Record) → slice_get plans n ≡ Some fs → Faces plans (Start way n) buffer top cells (tape_at hand written records) s w → (ws : List Record) × TripsOver (act plans (Some (Start way n)) s w) s w EndOfInput ws

-- a statement with these fields begins, whatever statement was before it
abbrev pub IsStarted : {S : Type 0} → (S → Option (List ℕ)) → (S → ℕ) → S → S → Way → ℕ → Fields → flows.State → flows.State → List Word → ℕ → Result (ℕ × ℕ) Stop → Type 0
IsStarted left faults i0 i1 way n fs old new buffer top (Ok r) =
    (taken : List Record) × Reads left (LacksStart way n fs buffer top) i0 i1 old.intake new.intake taken × (faults i1 ≡ faults i0)
    × ((plans : List Fields) (cells : List Cell) (s : Core) (w : World) (hand : Hand) (unread written : List Record) → slice_get plans n ≡ Some fs → Faces plans (Start way n) buffer top cells (tape_at hand written (taken ++ unread)) s w → MovesTo (act plans (Some (Start way n)) s w) s w (pile_of buffer r.0) cells (tape_at (hand_of fs new.stand) written unread))
IsStarted left faults i0 i1 way n fs old new buffer top (Err (stops.Trapped e)) =
    Reads left (LacksStart way n fs buffer top) i0 i1 old.intake new.intake [] × (faults i1 ≡ faults i0)
    × ((plans : List Fields) (cells : List Cell) (s : Core) (w : World) (hand : Hand) (unread written : List Record) → MayFollow new.intake unread → slice_get plans n ≡ Some fs → Faces plans (Start way n) buffer top cells (tape_at hand written unread) s w → TripsOver (act plans (Some (Start way n)) s w) s w e written)
IsStarted left faults i0 i1 way n fs old new buffer top (Err stops.Input) =
    Reads left (LacksStart way n fs buffer top) i0 i1 old.intake new.intake [] × Rose (faults i0) (faults i1) × IsCut new.intake
    × ((plans : List Fields) (cells : List Cell) (s : Core) (w : World) (hand : Hand) (written : List Record) → slice_get plans n ≡ Some fs → Faces plans (Start way n) buffer top cells (tape_at hand written []) s w → TripsOver (act plans (Some (Start way n)) s w) s w EndOfInput written)
IsStarted left faults i0 i1 way n fs old new buffer top (Err stops.Output) = ⊥
