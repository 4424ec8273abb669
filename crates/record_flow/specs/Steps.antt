-- What a step with the records answers, and what came and went with it.
use Rattle.std.specs.Prelude.{◌≡◌, ◌≢◌, ℕ, Bool, true, false, List, [], ◌∷◌, ◌++◌, length, nat_le, Result, Ok, Err}
use Rattle.std.specs.declared.option.Option.{Option}
use Rattle.ground.specs.declared.trap.Trap.{Trap}
use Rattle.ground.specs.declared.trap.Trap.TheVariants.{EndOfInput}
use Rattle.f66_tree.specs.declared.editing.Way.{Way}
use Rattle.f66_tree.specs.declared.editing.Way.TheVariants.{Writing}
use Rattle.f66_tree.specs.Fields.{Fields}
use Rattle.f66_tree.specs.Turns.{Hand, with_record}
use Rattle.f66_tree.specs.Editing.{Files, Break, next_record, changed_by}
use Rattle.f66_tree.specs.World.{Record, Tape, Move, Moves, Breaks, AfterMove, IsPrefix}
use Rattle.f66_tree.specs.Records.{opened}
use Rattle.format_io.specs.Places.{Stand, hand_of}
use Rattle.ports.specs.Causes.{Rose}
use Rattle.ports.specs.Puts.{PutsPrefix}
use Rattle.ports.specs.Records.{output_bytes}
use Rattle.record_intake.specs.Intakes.{IsNone, IsCut}
use Rattle.record_flow.specs.declared.flow.Stop.{Stop}
use Rattle.record_flow.specs.declared.flow.Stop.TheVariants.{Trapped, Input, Output}
use Rattle.record_flow.specs.Flows.{State, files, tape, MayFollow, Reads, Flows, AreSteady}

-- ---- one record ----

-- the next record comes in place of the one in hand
abbrev pub IsFetched : {S : Type 0} → (S → Option (List ℕ)) → (S → ℕ) → S → S → State → State → Result (Unit {0}) Stop → Type 0
IsFetched left faults i0 i1 old new (Ok u) =
    (r : Record) × Reads left IsNone i0 i1 old.intake new.intake (r ∷ []) × (faults i1 ≡ faults i0) × (nat_le (length r) 65535 ≡ true) × ((fs : Fields) → hand_of fs new.stand ≡ with_record (hand_of fs old.stand) r)
IsFetched left faults i0 i1 old new (Err (Trapped e)) = Reads left IsNone i0 i1 old.intake new.intake [] × (faults i1 ≡ faults i0) × ((unread : List Record) (f : Files) → MayFollow new.intake unread → next_record unread f ≡ Err e)
IsFetched left faults i0 i1 old new (Err Input) = Reads left IsNone i0 i1 old.intake new.intake [] × Rose (faults i0) (faults i1) × IsCut new.intake
IsFetched left faults i0 i1 old new (Err Output) = ⊥

-- over these records alone the next one is lacking
abbrev pub LacksRecord : Stand → List Record → Type 0
LacksRecord s records = (fs : Fields) (written : List Record) → changed_by s.way (hand_of fs s) (files records written) ≡ Err EndOfInput

-- the record in hand goes out, or the next one comes in
abbrev pub IsChanged : {S K : Type 0} → (S → Option (List ℕ)) → (K → List ℕ → K → Type 0) → (S → ℕ) → (K → ℕ) → S → S → K → K → State → State → Result (Unit {0}) Stop → Type 0
IsChanged left puts faults failures i0 i1 o0 o1 old new (Ok u) =
    (taken : List Record) × (put : List Record) × Flows left puts (LacksRecord old.stand) i0 i1 o0 o1 old.intake new.intake taken put × AreSteady faults failures i0 i1 o0 o1
    × ((fs : Fields) (unread written : List Record) → changed_by old.stand.way (hand_of fs old.stand) (files (taken ++ unread) written) ≡ Ok (hand_of fs new.stand, files unread (written ++ put)))
IsChanged left puts faults failures i0 i1 o0 o1 old new (Err (Trapped e)) =
    Flows left puts (LacksRecord old.stand) i0 i1 o0 o1 old.intake new.intake [] [] × AreSteady faults failures i0 i1 o0 o1
    × ((fs : Fields) (unread written : List Record) → MayFollow new.intake unread → changed_by old.stand.way (hand_of fs old.stand) (files unread written) ≡ Err e)
IsChanged left puts faults failures i0 i1 o0 o1 old new (Err Input) =
    Flows left puts (LacksRecord old.stand) i0 i1 o0 o1 old.intake new.intake [] [] × Rose (faults i0) (faults i1) × (failures o1 ≡ failures o0) × IsCut new.intake
    × ((fs : Fields) (written : List Record) → changed_by old.stand.way (hand_of fs old.stand) (files [] written) ≡ Err EndOfInput)
IsChanged left puts faults failures i0 i1 o0 o1 old new (Err Output) =
    Reads left (LacksRecord old.stand) i0 i1 old.intake new.intake [] × PutsPrefix puts o0 (output_bytes (old.stand.line ∷ [])) o1 × (faults i1 ≡ faults i0) × Rose (failures o0) (failures o1) × (old.stand.way ≡ Writing)

-- ---- a turn ----

-- a walk over the edits, with the records that it moves
abbrev pub Walk : Type 0
Walk = Tape → Result (Hand × Files) Break

-- the walk goes on from here, with these records taken and those put meanwhile
abbrev pub GoesOn : Walk → Fields → Stand → Stand → List Record → List Record → Type 0
GoesOn walk fs old new taken put = (unread written : List Record) → walk (tape fs old (taken ++ unread) written) ≡ walk (tape fs new unread (written ++ put))

-- over these records alone one is lacking on the walk
abbrev pub LacksOnWalk : Walk → Fields → Stand → List Record → Type 0
LacksOnWalk walk fs s records = (written : List Record) → (f : Files) × (walk (tape fs s records written) ≡ Err (EndOfInput, f))

-- one turn of the walk: it is at its end, or goes on
abbrev pub IsTurned : {S K : Type 0} → (S → Option (List ℕ)) → (K → List ℕ → K → Type 0) → (S → ℕ) → (K → ℕ) → S → S → K → K → Walk → Fields → State → State → Result Bool Stop → Type 0
IsTurned left puts faults failures i0 i1 o0 o1 walk fs old new (Ok true) =
    Flows left puts (LacksOnWalk walk fs old.stand) i0 i1 o0 o1 old.intake new.intake [] [] × AreSteady faults failures i0 i1 o0 o1 × ((unread written : List Record) → walk (tape fs old.stand unread written) ≡ Ok (hand_of fs new.stand, files unread written))
IsTurned left puts faults failures i0 i1 o0 o1 walk fs old new (Ok false) =
    (taken : List Record) × (put : List Record) × Flows left puts (LacksOnWalk walk fs old.stand) i0 i1 o0 o1 old.intake new.intake taken put × AreSteady faults failures i0 i1 o0 o1 × GoesOn walk fs old.stand new.stand taken put
IsTurned left puts faults failures i0 i1 o0 o1 walk fs old new (Err (Trapped e)) =
    Flows left puts (LacksOnWalk walk fs old.stand) i0 i1 o0 o1 old.intake new.intake [] [] × AreSteady faults failures i0 i1 o0 o1
    × ((unread written : List Record) → MayFollow new.intake unread → walk (tape fs old.stand unread written) ≡ Err (e, files unread written))
IsTurned left puts faults failures i0 i1 o0 o1 walk fs old new (Err Input) =
    Flows left puts (LacksOnWalk walk fs old.stand) i0 i1 o0 o1 old.intake new.intake [] [] × Rose (faults i0) (faults i1) × (failures o1 ≡ failures o0) × IsCut new.intake
    × ((written : List Record) → walk (tape fs old.stand [] written) ≡ Err (EndOfInput, files [] written))
IsTurned left puts faults failures i0 i1 o0 o1 walk fs old new (Err Output) =
    (line : Record) × (mid : Stand) × Reads left (LacksOnWalk walk fs old.stand) i0 i1 old.intake new.intake [] × PutsPrefix puts o0 (output_bytes (line ∷ [])) o1 × (faults i1 ≡ faults i0) × Rose (failures o0) (failures o1) × GoesOn walk fs old.stand mid [] (line ∷ [])

-- where the walk goes on
abbrev pub IfGoesOn : Result Bool Stop → Type 0 → Type 0
IfGoesOn (Ok false) P = P
IfGoesOn _ P = Unit {0}

-- ---- a whole step ----

-- a trap, by which time these records were written
abbrev pub IsBrokenAt : Move → Trap → List Record → Type 0
IsBrokenAt m e written = (t : Tape) × (m ≡ Breaks e t) × (t.written ≡ written)

-- over these records alone one is lacking in the step
abbrev pub LacksInStep : (Tape → Move) → Fields → Stand → List Record → Type 0
LacksInStep move fs s records = (written : List Record) → (t : Tape) × (move (tape fs s records written) ≡ Breaks EndOfInput t)

-- a step goes well, or is trapped; or a read failed where it asked for a record, or a put of what it writes, which is some record
abbrev pub IsStep : {S K : Type 0} → (S → Option (List ℕ)) → (K → List ℕ → K → Type 0) → (S → ℕ) → (K → ℕ) → S → S → K → K → (Tape → Move) → Fields → State → State → Result (Unit {0}) Stop → Type 0
IsStep left puts faults failures i0 i1 o0 o1 move fs old new (Ok u) =
    (taken : List Record) × (put : List Record) × Flows left puts (LacksInStep move fs old.stand) i0 i1 o0 o1 old.intake new.intake taken put × AreSteady faults failures i0 i1 o0 o1
    × ((unread written : List Record) → move (tape fs old.stand (taken ++ unread) written) ≡ Moves (tape fs new.stand unread (written ++ put)))
IsStep left puts faults failures i0 i1 o0 o1 move fs old new (Err (Trapped e)) =
    (taken : List Record) × (put : List Record) × Flows left puts (LacksInStep move fs old.stand) i0 i1 o0 o1 old.intake new.intake taken put × AreSteady faults failures i0 i1 o0 o1
    × ((unread written : List Record) → MayFollow new.intake unread → IsBrokenAt (move (tape fs old.stand (taken ++ unread) written)) e (written ++ put))
IsStep left puts faults failures i0 i1 o0 o1 move fs old new (Err Input) =
    (taken : List Record) × (put : List Record) × Flows left puts (LacksInStep move fs old.stand) i0 i1 o0 o1 old.intake new.intake taken put × Rose (faults i0) (faults i1) × (failures o1 ≡ failures o0) × IsCut new.intake
    × ((written : List Record) → IsBrokenAt (move (tape fs old.stand (taken ++ []) written)) EndOfInput (written ++ put))
IsStep left puts faults failures i0 i1 o0 o1 move fs old new (Err Output) =
    (taken : List Record) × (put : List Record) × Reads left (LacksInStep move fs old.stand) i0 i1 old.intake new.intake taken × PutsPrefix puts o0 (output_bytes put) o1 × (faults i1 ≡ faults i0) × Rose (failures o0) (failures o1)
    × ((unread written : List Record) → AfterMove (λ t. IsPrefix (written ++ put) t.written) (move (tape fs old.stand (taken ++ unread) written)))
    × (put ≢ [])

-- over these records alone the first one of a statement is lacking
abbrev pub LacksFirst : Way → Fields → List Record → Type 0
LacksFirst way fs records = (hand : Hand) (written : List Record) → (t : Tape) × (opened way fs (record { unread = records; written = written; hand = hand }) ≡ Breaks EndOfInput t)

-- a statement begins, whatever statement was before it
abbrev pub IsOpened : {S : Type 0} → (S → Option (List ℕ)) → (S → ℕ) → S → S → Way → Fields → State → State → Result (Unit {0}) Stop → Type 0
IsOpened left faults i0 i1 way fs old new (Ok u) =
    (taken : List Record) × Reads left (LacksFirst way fs) i0 i1 old.intake new.intake taken × (faults i1 ≡ faults i0)
    × ((hand : Hand) (unread written : List Record) → opened way fs (record { unread = taken ++ unread; written = written; hand = hand }) ≡ Moves (tape fs new.stand unread written))
IsOpened left faults i0 i1 way fs old new (Err (Trapped e)) =
    Reads left (LacksFirst way fs) i0 i1 old.intake new.intake [] × (faults i1 ≡ faults i0)
    × ((hand : Hand) (unread written : List Record) → MayFollow new.intake unread → opened way fs (record { unread = unread; written = written; hand = hand }) ≡ Breaks e (record { unread = unread; written = written; hand = hand }))
IsOpened left faults i0 i1 way fs old new (Err Input) =
    Reads left (LacksFirst way fs) i0 i1 old.intake new.intake [] × Rose (faults i0) (faults i1) × IsCut new.intake
    × ((hand : Hand) (written : List Record) → opened way fs (record { unread = []; written = written; hand = hand }) ≡ Breaks EndOfInput (record { unread = []; written = written; hand = hand }))
IsOpened left faults i0 i1 way fs old new (Err Output) = ⊥
