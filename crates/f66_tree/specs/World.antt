-- What a run works on, and what a part of a run gives.
use Rattle.std.specs.Prelude.{◌≡◌, ◌++◌, ℕ, zero, suc, ◌+◌, Bool, true, false, nat_eq, List, [], ◌∷◌, Result, Ok, Err, if◌then◌else◌, ⊤}
use Rattle.ground.specs.declared.place.Place.{Place}
use Rattle.ground.specs.declared.trap.Trap.{Trap}
use Rattle.ground.specs.Content.{Content, Nothing}
use Rattle.f66_tree.specs.declared.editing.Way.TheVariants.{Reading}
use Rattle.f66_tree.specs.declared.editing.Mark.TheVariants.{Over}
use Rattle.f66_tree.specs.Turns.{Hand, hand_at}
use Rattle.f66_tree.specs.Editing.{Files}

-- a record of input or output, by its bytes
abbrev pub Record : Type 0
Record = List ℕ

-- the contents of the storage units, by their numbers
abbrev pub Store : Type 0
Store = ℕ → Content

abbrev pub put_in : ℕ → Content → Store → Store
put_in p c st q = if nat_eq q p then c else st q

-- a store that holds these contents and nothing else
abbrev pub fresh : List (ℕ × Content) → Store
fresh [] q = Nothing
fresh (preset ∷ presets) q = put_in preset.0 preset.1 (fresh presets) q

-- the records not yet read, those written, and the statement that reads or writes
pub record Tape : Type 0 where
  pub unread : List Record
  pub written : List Record
  pub hand : Hand

abbrev pub files_of : Tape → Files
files_of t = record { unread = t.unread; written = t.written }

abbrev pub tape_of : Hand → Files → Tape
tape_of h f = record { unread = f.unread; written = f.written; hand = h }

-- before the first statement that reads or writes
abbrev pub empty_hand : Hand
empty_hand = hand_at Reading [] [] [] Over

abbrev pub first_tape : List Record → Tape
first_tape input = record { unread = input; written = []; hand = empty_hand }

pub record State : Type 0 where
  pub store : Store
  pub tape : Tape

-- The state, how many statements may still begin, and how many began. In a source nothing is bounded by `left`,
-- and `count` is the work.
pub record World : Type 0 where
  pub state : State
  pub left : ℕ
  pub count : ℕ

-- how a run ends
pub data Finish : Type 0 where
  Done : Finish
  Stopped : ℕ → Finish
  Trapped : Trap → Place → Finish
  -- what sound and linked units never do: a value of the wrong type, a call of no unit, a format that is not there
  Wrong : Finish

-- How a bounded run ends. Lost is the end of a source that calls deeper than it has units, or leaves a loop or goes to a
-- label that is not there; of it nothing is claimed.
pub data End : Type 0 where
  Ended : Finish → End
  GoesOn : End
  Lost : End

-- what a part of a run gives: a result, or the run's end
pub data Out (A : Type 0) : Type 0 where
  Gives : A → World → Out A
  Halts : End → World → Out A

abbrev pub bind : {A B : Type 0} → Out A → (A → World → Out B) → Out B
bind (Gives a w) go = go a w
bind (Halts e w) go = Halts e w

-- what one operation gives: a result, a trap, or nothing where it was not given what it needs
pub data Try (A : Type 0) : Type 0 where
  Yields : A → Try A
  Traps : Trap → Try A
  Fails : Try A

abbrev pub then_try : {A B : Type 0} → Try A → (A → Try B) → Try B
then_try (Yields a) go = go a
then_try (Traps t) go = Traps t
then_try Fails go = Fails

-- what holds of the result, where there is one
abbrev pub IfYields : {A : Type 0} → (A → Type 0) → Try A → Type 0
IfYields P (Yields a) = P a
IfYields P (Traps t) = ⊤
IfYields P Fails = ⊤

abbrev pub lifted : {A : Type 0} → Result A Trap → Try A
lifted (Ok a) = Yields a
lifted (Err t) = Traps t

-- what a step with the records comes to: the records after it; a trap, with the records as they are by then; or nothing where it
-- was not given what it needs
pub data Move : Type 0 where
  Moves : Tape → Move
  Breaks : Trap → Tape → Move
  Misses : Move

-- what holds of the records after a step, one that ends in a trap too
abbrev pub AfterMove : (Tape → Type 0) → Move → Type 0
AfterMove P (Moves t) = P t
AfterMove P (Breaks e t) = P t
AfterMove P Misses = ⊤

-- an operation within the statement at this place
abbrev pub settle : {A : Type 0} → Place → Try A → World → Out A
settle p (Yields a) w = Gives a w
settle p (Traps t) w = Halts (Ended (Trapped t p)) w
settle p Fails w = Halts (Ended Wrong) w

abbrev pub choose : {A : Type 0} → Bool → A → A → A
choose true a b = a
choose false a b = b

-- a step of a source, which adds one to its work
abbrev pub counted : World → World
counted w = record { state = w.state; left = w.left; count = w.count + 1 }

-- a statement of a target begins, unless none may
abbrev pub take_from : State → ℕ → ℕ → Out ⊤
take_from st zero c = Halts GoesOn (record { state = st; left = 0; count = c })
take_from st (suc n) c = Gives tt (record { state = st; left = n; count = c + 1 })

abbrev pub take_one : World → Out ⊤
take_one w = take_from w.state w.left w.count

abbrev pub holding : Store → World → World
holding st w = record { state = record { store = st; tape = w.state.tape }; left = w.left; count = w.count }

abbrev pub taping : Tape → World → World
taping t w = record { state = record { store = w.state.store; tape = t }; left = w.left; count = w.count }

-- a step with the records within the statement at this place
abbrev pub moving : Place → Move → World → Out ⊤
moving p (Moves t) w = Gives tt (taping t w)
moving p (Breaks e t) w = Halts (Ended (Trapped e p)) (taping t w)
moving p Misses w = Halts (Ended Wrong) w

-- what a bounded run shows: the records written, the end, and the work or the count of statements begun
pub record Shown : Type 0 where
  pub records : List Record
  pub end : End
  pub work : ℕ

abbrev pub shown : Out ⊤ → Shown
shown (Gives a w) = record { records = w.state.tape.written; end = Ended Done; work = w.count }
shown (Halts e w) = record { records = w.state.tape.written; end = e; work = w.count }

-- the records of one run begin those of another
pub record IsPrefix (a b : List Record) : Type 0 where
  pub rest : List Record
  pub is : a ++ rest ≡ b
