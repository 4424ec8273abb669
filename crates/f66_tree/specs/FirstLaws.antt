-- Laws of the store and of editing.
use Rattle.std.specs.Prelude.{◌++◌, ⊤, ◌≡◌, ◌≢◌, ℕ, List}
use Rattle.std.specs.Prelude.{All}
use Rattle.ground.specs.declared.value.Kind.{Kind}
use Rattle.ground.specs.Content.{Content, Nothing}
use Rattle.f66_tree.specs.declared.editing.Way.{Way}
use Rattle.f66_tree.specs.Fields.{Fields}
use Rattle.ground.specs.declared.trap.Trap.TheVariants.{EndOfInput}
use Rattle.f66_tree.specs.World.{Record, Try, Yields, Traps, Fails, Move, Moves, Breaks, Misses, AfterMove, Store, put_in, fresh, Tape, IfYields, IsPrefix}
use Rattle.f66_tree.specs.Records.{opened, due, put, take, closed}

-- a store holds what was put into a unit last, and nothing where nothing was put
pub record StoreKeeps : Type 0 where
  pub same : (p : ℕ) (c : Content) (st : Store) → put_in p c st p ≡ c
  pub other : (p q : ℕ) (c : Content) (st : Store) → q ≢ p → put_in p c st q ≡ st q
  pub fresh : (presets : List (ℕ × Content)) (q : ℕ) → All (λ preset. q ≢ preset.0) presets → fresh presets q ≡ Nothing

-- the records written are still there
abbrev pub Keeps : Tape → Tape → Type 0
Keeps t t1 = IsPrefix t.written t1.written

-- each step of editing leaves the records that were written, also where it traps
pub record RecordsStay : Type 0 where
  pub opens : (way : Way) (fs : Fields) (t : Tape) → AfterMove (Keeps t) (opened way fs t)
  pub dues : (k : Kind) (t : Tape) → AfterMove (Keeps t) (due k t)
  pub puts : (c : Content) (t : Tape) → AfterMove (Keeps t) (put c t)
  pub takes : (t : Tape) → IfYields (λ x. Keeps t x.1) (take t)
  pub closes : (t : Tape) → AfterMove (Keeps t) (closed t)

-- a tape with more records of input behind its own
abbrev pub longer : List Record → Tape → Tape
longer more t = record { unread = t.unread ++ more; written = t.written; hand = t.hand }

-- what a step does with more records behind: the same, unless it asked for a record that was not there
abbrev pub Unasked : List Record → Move → Move → Type 0
Unasked more (Moves t) m = m ≡ Moves (longer more t)
Unasked more (Breaks EndOfInput t) m = ⊤
Unasked more (Breaks e t) m = m ≡ Breaks e (longer more t)
Unasked more Misses m = m ≡ Misses

-- a step that takes a content from the record in hand asks for no other
abbrev pub SameTake : List Record → Try (Content × Tape) → Try (Content × Tape) → Type 0
SameTake more (Yields x) o = o ≡ Yields (x.0, longer more x.1)
SameTake more (Traps e) o = o ≡ Traps e
SameTake more Fails o = o ≡ Fails

-- records that a step of editing does not ask for change nothing of it
pub record RecordsUnasked : Type 0 where
  pub opens : (more : List Record) (way : Way) (fs : Fields) (t : Tape) → Unasked more (opened way fs t) (opened way fs (longer more t))
  pub dues : (more : List Record) (k : Kind) (t : Tape) → Unasked more (due k t) (due k (longer more t))
  pub puts : (more : List Record) (c : Content) (t : Tape) → Unasked more (put c t) (put c (longer more t))
  pub takes : (more : List Record) (t : Tape) → SameTake more (take t) (take (longer more t))
  pub closes : (more : List Record) (t : Tape) → Unasked more (closed t) (closed (longer more t))
