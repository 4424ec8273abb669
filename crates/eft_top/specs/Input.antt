-- What the reads of a run have given, and what is known of the input behind that. A run reads only where it asks for a record, so it
-- seldom reads all of its input.
use Rattle.std.specs.Prelude.{◌≡◌, ℕ, Bool, true, false, List, [], ◌++◌}
use Rattle.std.specs.Io.KnownBytes.{Consumes, IsAtEnd}
use Rattle.std.specs.declared.option.Option.{Option}
use Rattle.ports.specs.Causes.{Rose}
use Rattle.ports.specs.Records.{got_records}
use Rattle.f66_tree.specs.World.{Record}
use Rattle.record_intake.specs.Intakes.{joined}

-- nothing is known of what is behind; or the source has told that nothing is; or a read of it has failed
pub data Behind : Type 0 where
  Unread : Behind
  Nothing : Behind
  Broken : Behind

abbrev pub is_broken : Behind → Bool
is_broken Broken = true
is_broken _ = false

-- the bytes, what is behind them, and the pieces in which they came, one for each read
pub record Got : Type 0 where
  pub bytes : List ℕ
  pub behind : Behind
  pub pieces : List (List ℕ)

-- what may come behind, and whether a read fails there
abbrev pub MayCome : Behind → Bool → List ℕ → Type 0
MayCome Unread failed later = Unit {0}
MayCome Nothing failed later = (failed ≡ false) × (later ≡ [])
MayCome Broken failed later = (failed ≡ true) × (later ≡ [])

-- P holds of the records of each input that begins with these bytes and goes on as it may
abbrev pub OfEach : Got → (List Record → Type 0) → Type 0
OfEach got P = (failed : Bool) (later : List ℕ) → MayCome got.behind failed later → P (got_records failed (got.bytes ++ later))

-- these are the records of one of those inputs
abbrev pub MayHave : Got → List Record → Type 0
MayHave got records = (failed : Bool) × (later : List ℕ) × MayCome got.behind failed later × (records ≡ got_records failed (got.bytes ++ later))

-- a read that failed has raised the count, and else it is as it was
abbrev pub Counts : Behind → ℕ → ℕ → Type 0
Counts Broken before now = Rose before now
Counts _ before now = now ≡ before

-- The reads of a call gave this. Where the source tells its bytes, those that were left before the call are these, followed
-- by those that are left after it. Where there was no read the source is as it was.
pub record HasGot {S : Type 0} (left : S → Option (List ℕ)) (before after : S) (got : Got) : Type 0 where
  pub bytes : Consumes (left before) (left after) got.bytes
  pub all : joined got.pieces ≡ got.bytes
  pub idle : got.pieces ≡ [] → after ≡ before

-- the same, with what is known of what is behind
pub record HasGiven {S : Type 0} (left : S → Option (List ℕ)) (faults : S → ℕ) (before after : S) (got : Got) : Type 0 where
  pub reads : HasGot left before after got
  pub counts : Counts got.behind (faults before) (faults after)
  pub end : got.behind ≡ Nothing → IsAtEnd (left after)

-- some bytes were read, or none
abbrev pub HasRead : Option (List ℕ) → Option (List ℕ) → Type 0
HasRead before after = (bytes : List ℕ) × Consumes before after bytes

-- there are no reads
abbrev pub is_unread : Got → Type 0
is_unread got = ⊥
