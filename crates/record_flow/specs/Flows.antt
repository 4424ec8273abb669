-- The records that come from a source and go to a sink, and what is left of them.
use Rattle.std.specs.Prelude.{◌≡◌, ℕ, Bool, true, List, [], ◌++◌}
use Rattle.std.specs.declared.option.Option.{Option}
use Rattle.std.specs.Io.KnownBytes.{Consumes, IsAtEnd}
use Rattle.ports.specs.Records.{got_records, output_bytes}
use Rattle.f66_tree.specs.Fields.{Fields}
use Rattle.f66_tree.specs.Editing.{Files}
use Rattle.f66_tree.specs.World.{Record, Tape}
use Rattle.format_io.specs.Places.{Stand, hand_of}
use Rattle.record_intake.specs.Intakes.{Content, MayCome, Gets}

-- the bytes at hand, and the place of the statement in its format
pub record State : Type 0 where
  pub intake : Content
  pub stand : Stand

abbrev pub files : List Record → List Record → Files
files unread written = record { unread = unread; written = written }

-- the same as the definitions have it, where these records are unread and those were written
abbrev pub tape : Fields → Stand → List Record → List Record → Tape
tape fs s unread written = record { unread = unread; written = written; hand = hand_of fs s }

-- the records that are left may be these, by what comes later
pub record MayFollow (c : Content) (records : List Record) : Type 0 where
  pub failed : Bool
  pub later : List ℕ
  pub may : MayCome c.ended failed later
  pub is : records ≡ got_records failed (c.hand ++ later)

-- bytes were got, and these records were taken of them and of those at hand: whatever comes later, all records are these and the ones left
pub record Takes (old new : Content) (got : List ℕ) (taken : List Record) : Type 0 where
  pub records : (failed : Bool) (later : List ℕ) → MayCome new.ended failed later → got_records failed (old.hand ++ got ++ later) ≡ taken ++ got_records failed (new.hand ++ later)
  pub ended : old.ended ≡ true → (got ≡ []) × (new.ended ≡ true)

-- The same of a source, which gave those bytes where a record was asked for behind those that there were, and is at its end where it
-- has told so.
pub record Reads {S : Type 0} (left : S → Option (List ℕ)) (asks : List Record → Type 0) (input0 input1 : S) (old new : Content) (taken : List Record) : Type 0 where
  pub got : List ℕ
  pub takes : Takes old new got taken
  pub consumes : Consumes (left input0) (left input1) got
  pub gets : Gets asks input0 input1 old got
  pub at_end : (old.ended ≡ true → IsAtEnd (left input0)) → new.ended ≡ true → IsAtEnd (left input1)

-- these records were taken, and those were put
pub record Flows {S K : Type 0} (left : S → Option (List ℕ)) (puts : K → List ℕ → K → Type 0) (asks : List Record → Type 0) (input0 input1 : S) (out0 out1 : K) (old new : Content) (taken put : List Record) : Type 0 where
  pub reads : Reads left asks input0 input1 old new taken
  pub sent : puts out0 (output_bytes put) out1

-- no read and no put has failed
pub record AreSteady {S K : Type 0} (faults : S → ℕ) (failures : K → ℕ) (input0 input1 : S) (out0 out1 : K) : Type 0 where
  pub input : faults input1 ≡ faults input0
  pub out : failures out1 ≡ failures out0
