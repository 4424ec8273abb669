-- What an intake has at hand, and what of it the first record is.
use Rattle.std.specs.Prelude.{◌≡◌, ℕ, ◌≤◌, ◌<◌, Bool, true, false, List, [], ◌∷◌, ◌++◌, length, take, drop}
use Rattle.ports.specs.Records.{got_records}
use Rattle.ports.specs.Causes.{Rose}
use Rattle.record_intake.specs.declared.intake.Found.{Found}
use Rattle.record_intake.specs.declared.intake.Found.TheVariants.{Record, Long, Nothing, Failed}

-- the bytes at hand, and whether the source has come to its end
pub record Content : Type 0 where
  pub hand : List ℕ
  pub ended : Bool

-- what may come later, and whether a read fails behind it: at the end of a source nothing comes
abbrev pub MayCome : Bool → Bool → List ℕ → Type 0
MayCome true failed later = (failed ≡ false) × (later ≡ [])
MayCome false failed later = Unit {0}

-- these bytes were got
pub record Grows (old new : Content) (got : List ℕ) : Type 0 where
  pub hand : new.hand ≡ old.hand ++ got
  pub ended : old.ended ≡ true → (got ≡ []) × (new.ended ≡ true)

-- bytes in one, as they came
abbrev pub joined : List (List ℕ) → List ℕ
joined [] = []
joined (piece ∷ pieces) = piece ++ joined pieces

-- behind these bytes such pieces came, each by one read, where what was got before it asks for a record
abbrev pub Pieces : (List (List ℕ) → Type 0) → List ℕ → List (List ℕ) → Type 0
Pieces asks before [] = Unit {0}
Pieces asks before (piece ∷ pieces) = asks (got_records true before) × (length piece ≤ 65537) × Pieces asks (before ++ piece) pieces

-- The reads of a source, a piece for each, also where one gave nothing or failed: each was asked for, and where there is none the source
-- is as it was. At the end of a source there is none.
pub record Gets {S : Type 0} (asks : List (List ℕ) → Type 0) (input0 input1 : S) (old : Content) (got : List ℕ) : Type 0 where
  pub pieces : List (List ℕ)
  pub all : joined pieces ≡ got
  pub asked : Pieces asks old.hand pieces
  pub idle : pieces ≡ [] → input1 ≡ input0
  pub over : old.ended ≡ true → pieces ≡ []

-- nothing at hand yet
abbrev pub untouched : Content
untouched = record { hand = []; ended = false }

-- there is no record
abbrev pub IsNone : List (List ℕ) → Type 0
IsNone records = records ≡ []

-- the first of so many bytes at hand are a record, and behind so many the others begin, whatever comes later
pub record IsRecord (c : Content) (size next : ℕ) : Type 0 where
  pub order : size ≤ next
  pub within : next ≤ length c.hand
  pub first : (failed : Bool) (later : List ℕ) → MayCome c.ended failed later → got_records failed (c.hand ++ later) ≡ take size c.hand ∷ got_records failed (drop next c.hand ++ later)

-- the first record is too long, whatever comes later
pub record HasLong (records : List (List ℕ)) : Type 0 where
  pub first : List ℕ
  pub others : List (List ℕ)
  pub is : records ≡ first ∷ others
  pub long : 65535 < length first

pub record IsLong (c : Content) : Type 0 where
  pub most : length c.hand ≤ 65537
  pub first : (failed : Bool) (later : List ℕ) → HasLong (got_records failed (c.hand ++ later))

-- no record is left
pub record IsOver (c : Content) : Type 0 where
  pub none : c.hand ≡ []
  pub ended : c.ended ≡ true

-- what is at hand is no record yet, and more may come
pub record IsCut (c : Content) : Type 0 where
  pub going : c.ended ≡ false
  pub none : got_records true c.hand ≡ []
  pub most : length c.hand ≤ 65536

abbrev pub IsFound : Found → Content → Type 0
IsFound (Record size next) c = IsRecord c size next
IsFound Long c = IsLong c
IsFound Nothing c = IsOver c
IsFound Failed c = IsCut c

-- a read that failed has raised the count, and else it is as it was
abbrev pub Counts : Found → ℕ → ℕ → Type 0
Counts Failed before now = Rose before now
Counts _ before now = now ≡ before

-- no read has failed
abbrev pub is_steady : Found → Bool
is_steady Failed = false
is_steady _ = true
