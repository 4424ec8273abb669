-- What the levels of a runner's calls stand for: the spots of frames, and where callers go on.
use Rattle.std.specs.Prelude.{◌≡◌, ℕ, zero, suc, ◌+◌, ◌*◌, ◌<◌, List, [], ◌∷◌, Option, Some, None, slice_get}
use Rattle.f66_tree.specs.Fields.{Fields}
use Rattle.f66_tree.specs.World.{World}
use Rattle.ground.specs.declared.place.Place.{Place}
use Rattle.stack_code.specs.Instructions.{Instruction, Begin, Dummy}
use Rattle.stack_code.specs.StackMachine.{At, Caller, Core, act}
use Rattle.runner.specs.declared.words.Word.{Word}
use Rattle.runner.specs.declared.frames.Resume.{Resume}
use Rattle.runner.specs.Words.{Stand, Lies, pile_of}
use Rattle.runner.specs.Work.{MayWork, GoesTo, IsFine}

-- the place of the statement that an instruction begins
abbrev pub place_by : Option Instruction → Place
place_by (Some (Begin p)) = p
place_by _ = record { file = 0; line = 0 }

-- the same by the instruction's number
abbrev pub place_at : List Instruction → ℕ → Place
place_at code begun = place_by (slice_get code begun)

-- where a caller goes on, and the place of its statement
pub record Back : Type 0 where
  pub at : ℕ
  pub place : Place

abbrev pub back_of : List Instruction → Resume → Back
back_of code r = record { at = r.at; place = place_at code r.begun }

-- it is this caller's
pub record IsKept (c : Caller) (r : Back) : Type 0 where
  pub at : r.at ≡ c.back
  pub place : r.place ≡ c.frame.place

abbrev pub IsKeptIn : Caller → Option Back → Type 0
IsKeptIn c (Some r) = IsKept c r
IsKeptIn c None = ⊥

-- so many callers wait, each at its level, with the spots of its frame there
abbrev pub Wait : ℕ → List Word → List Back → List Caller → ℕ → Type 0
Wait wide spots resumes [] level = level ≡ 0
Wait wide spots resumes (c ∷ callers) zero = ⊥
Wait wide spots resumes (c ∷ callers) (suc level) = IsKeptIn c (slice_get resumes level) × Lies At c.frame.spots spots (level * wide) × Wait wide spots resumes callers level

-- a level of calls, where the spots of its frame begin, and the buffers of spots and of callers
pub record Level : Type 0 where
  pub level : ℕ
  pub base : ℕ
  pub spots : List Word
  pub resumes : List Back

-- it is this state's
pub record Framed (wide : ℕ) (l : Level) (s : Core) : Type 0 where
  pub base : l.base ≡ l.level * wide
  pub own : Lies At s.frame.spots l.spots l.base
  pub wait : Wait wide l.spots l.resumes s.callers l.level

-- some state stands here, for which a dummy is asked for and goes right
pub record MayFind (n : ℕ) (buffer : List Word) (top : ℕ) (spots : List Word) (base : ℕ) : Type 0 where
  pub work : MayWork (Dummy n) buffer top
  pub lies : Lies At work.core.frame.spots spots base

-- the next instruction comes, with the dummy's spot on top
abbrev pub Finds : ℕ → List Word → ℕ → List Word → ℕ → List Word → ℕ → Type 0
Finds n old top spots base new result =
    (plans : List Fields) (s : Core) (w : World) → Stand s.stack (pile_of old top) → Lies At s.frame.spots spots base → IsFine (act plans (Some (Dummy n)) s w) → GoesTo (act plans (Some (Dummy n)) s w) s w (s.pc + 1) (pile_of new result)

-- so many words are the same in another buffer, and nothing below them is changed there
pub record AreHanded (stack : List Word) (from count : ℕ) (old new : List Word) (base : ℕ) : Type 0 where
  pub handed : (k : ℕ) → k < count → slice_get new (base + k) ≡ slice_get stack (from + k)
  pub below : (q : ℕ) → q < base → slice_get new q ≡ slice_get old q
