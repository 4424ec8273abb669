-- Elements whose subscripts are variables, which are not written on the stack.
use Rattle.std.specs.Prelude.{◌≡◌, ℤ, ℕ, ◌+◌, ◌<◌, ◌≤◌, List, ◌∷◌, length, Option, Some, None, Result, Ok, Err, slice_get, slice_set}
use Rattle.ground.specs.declared.trap.Trap.{Trap}
use Rattle.ground.specs.declared.value.Kind.TheVariants.{Integer}
use Rattle.ground.specs.Content.{Whole}
use Rattle.stack_code.specs.Instructions as i
use Rattle.stack_code.specs.Instructions.{Instruction}
use Rattle.runner.specs.declared.subscripts.Subscripts.{Subscripts}
use Rattle.runner.specs.declared.subscripts.Subscripts.TheVariants as s
use Rattle.runner.specs.declared.words.Word.{Word}
use Rattle.runner.specs.declared.words.Cell.{Cell}
use Rattle.stack_code.specs.StackMachine.{Spot, At, shift}
use Rattle.runner.specs.Words.{Shows, pile_of, spot_word}
use Rattle.runner.specs.Reaching.{Alike, IsShifted}
use Rattle.runner.specs.Work.{Holds}

-- a variable's spot stands there, and a load of an integer behind it
pub record IsVariable (code : List Instruction) (at unit : ℕ) : Type 0 where
  pub size : ℕ
  pub spot : slice_get code at ≡ Some (i.PushSpot unit size)
  pub load : slice_get code (at + 1) ≡ Some (i.Load Integer)

pub record IsByOne (code : List Instruction) (at unit : ℕ) (d : ℤ) : Type 0 where
  pub subscript : IsVariable code at unit
  pub extent : slice_get code (at + 2) ≡ Some (i.Push (Whole d))
  pub element : slice_get code (at + 3) ≡ Some (i.Element 1)

pub record IsByTwo (code : List Instruction) (at one two : ℕ) (d e : ℤ) : Type 0 where
  pub first : IsVariable code at one
  pub second : IsVariable code (at + 2) two
  pub rows : slice_get code (at + 4) ≡ Some (i.Push (Whole d))
  pub columns : slice_get code (at + 5) ≡ Some (i.Push (Whole e))
  pub element : slice_get code (at + 6) ≡ Some (i.Element 2)

abbrev pub AreSubscripts : List Instruction → ℕ → Subscripts → Type 0
AreSubscripts code at s.Other = Unit {0}
AreSubscripts code at (s.One unit extent) = IsByOne code at unit extent
AreSubscripts code at (s.Two one two rows columns) = IsByTwo code at one two rows columns

-- what a load does where the spot of a variable lies on the stack: the word is there then, or the run is trapped
abbrev pub IsRead : ℕ → List Cell → Result Word Trap → Type 0
IsRead unit cells (Ok x) = (buffer : List Word) (at size : ℕ) → at < length buffer → Holds (i.Load Integer) (slice_set buffer at (spot_word unit size)) (at + 1) cells (slice_set buffer at x) cells (Ok (at + 1))
IsRead unit cells (Err t) = (buffer new : List Word) (at size : ℕ) → at < length buffer → Holds (i.Load Integer) (slice_set buffer at (spot_word unit size)) (at + 1) cells new cells (Err t)

-- where a place is told, the word stands for the spot so many places behind a variable's first unit, or there is none
abbrev pub IsPlacedBy : ℕ → ℕ → Option ℕ → Option Word → Type 0
IsPlacedBy first size (Some far) r = (p : Spot) (n : ℕ) → Shows (At p) (spot_word first size) → Alike far n → IsShifted (shift p n) r
IsPlacedBy first size None r = None ≡ r

abbrev pub integer_word : ℤ → Word
integer_word z = record { value = z; behind = 0 }

-- an array's spot lies in a buffer, above what lies below it in another one, and then a subscript and its dimension
pub record IsLaidOne (first size : ℕ) (one : Word) (d : ℤ) (old : List Word) (top : ℕ) (buffer : List Word) : Type 0 where
  pub within : top + 3 ≤ length buffer
  pub spot : pile_of buffer (top + 1) ≡ spot_word first size ∷ pile_of old top
  pub subscript : slice_get buffer (top + 1) ≡ Some one
  pub extent : slice_get buffer (top + 2) ≡ Some (integer_word d)

-- the same with two subscripts and two dimensions
pub record AreLaidTwo (first size : ℕ) (x y : Word) (d e : ℤ) (old : List Word) (top : ℕ) (buffer : List Word) : Type 0 where
  pub within : top + 5 ≤ length buffer
  pub spot : pile_of buffer (top + 1) ≡ spot_word first size ∷ pile_of old top
  pub one : slice_get buffer (top + 1) ≡ Some x
  pub two : slice_get buffer (top + 2) ≡ Some y
  pub rows : slice_get buffer (top + 3) ≡ Some (integer_word d)
  pub columns : slice_get buffer (top + 4) ≡ Some (integer_word e)
