-- What the stack and the store of a runner stand for.
use Rattle.std.specs.Prelude.{◌≡◌, ℕ, zero, suc, ◌+◌, ◌^◌, ◌<◌, ℤ, pos, Bool, true, false, List, [], ◌∷◌, Option, Some, None, Result, Ok, Err, slice_get}
use Rattle.ground.specs.declared.trap.Trap.{Trap}
use Rattle.ground.specs.Content.{Content, Nothing, Whole, Truth}
use Rattle.ground.specs.Arithmetic.{IsInRange}
use Rattle.f66_tree.specs.World.{Store, Try, Yields, Traps}
use Rattle.stack_code.specs.StackMachine.{Spot, Entry, Val, At, unit_of}
use Rattle.runner.specs.declared.words.Word.{Word}
use Rattle.runner.specs.declared.words.Cell.{Cell}
use Rattle.runner.specs.declared.words.Cell.TheVariants as cells

abbrev pub blank : Word
blank = record { value = pos 0; behind = 0 }

abbrev pub with_top : Option Word → List Word → List Word
with_top (Some x) rest = x ∷ rest
with_top None rest = rest

-- the first n words of a buffer as a stack, with the last of them on top
abbrev pub pile_of : List Word → ℕ → List Word
pile_of buffer zero = []
pile_of buffer (suc n) = with_top (slice_get buffer n) (pile_of buffer n)

abbrev pub bit : Bool → ℤ
bit true = pos 1
bit false = pos 0

-- a lent value has one unit; the others have the unit behind their variable's last one
pub record IsLent (p : Spot) (w : Word) : Type 0 where
  pub value : w.value ≡ pos p.first
  pub behind : w.behind ≡ 0
  pub size : p.size ≡ 1
  pub position : p.position ≡ 0

pub record IsPlaced (p : Spot) (w : Word) : Type 0 where
  pub value : w.value ≡ pos (unit_of p)
  pub behind : w.behind ≡ p.first + p.size
  pub inside : p.position < p.size
  pub few : w.behind < 2 ^ 31

-- the word of the spot of some units: the first, and how many
abbrev pub spot_word : ℕ → ℕ → Word
spot_word first size = record { value = pos first; behind = first + size }

abbrev pub IsSpotWord : Bool → Spot → Word → Type 0
IsSpotWord true p w = IsLent p w
IsSpotWord false p w = IsPlaced p w

pub record IsWholeWord (z : ℤ) (w : Word) : Type 0 where
  pub value : w.value ≡ z
  pub behind : w.behind ≡ 0
  pub small : IsInRange z

pub record IsTruthWord (b : Bool) (w : Word) : Type 0 where
  pub value : w.value ≡ bit b
  pub behind : w.behind ≡ 1

-- a word stands for an entry
abbrev pub Shows : Entry → Word → Type 0
Shows (Val (Whole z)) w = IsWholeWord z w
Shows (Val (Truth b)) w = IsTruthWord b w
Shows (Val Nothing) w = ⊥
Shows (At p) w = IsSpotWord p.fixed p w

-- a buffer's words stand for a stack, entry by entry
abbrev pub Stand : List Entry → List Word → Type 0
Stand [] [] = Unit {0}
Stand (e ∷ es) (w ∷ ws) = Shows e w × Stand es ws
Stand _ _ = ⊥

-- the words of a buffer, one after another from here on, stand for these
abbrev pub Lies : {A : Type 0} → (A → Entry) → List A → List Word → ℕ → Type 0
Lies entry [] buffer at = Unit {0}
Lies entry (a ∷ rest) buffer at = (w : Word) × (slice_get buffer at ≡ Some w) × Shows (entry a) w × Lies entry rest buffer (suc at)

-- a word stands for what an operation yields, or the trap is the same
abbrev pub IsMade : Try Content → Result Word Trap → Type 0
IsMade (Yields v) (Ok w) = Shows (Val v) w
IsMade (Traps t) (Err e) = t ≡ e
IsMade _ _ = ⊥

abbrev pub content_of : Cell → Content
content_of cells.Nothing = Nothing
content_of (cells.Whole z) = Whole z
content_of (cells.Truth b) = Truth b

abbrev pub content_in : Option Cell → Content
content_in None = Nothing
content_in (Some c) = content_of c

-- an integer of a unit is in range
abbrev pub IsSmall : Content → Type 0
IsSmall (Whole z) = IsInRange z
IsSmall _ = Unit {0}

-- the units of the store hold what the cells hold
pub record Agrees (held : List Cell) (st : Store) : Type 0 where
  pub same : (q : ℕ) → st q ≡ content_in (slice_get held q)
  pub small : (q : ℕ) → IsSmall (st q)
