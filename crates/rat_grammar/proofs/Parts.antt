-- What a nonterminal of a table gives, and what a published grammar says of it, for every language. A tail is what makes more of a part
-- that stands before it.
use Rattle.std.proofs.Common.{◌≡◌, List, ◌∷◌, Option, None, Some}
use Rattle.ground.specs.declared.place.Place.{Place}
use Rattle.f66_tree.specs.Syntax.{Text}
use Rattle.rat_grammar.specs.Tokens.{Tokens, Word, place_at, Listed, Lines}
use Rattle.rat_grammar.proofs.LineLemmas.{NoLine, joined_lines}

-- of the values V
pub record Reading (V : Type 0) : Type 1 where
  pub Of : Type 0
  pub view : Of → V
  pub Says : Tokens → Tokens → Of → Type 0

abbrev pub Part : Type 0 → Type 1
Part A = Tokens → Tokens → A → Type 0

-- a value that is read as what stands behind it asks
abbrev pub open_reading : {V : Type 0} → Part V → Reading V
open_reading {V} Says = record { Of = V; view = λ y. y; Says = Says }

-- more items behind one
abbrev pub Tail : {A : Type 0} → Part A → Part (List A)
Tail {A} Item a b xs = (s : Tokens) (x : A) → Item s a x → Listed Item s b (x ∷ xs)

-- the same, and the place of its first token
abbrev pub Placed : {A : Type 0} → Part A → Part (Place × A)
Placed Item a b x = (x.0 ≡ place_at a) × Item a b x.1

-- a part, and lines behind it
abbrev pub Lined : {A : Type 0} → Part A → Part A
Lined Item a b x = (m : Tokens) × Item a m x × Lines m b

-- a part that begins with this word behind lines, or lines and neither a further line nor this word behind them
pub data WordIfAny {A : Type 0} (x : Text) (Item : Tokens → Tokens → Tokens → A → Type 0) (a b : Tokens) : Option A → Type 0 where
  missing : Lines a b → NoLine b → ((c : Tokens) → Word x b c → ⊥) → WordIfAny x Item a b None
  present : {m k : Tokens} {y : A} → Lines a m → Word x m k → Item m k b y → WordIfAny x Item a b (Some y)

pub lines_before_word : {A : Type 0} {x : Text} {Item : Tokens → Tokens → Tokens → A → Type 0} {a m b : Tokens} {o : Option A} → Lines a m → WordIfAny x Item m b o → WordIfAny x Item a b o
lines_before_word l (missing k n h) = missing (joined_lines l k) n h
lines_before_word l (present k w q) = present (joined_lines l k) w q
