-- Characters that go out or come in one after the other, with nothing between them.
use Rattle.std.specs.Prelude.{◌≡◌, ℕ, List, [], ◌∷◌, pos}
use Rattle.ground.specs.declared.value.Kind.TheVariants.{Integer}
use Rattle.ground.specs.Content.{Whole}
use Rattle.f66_tree.specs.World.{Tape, Moves, Yields}
use Rattle.f66_tree.specs.Records.{due, put, take}

-- for each character in turn an edit is due for an integer, and the character goes out by it
abbrev pub SendsLetters : List ℕ → Tape → Tape → Type 0
SendsLetters [] old new = old ≡ new
SendsLetters (c ∷ cs) old new =
    (ready : Tape) × (behind : Tape) × (due Integer old ≡ Moves ready) × (put (Whole (pos c)) ready ≡ Moves behind) × SendsLetters cs behind new

-- the same where the characters come in
abbrev pub GetsLetters : List ℕ → Tape → Tape → Type 0
GetsLetters [] old new = old ≡ new
GetsLetters (c ∷ cs) old new =
    (ready : Tape) × (behind : Tape) × (due Integer old ≡ Moves ready) × (take ready ≡ Yields (Whole (pos c), behind)) × GetsLetters cs behind new
