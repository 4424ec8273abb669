-- Characters that go out or come in one after the other, each by an edit A1.
use Rattle.std.specs.Prelude.{◌≡◌, ℕ, ◌+◌, true, List, [], ◌∷◌, ◌++◌, replicate, pos, Ok}
use Rattle.ground.specs.declared.value.Kind.TheVariants.{Integer}
use Rattle.f66_tree.specs.declared.editing.EditKind.TheVariants.{Letter}
use Rattle.f66_tree.specs.declared.editing.Turn.TheVariants.{Ready}
use Rattle.f66_tree.specs.Fields.{Fields, Takes}
use Rattle.f66_tree.specs.Fielded.{is_character}
use Rattle.f66_tree.specs.Turns.{Hand, next_turn, put_letter, take_letter}
use Rattle.format_io.specs.Places.{Stand, hand_of}

abbrev pub IsLetter : ℕ → Type 0
IsLetter c = is_character c ≡ true

-- for each character in turn an edit A1 is ready, and the character goes out by it
abbrev pub PutsLetters : List ℕ → Hand → Hand → Type 0
PutsLetters [] old new = old ≡ new
PutsLetters (c ∷ cs) old new =
    (ready : Hand) × (behind : Hand) × (next_turn old Integer ≡ Ok (Ready Letter, ready)) × (put_letter ready (pos c) ≡ Ok behind) × PutsLetters cs behind new

-- the same where the characters come in
abbrev pub TakesLetters : List ℕ → Hand → Hand → Type 0
TakesLetters [] old new = old ≡ new
TakesLetters (c ∷ cs) old new =
    (ready : Hand) × (behind : Hand) × (next_turn old Integer ≡ Ok (Ready Letter, ready)) × (take_letter ready ≡ Ok (pos c, behind)) × TakesLetters cs behind new

-- so many edits A1 come next, before what is ahead behind them
abbrev pub LettersNext : Fields → Stand → ℕ → Type 0
LettersNext fs s k = (hand_of fs s).rest ≡ replicate k (Takes Letter 1) ++ (hand_of fs (record s { past = s.past + k })).rest
