-- What the words ask for: run [--steps N] [--count] LANG FILE, with options anywhere behind the command, cards LANG FILE, listing LANG
-- FILE, or deck [--steps N] FILE. LANG is ratfor or efl.
use Rattle.std.specs.Prelude.{◌≡◌, ◌≢◌, ◌⊎◌, ⊤, ℕ, zero, suc, ◌+◌, ◌-◌, ◌*◌, nat_le, List, [], ◌∷◌, ◌++◌, ◌&&◌, not, Bool, true, false, codes, Some, None, if◌then◌else◌, ◌==◌, map, unwrap_or, String, string_bytes}
use Rattle.std.specs.Str.{bytes_eq}
use Rattle.std.specs.Char.{is_ascii_digit}
use Rattle.std.specs.declared.option.Option.{Option}
use Rattle.ground.specs.declared.token.Dialect.{Dialect}
use Rattle.ground.specs.declared.token.Dialect.TheVariants.{Ratfor, Efl}
use Rattle.std.specs.declared.alloc.Global.{Global}

-- a run of the text in a file, of which at most so many statements begin, with its counts or without; the deck of the text, or the listing
-- of its stack code; or a run of the deck in a file
pub data Command : Type 0 where
  Run : ℕ → Bool → Dialect → List ℕ → Command
  Cards : Dialect → List ℕ → Command
  Listing : Dialect → List ℕ → Command
  Deck : ℕ → List ℕ → Command

abbrev pub texts : List (String Global) → List (List ℕ)
texts words = map string_bytes words

-- ---- the number of steps ----

-- from 1 to 1,000,000,000,000
abbrev pub steps_of : ℕ → Option ℕ
steps_of n = if nat_le 1 n && nat_le n 1000000000000 then Some n else None

-- decimal digits behind a number n
abbrev pub steps_after : ℕ → List ℕ → Option ℕ
steps_after n [] = steps_of n
steps_after n (digit ∷ rest) = if is_ascii_digit digit then steps_after (n * 10 + (digit - 48)) rest else None

abbrev pub steps_in : List ℕ → Option ℕ
steps_in word = steps_after 0 word

-- ---- options and operands ----

-- an operand; the option --steps with its number in the same word or in the next one; or the option --count
pub data Piece : Type 0 where
  Operand : List ℕ → Piece
  Joined : List ℕ → Piece
  Apart : List ℕ → Piece
  Counting : Piece

abbrev pub words_of : Piece → List (List ℕ)
words_of (Operand word) = word ∷ []
words_of (Joined number) = (codes "--steps=" ++ number) ∷ []
words_of (Apart number) = codes "--steps" ∷ number ∷ []
words_of Counting = codes "--count" ∷ []

-- begins with - and goes on
abbrev pub is_option : List ℕ → Bool
is_option [] = false
is_option (byte ∷ rest) = (byte == 45) && not (bytes_eq rest [])

-- no operand looks like an option
abbrev pub IsPiece : Piece → Type 0
IsPiece (Operand word) = is_option word ≡ false
IsPiece (Joined number) = ⊤
IsPiece (Apart number) = ⊤
IsPiece Counting = ⊤

abbrev pub ArePieces : List Piece → Type 0
ArePieces [] = ⊤
ArePieces (piece ∷ pieces) = IsPiece piece × ArePieces pieces

abbrev pub all_words : List Piece → List (List ℕ)
all_words [] = []
all_words (piece ∷ pieces) = words_of piece ++ all_words pieces

abbrev pub operands_in : List Piece → List (List ℕ)
operands_in [] = []
operands_in (Operand word ∷ pieces) = word ∷ operands_in pieces
operands_in (Joined number ∷ pieces) = operands_in pieces
operands_in (Apart number ∷ pieces) = operands_in pieces
operands_in (Counting ∷ pieces) = operands_in pieces

abbrev pub numbers_in : List Piece → List (List ℕ)
numbers_in [] = []
numbers_in (Operand word ∷ pieces) = numbers_in pieces
numbers_in (Joined number ∷ pieces) = number ∷ numbers_in pieces
numbers_in (Apart number ∷ pieces) = number ∷ numbers_in pieces
numbers_in (Counting ∷ pieces) = numbers_in pieces

-- how often --count stands
abbrev pub counts_in : List Piece → ℕ
counts_in [] = zero
counts_in (Counting ∷ pieces) = suc (counts_in pieces)
counts_in (_ ∷ pieces) = counts_in pieces

-- what stands at the end of the words: nothing, or -- and operands alone
abbrev pub IsEnding : List (List ℕ) → List (List ℕ) → Type 0
IsEnding operands words = ((operands ≡ []) × (words ≡ [])) ⊎ (words ≡ codes "--" ∷ operands)

-- Words are these operands, with --steps of these numbers and so many --count anywhere between them.
pub record AreShuffled (numbers : List (List ℕ)) (counts : ℕ) (operands words : List (List ℕ)) : Type 0 where
  pub pieces : List Piece
  pub last : List (List ℕ)
  pub ending : List (List ℕ)
  pub right : ArePieces pieces
  pub ends : IsEnding last ending
  pub words_are : words ≡ all_words pieces ++ ending
  pub numbers_are : numbers ≡ numbers_in pieces
  pub counts_are : counts ≡ counts_in pieces
  pub operands_are : operands ≡ operands_in pieces ++ last

-- ---- commands ----

-- --steps stands at most once
abbrev pub AreSteps : List (List ℕ) → Option ℕ → Type 0
AreSteps [] steps = steps ≡ None
AreSteps (number ∷ []) (Some n) = steps_in number ≡ Some n
AreSteps _ steps = ⊥

-- and so does --count
abbrev pub IsOnce : ℕ → Bool → Type 0
IsOnce zero count = count ≡ false
IsOnce (suc zero) count = count ≡ true
IsOnce (suc (suc n)) count = ⊥

abbrev pub language_word : Dialect → List ℕ
language_word Ratfor = codes "ratfor"
language_word Efl = codes "efl"

-- the words behind a command name a file, behind these operands, and may have --steps and --count
pub record NameFile (steps : Option ℕ) (count : Bool) (operands : List (List ℕ)) (file : List ℕ) (words : List (List ℕ)) : Type 0 where
  pub numbers : List (List ℕ)
  pub counts : ℕ
  pub shuffled : AreShuffled numbers counts (operands ++ file ∷ []) words
  pub limited : AreSteps numbers steps
  pub counted : IsOnce counts count
  pub named : file ≢ []

-- a text is named behind its language
abbrev pub NameText : Option ℕ → Bool → Dialect → List ℕ → List (List ℕ) → Type 0
NameText steps count language file words = NameFile steps count (language_word language ∷ []) file words

-- without --steps the limit is 10,000,000
abbrev pub limit_by : Option ℕ → ℕ
limit_by steps = unwrap_or steps 10000000

-- the words ask for this command
abbrev pub AskFor : List (List ℕ) → Command → Type 0
AskFor words (Run limit count language file) =
    (rest : List (List ℕ)) × (words ≡ codes "run" ∷ rest) × (steps : Option ℕ) × NameText steps count language file rest × (limit ≡ limit_by steps)
AskFor words (Cards language file) = (rest : List (List ℕ)) × (words ≡ codes "cards" ∷ rest) × NameText None false language file rest
AskFor words (Listing language file) = (rest : List (List ℕ)) × (words ≡ codes "listing" ∷ rest) × NameText None false language file rest
AskFor words (Deck limit file) = (rest : List (List ℕ)) × (words ≡ codes "deck" ∷ rest) × (steps : Option ℕ) × NameFile steps false [] file rest × (limit ≡ limit_by steps)

-- the words ask for no command
abbrev pub AskNothing : (Command → Type 0) → Type 0
AskNothing asks = (command : Command) → asks command → ⊥

-- an answer is the command that is asked for, or that there is none
abbrev pub IsAsked : (Command → Type 0) → Option Command → Type 0
IsAsked asks (Some command) = asks command
IsAsked asks None = AskNothing asks
