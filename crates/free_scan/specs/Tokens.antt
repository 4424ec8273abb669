-- The tokens of a text, up to its first fault.
use Rattle.std.specs.Prelude.{◌≡◌, ℕ, zero, suc, ◌+◌, ◌-◌, ⊤, Bool, true, false, not, ◌==◌, ◌||◌, ◌&&◌, List, [], ◌∷◌, ◌++◌, length, drop, Option, Some, None, codes, nat_lt, if◌then◌else◌}
use Rattle.std.specs.List.{list_any, list_all}
use Rattle.ground.specs.Faults.{fault_at}
use Rattle.ground.specs.declared.fault.Fault.{Fault}
use Rattle.ground.specs.declared.fault.FaultKind.TheVariants.{BadByte, PercentLine}
use Rattle.ground.specs.declared.token.Dialect.{Dialect}
use Rattle.ground.specs.declared.token.Dialect.TheVariants.{Ratfor, Efl}
use Rattle.ground.specs.declared.token.Token.{Token}
use Rattle.ground.specs.declared.token.TokenKind.{TokenKind}
use Rattle.ground.specs.declared.token.TokenKind.TheVariants.{Word, Quoted, Sign as SignToken, LineEnd, TextEnd}
use Rattle.ground.specs.declared.token.Sign.TheVariants.{Open, Close}
use Rattle.free_scan.specs.declared.lines.Character.{Character}
use Rattle.free_scan.specs.declared.lines.LineEnding.{LineEnding}
use Rattle.free_scan.specs.declared.scanner.LineStart.{LineStart}
use Rattle.free_scan.specs.declared.scanner.Outcome.{Outcome}
use Rattle.free_scan.specs.declared.scanner.Outcome.TheVariants.{Goes as GoesOn, Stops as StopsThere}
use Rattle.free_scan.specs.Characters.{is_printable, begins_with}
use Rattle.free_scan.specs.IncludeNames.{begun, include_word, file_name}
use Rattle.free_scan.specs.Lexemes.{bytes_of, Reading, with_tokens, tokens_of}
use Rattle.free_scan.specs.Lines.{Line, line, line_size, last_byte}

-- the last characters after which a line is continued (own as a whole)
abbrev pub continuing : Dialect → List ℕ
continuing Ratfor = codes "=+-*,|&(_"
continuing Efl = codes "=+-*/~!^<>&|,{[(_"

-- whether a line with these characters is continued
abbrev pub is_continued : Dialect → List Character → Bool
is_continued d cs = elim (last_byte None cs) [ Some b ↦ list_any (λ c. c == b) (continuing d) | None ↦ false ]

-- How many parentheses are open after a token. Only Ratfor counts them, and one that closes nothing is not counted.
abbrev pub open_after : ℕ → TokenKind → ℕ
open_after n (SignToken Open) = n + 1
open_after n (SignToken Close) = n - 1
open_after n _ = n

abbrev pub open_after_all : ℕ → List Token → ℕ
open_after_all n [] = n
open_after_all n (t ∷ ts) = open_after_all (open_after n t.kind) ts

abbrev pub open_parentheses : Dialect → ℕ → List Token → ℕ
open_parentheses Ratfor n ts = open_after_all n ts
open_parentheses Efl n ts = 0

-- What a line gives: its tokens and what the next line starts with, or its tokens and a fault.
pub data LineReading : Type 0 where
  Goes : List Token → LineStart → LineReading
  Stops : List Token → Fault → LineReading

abbrev pub token_at : ℕ → ℕ → TokenKind → Token
token_at file number kind = record { kind = kind; place = record { file = file; line = number } }

-- the end of a line that is not continued
abbrev pub line_end : Bool → ℕ → ℕ → List Token
line_end true file number = []
line_end false file number = token_at file number LineEnd ∷ []

-- A line of tokens. A continued line that has no token, an underscore alone, counts as not there. A line gives a LineEnd unless it is continued, or a parenthesis of a Ratfor text is open, or the text
-- ends without a byte 10.
abbrev pub plain_line : Dialect → List ℕ → ℕ → LineStart → List Character → LineEnding → LineReading
plain_line d text file s cs end =
    let r = tokens_of d text file 0 cs in
    elim (r.fault) [
      | Some fault ↦ Stops (r.tokens) fault
      | None ↦
          let opened = open_parentheses d s.opened (r.tokens) in
          let goes_on = not end.ended || is_continued d cs || nat_lt 0 opened in
          let continues = goes_on && (s.continues || nat_lt 0 (length (r.tokens))) in
          Goes (r.tokens ++ line_end goes_on file (end.number - 1)) (record { next = end.next; number = end.number; opened = opened; continues = continues })
    ]

-- the line after an include line, whose word ends with this character
abbrev pub line_after : Character → List ℕ → LineStart
line_after last rest =
    if nat_lt (line_size rest) (length rest)
    then record { next = last.next + line_size rest + 1; number = last.line + 1; opened = 0; continues = false }
    else record { next = last.next + line_size rest; number = last.line; opened = 0; continues = false }

-- An include line: the word, the file's name as a quoted text, and a LineEnd. It is not continued. The name may be longer
-- than 255 characters.
abbrev pub include_line : List ℕ → ℕ → List ℕ → Character → Character → LineReading
include_line text file word first last =
    let rest = drop last.next text in
    let before = token_at file first.line (Word word) ∷ [] in
    if list_all is_printable (file_name rest)
    then Goes (before ++ token_at file last.line (Quoted (file_name rest)) ∷ token_at file last.line LineEnd ∷ []) (line_after last rest)
    else Stops before (fault_at (record { file = file; line = last.line }) BadByte)

abbrev pub tokens_in : LineReading → List Token
tokens_in (Goes tokens after) = tokens
tokens_in (Stops tokens fault) = tokens

abbrev pub outcome : LineReading → Outcome
outcome (Goes tokens after) = GoesOn after
outcome (Stops tokens fault) = StopsThere fault

abbrev pub line_by_word : Dialect → List ℕ → ℕ → LineStart → Line → Option (Character × Character) → LineReading
line_by_word d text file s l (Some (first, last)) = include_line text file (bytes_of (begun l.characters) 7) first last
line_by_word d text file s l None = plain_line d text file s l.characters l.ending

-- the word `include` makes a line that continues no other an include line
abbrev pub line_of : Dialect → List ℕ → ℕ → LineStart → Line → LineReading
line_of d text file s l = line_by_word d text file s l (if s.continues then None else include_word (begun l.characters))

-- the line of a text that starts here
abbrev pub line_reading : Dialect → List ℕ → ℕ → LineStart → LineReading
line_reading d text file s =
    if begins_with 37 (drop s.next text)
    then Stops [] (fault_at (record { file = file; line = s.number }) PercentLine)
    else line_of d text file s (line d 0 s.next s.number (drop s.next text))

-- the tokens of the lines from s on, where `bs` is the text from there on but for its first `gone` bytes
abbrev pub lines_from : Dialect → List ℕ → ℕ → LineStart → ℕ → List ℕ → Reading
lines_from d text file s gone [] = record { tokens = token_at file s.number TextEnd ∷ []; fault = None }
lines_from d text file s (suc gone) (b ∷ bs) = lines_from d text file s gone bs
lines_from d text file s zero (b ∷ bs) =
    elim (line_reading d text file s) [
      | Goes tokens after ↦ with_tokens tokens (lines_from d text file after (after.next - (s.next + 1)) bs)
      | Stops tokens fault ↦ record { tokens = tokens; fault = Some fault }
    ]

abbrev pub text_start : LineStart
text_start = record { next = 0; number = 1; opened = 0; continues = false }

-- The tokens of a text, and the fault at which they stop. Lines and the file have their numbers.
abbrev pub scanned : Dialect → List ℕ → ℕ → Reading
scanned d text file = lines_from d text file text_start 0 text

abbrev pub IfGoes : Outcome → (LineStart → Type 0) → Type 0
IfGoes (GoesOn after) P = P after
IfGoes (StopsThere fault) P = ⊤

-- r is what a text says in this dialect, as the file of this number
abbrev pub IsReading : Dialect → List ℕ → ℕ → Reading → Type 0
IsReading d text file r = r ≡ scanned d text file
