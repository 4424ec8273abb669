-- The lines of a text. A line's characters are what is left of it without its comment, the insides of its quoted
-- texts, and the underscores that are dropped; EFL lines that an underscore joins are one line.
use Rattle.std.specs.Prelude.{ℕ, zero, suc, ◌+◌, ◌<◌, ◌≤◌, Bool, true, false, not, ◌==◌, ◌&&◌, List, [], ◌∷◌, ◌++◌, length, drop, Option, Some, None, nat_lt, if◌then◌else◌}
use Rattle.std.specs.List.{prefix_len}
use Rattle.ground.specs.declared.token.Dialect.{Dialect}
use Rattle.ground.specs.declared.token.Dialect.TheVariants.{Ratfor, Efl}
use Rattle.free_scan.specs.declared.lines.Character.{Character}
use Rattle.free_scan.specs.declared.lines.LineEnding.{LineEnding}
use Rattle.free_scan.specs.declared.lines.Part.{Part}
use Rattle.free_scan.specs.declared.lines.Part.TheVariants.{Ends, Dropped, Joined, Kept}
use Rattle.free_scan.specs.Characters.{is_blank, is_quote, begins_with, is_line_end}
use Rattle.free_scan.specs.Quotes.{quoted}

-- the bytes before the next byte 10
abbrev pub line_size : List ℕ → ℕ
line_size bs = prefix_len (λ b. not (b == 10)) bs

-- whether the line has nothing more than blanks and a comment
abbrev pub has_no_more : List ℕ → Bool
has_no_more [] = true
has_no_more (b ∷ bs) = if is_blank b then has_no_more bs else (if b == 35 then true else is_line_end (b ∷ bs))

-- what follows the next byte 10
abbrev pub next_line : List ℕ → List ℕ
next_line bs = drop (line_size bs + 1) bs

-- An underscore that ends an EFL line joins it to the next (Feldman): what follows it, the line's end and the initial
-- blanks of the next line are as many bytes. A line that begins with `%` is joined to none.
abbrev pub joint : List ℕ → Option ℕ
joint bs =
    if nat_lt (line_size bs) (length bs) && not (begins_with 37 (next_line bs))
    then Some (line_size bs + 1 + prefix_len is_blank (next_line bs))
    else None

-- an underscore that ends a line
abbrev pub last_underscore : Dialect → List ℕ → Part
last_underscore Ratfor bs = Kept 0
last_underscore Efl bs = elim (joint bs) [ Some n ↦ Joined n | None ↦ Kept 0 ]

-- What stands at a byte outside quotes, where `bs` follows it. Each part but the line's end says how many of the bytes
-- that follow go with it.
abbrev pub part : Dialect → ℕ → List ℕ → Part
part d b bs =
    if b == 10 then Ends
    else (if b == 13 && begins_with 10 bs then Dropped 0
    else (if b == 35 then Dropped (line_size bs)
    else (if b == 95 then (if has_no_more bs then last_underscore d bs else Dropped 0)
    else (if is_quote b then Kept ((quoted d b false bs).size)
    else Kept 0))))

-- A line: its characters, and where it ends.
pub record Line : Type 0 where
  pub characters : List Character
  pub ending : LineEnding

abbrev pub with_characters : List Character → Line → Line
with_characters cs l = record { characters = cs ++ l.characters; ending = l.ending }

-- a line with no characters
abbrev pub ends_at : ℕ → ℕ → Bool → Line
ends_at next number ended = record { characters = []; ending = record { next = next; number = number; ended = ended } }

-- The line that begins with these bytes, which are those of the text from the place `at` on, in the line of this
-- number; the first `gone` of them belong to an earlier part.
abbrev pub line : Dialect → ℕ → ℕ → ℕ → List ℕ → Line
line d gone at number [] = ends_at at number false
line d (suc gone) at number (b ∷ bs) = line d gone (at + 1) number bs
line d zero at number (b ∷ bs) =
    elim (part d b bs) [
      | Ends ↦ ends_at (at + 1) (number + 1) true
      | Dropped n ↦ line d n (at + 1) number bs
      | Joined n ↦ line d n (at + 1) (number + 1) bs
      | Kept n ↦ with_characters (record { byte = b; line = number; next = at + 1 } ∷ []) (line d n (at + 1) number bs)
    ]

-- the last character that is no blank, if there is one
abbrev pub last_byte : Option ℕ → List Character → Option ℕ
last_byte found [] = found
last_byte found (c ∷ cs) = last_byte (if is_blank c.byte then found else Some (c.byte)) cs

-- how many of the bytes that follow go with a part
abbrev pub more_of : Part → ℕ
more_of Ends = 0
more_of (Dropped n) = n
more_of (Joined n) = n
more_of (Kept n) = n

-- a character of the text behind a place
pub record IsWithin (start size : ℕ) (c : Character) : Type 0 where
  pub after_start : start < c.next
  pub in_text : c.next ≤ size
  pub counted : c.line ≤ c.next
  pub numbered : 0 < c.line

-- a place of the text from `low` to `high`, in the line of this number
pub record IsPlace (low high next number : ℕ) : Type 0 where
  pub after_low : low ≤ next
  pub in_text : next ≤ high
  pub counted : number ≤ next + 1
  pub numbered : 0 < number
