-- Include lines: the word that makes a line one, and the file's name on it.
use Rattle.std.specs.Prelude.{ℕ, ◌+◌, ◌-◌, Bool, false, ◌==◌, ◌&&◌, ◌||◌, List, [], ◌∷◌, length, drop, take, reverse, Option, Some, None, codes, nat_le, slice_get, slice_index, if◌then◌else◌}
use Rattle.std.specs.List.{list_any, prefix_len}
use Rattle.free_scan.specs.declared.lines.Character.{Character}
use Rattle.free_scan.specs.Characters.{is_blank, is_quote, is_line_end}
use Rattle.free_scan.specs.Lexemes.{is_gap, word_size}
use Rattle.free_scan.specs.Spellings.{is_spelled}

-- a line's characters from its first token on
abbrev pub begun : List Character → List Character
begun cs = drop (prefix_len (λ c. is_gap c.byte) cs) cs

-- two characters, where both are there
abbrev pub both : Option Character → Option Character → Option (Character × Character)
both (Some first) (Some last) = Some (first, last)
both (Some first) None = None
both None last = None

-- the first and the last character of the word `include`, in whatever case, which begins here
abbrev pub include_word : List Character → Option (Character × Character)
include_word cs = if is_spelled (codes "include") cs && word_size cs == 7 then both (slice_get cs 0) (slice_get cs 6) else None

-- the bytes before the line's end
abbrev pub text_size : List ℕ → ℕ
text_size [] = 0
text_size (b ∷ bs) = if is_line_end (b ∷ bs) then 0 else 1 + text_size bs

-- the quote that is open behind a byte, where this one was open before it; one that is not closed opens nothing
abbrev pub open_quote : Option ℕ → ℕ → List ℕ → Option ℕ
open_quote (Some quote) b bs = if b == quote then None else Some quote
open_quote None b bs = if is_quote b && list_any (λ c. c == b) bs then Some b else None

abbrev pub is_comment : Option ℕ → ℕ → Bool
is_comment (Some quote) b = false
is_comment None b = b == 35

-- the bytes before a comment
abbrev pub name_size : Option ℕ → List ℕ → ℕ
name_size quote [] = 0
name_size quote (b ∷ bs) = if is_comment quote b then 0 else 1 + name_size (open_quote quote b bs) bs

abbrev pub without_first_blanks : List ℕ → List ℕ
without_first_blanks bs = drop (prefix_len is_blank bs) bs

abbrev pub without_last_blanks : List ℕ → List ℕ
without_last_blanks bs = take (length bs - prefix_len is_blank (reverse bs)) bs

-- whether two characters are a pair of quotes or of parentheses
abbrev pub are_pair : ℕ → ℕ → Bool
are_pair first last = is_quote first && last == first || first == 40 && last == 41

-- without one pair of quotes or parentheses around it
abbrev pub unwrapped : List ℕ → List ℕ
unwrapped bs =
    if nat_le 2 (length bs) && are_pair (slice_index bs 0) (slice_index bs (length bs - 1))
    then take (length bs - 2) (drop 1 bs)
    else bs

-- The file's name, where `bs` follows the word: the rest of the line without its comment, without blanks at the ends and
-- without one pair of quotes or parentheses around it (own in this form; its underscores stay).
abbrev pub file_name : List ℕ → List ℕ
file_name bs =
    let rest = take (text_size bs) bs in
    unwrapped (without_last_blanks (without_first_blanks (take (name_size None rest) rest)))
