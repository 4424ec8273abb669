-- Classes of bytes.
use Rattle.std.specs.Prelude.{ℕ, Bool, true, false, ◌==◌, ◌&&◌, ◌||◌, List, [], ◌∷◌, nat_le}
use Rattle.std.specs.Char.{is_ascii_alphabetic, is_ascii_digit}

-- a blank or a tab
abbrev pub is_blank : ℕ → Bool
is_blank b = b == 32 || b == 9

-- a character that may stand in quotes
abbrev pub is_printable : ℕ → Bool
is_printable b = nat_le 32 b && nat_le b 126

-- `'` or `"`
abbrev pub is_quote : ℕ → Bool
is_quote b = b == 39 || b == 34

-- a letter or a digit
abbrev pub is_word_byte : ℕ → Bool
is_word_byte b = is_ascii_alphabetic b || is_ascii_digit b

-- whether a text begins with the byte
abbrev pub begins_with : ℕ → List ℕ → Bool
begins_with b [] = false
begins_with b (c ∷ cs) = c == b

-- whether a line ends here: the text ends, or a byte 10 stands here, maybe behind a byte 13
abbrev pub is_line_end : List ℕ → Bool
is_line_end [] = true
is_line_end (b ∷ bs) = b == 10 || b == 13 && begins_with 10 bs
