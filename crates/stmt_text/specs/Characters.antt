-- The characters of statement texts that are no letters of a word (X3.9-1966, section 3.1).
use Rattle.std.specs.Prelude.{ℕ}

abbrev pub blank : ℕ
blank = 32

abbrev pub opening : ℕ
opening = 40

abbrev pub closing : ℕ
closing = 41

abbrev pub star : ℕ
star = 42

abbrev pub plus : ℕ
plus = 43

abbrev pub comma : ℕ
comma = 44

abbrev pub minus : ℕ
minus = 45

abbrev pub slash : ℕ
slash = 47

abbrev pub equals : ℕ
equals = 61

-- the letters of the fields of a format
abbrev pub letter_a : ℕ
letter_a = 65

abbrev pub letter_h : ℕ
letter_h = 72

abbrev pub letter_i : ℕ
letter_i = 73

abbrev pub letter_l : ℕ
letter_l = 76

abbrev pub letter_x : ℕ
letter_x = 88
