-- The text of a content, and the content of a field (X3.9-1966, sections 7.2.3.6 to 7.2.3.9).
use Rattle.std.specs.Prelude.{ℕ, ◌+◌, ◌-◌, ◌*◌, Bool, true, false, ◌&&◌, List, [], ◌∷◌, ◌++◌, replicate, length, take, ℤ, pos, negsuc, neg_ℤ, Result, Ok, Err, Option, Some, None, nat_eq, nat_le, if◌then◌else◌}
use Rattle.std.specs.Fmt.{signed_decimal}
use Rattle.ground.specs.declared.trap.Trap.{Trap}
use Rattle.ground.specs.declared.trap.Trap.TheVariants.{BadField, BadCharacter}

-- ---- output ----

-- a text at the right of a field, or asterisks where it doesn't fit
abbrev pub right_in : ℕ → List ℕ → List ℕ
right_in w text = if nat_le (length text) w then replicate (w - length text) 32 ++ text else replicate w 42

abbrev pub whole_text : ℕ → ℤ → List ℕ
whole_text w n = right_in w (signed_decimal n)

abbrev pub truth_letter : Bool → ℕ
truth_letter true = 84
truth_letter false = 70

abbrev pub truth_text : ℕ → Bool → List ℕ
truth_text w b = replicate (w - 1) 32 ++ truth_letter b ∷ []

-- whether a code is that of a character
abbrev pub is_character : ℕ → Bool
is_character n = nat_le 32 n && nat_le n 126

abbrev pub character_code : ℤ → Option ℕ
character_code (pos n) = if is_character n then Some n else None
character_code (negsuc n) = None

abbrev pub letter_text : ℤ → Result (List ℕ) Trap
letter_text n = elim (character_code n) [ Some c ↦ Ok (c ∷ []) | None ↦ Err BadCharacter ]

-- ---- input ----

-- the next w characters of a record that is extended by blanks
abbrev pub field : ℕ → List ℕ → List ℕ
field w line = take w line ++ replicate (w - length line) 32

-- the value of a digit, or of a blank among digits
abbrev pub digit : ℕ → Option ℕ
digit c = if nat_eq c 32 then Some 0 else (if nat_le 48 c && nat_le c 57 then Some (c - 48) else None)

-- the number of digits after n
abbrev pub digits_from : ℕ → List ℕ → Option ℕ
digits_from n [] = Some n
digits_from n (c ∷ cs) = elim (digit c) [ Some d ↦ digits_from (n * 10 + d) cs | None ↦ None ]

-- digits are at least one character
abbrev pub digits_of : List ℕ → Option ℕ
digits_of [] = None
digits_of (c ∷ cs) = digits_from 0 (c ∷ cs)

-- a number of the range
abbrev pub in_magnitude : Option ℕ → Option ℕ
in_magnitude None = None
in_magnitude (Some n) = if nat_le n 2147483647 then Some n else None

abbrev pub signed_value : (ℕ → ℤ) → Option ℕ → Result ℤ Trap
signed_value sign None = Err BadField
signed_value sign (Some n) = Ok (sign n)

abbrev pub ranged : (ℕ → ℤ) → Option ℕ → Result ℤ Trap
ranged sign o = signed_value sign (in_magnitude o)

abbrev pub minus : ℕ → ℤ
minus n = neg_ℤ (pos n)

abbrev pub sign_of : Bool → ℕ → ℤ
sign_of true n = minus n
sign_of false n = pos n

-- a sign or none, then digits
abbrev pub signed : List ℕ → Result ℤ Trap
signed [] = Ok (pos 0)
signed (c ∷ cs) = if nat_eq c 43 then ranged (sign_of false) (digits_of cs) else (if nat_eq c 45 then ranged (sign_of true) (digits_of cs) else ranged (sign_of false) (digits_of (c ∷ cs)))

-- without the blanks before
abbrev pub unblanked : List ℕ → List ℕ
unblanked [] = []
unblanked (c ∷ cs) = if nat_eq c 32 then unblanked cs else c ∷ cs

abbrev pub whole_of : List ℕ → Result ℤ Trap
whole_of cs = signed (unblanked cs)

abbrev pub truth_at : List ℕ → Result Bool Trap
truth_at [] = Err BadField
truth_at (c ∷ cs) = if nat_eq c 84 then Ok true else (if nat_eq c 70 then Ok false else Err BadField)

abbrev pub truth_of : List ℕ → Result Bool Trap
truth_of cs = truth_at (unblanked cs)

abbrev pub letter_at : ℕ → Result ℤ Trap
letter_at c = if is_character c then Ok (pos c) else Err BadCharacter

abbrev pub letter_of : List ℕ → Result ℤ Trap
letter_of [] = Err BadCharacter
letter_of (c ∷ cs) = letter_at c
