-- What begins at a character of a line: nothing, a token or a fault.
use Rattle.std.specs.Prelude.{ℕ, zero, suc, ◌+◌, ◌-◌, ◌*◌, Bool, false, not, ◌==◌, ◌||◌, List, [], ◌∷◌, ◌++◌, length, take, drop, map, pos, Option, Some, None, nat_le, if◌then◌else◌}
use Rattle.std.specs.List.{prefix_len, list_all}
use Rattle.std.specs.Char.{is_ascii_alphabetic, is_ascii_digit}
use Rattle.ground.specs.declared.fault.Fault.{Fault}
use Rattle.ground.specs.declared.fault.FaultKind.TheVariants.{BadByte, UnclosedQuote, NumberTooLarge, Limit}
use Rattle.ground.specs.declared.token.Dialect.{Dialect}
use Rattle.ground.specs.declared.token.Sign.{Sign}
use Rattle.ground.specs.declared.token.Token.{Token}
use Rattle.ground.specs.declared.token.TokenKind.TheVariants.{Word, Number, Quoted, Semicolon, Sign as SignToken}
use Rattle.free_scan.specs.declared.lines.Character.{Character}
use Rattle.free_scan.specs.declared.lexemes.Lexeme.{Lexeme}
use Rattle.free_scan.specs.declared.lexemes.Lexeme.TheVariants.{Gap, Found, Wrong}
use Rattle.free_scan.specs.Characters.{is_blank, is_printable, is_quote, is_word_byte}
use Rattle.free_scan.specs.Quotes.{quoted, literal}
use Rattle.free_scan.specs.Spellings.{spellings, longest_sign}

-- a blank, or the underscore that ends a line
abbrev pub is_gap : ℕ → Bool
is_gap b = is_blank b || b == 95

-- the bytes of the first n characters
abbrev pub bytes_of : List Character → ℕ → List ℕ
bytes_of cs n = map (λ c. c.byte) (take n cs)

-- a letter followed by letters and digits, at most 255 together
abbrev pub word_size : List Character → ℕ
word_size cs = prefix_len (λ c. is_word_byte c.byte) cs

abbrev pub word : List Character → Lexeme
word cs = if nat_le (word_size cs) 255 then Found (Word (bytes_of cs (word_size cs))) (word_size cs - 1) else Wrong Limit 11

-- the value of digits that follow n
abbrev pub value_after : ℕ → List Character → ℕ
value_after n [] = n
value_after n (c ∷ cs) = value_after (n * 10 + (c.byte - 48)) cs

-- a number of at most 2147483647
abbrev pub in_range : ℕ → Option ℕ
in_range n = if nat_le n 2147483647 then Some n else None

abbrev pub digits_size : List Character → ℕ
digits_size cs = prefix_len (λ c. is_ascii_digit c.byte) cs

abbrev pub number_lexeme : Option ℕ → ℕ → Lexeme
number_lexeme (Some n) size = Found (Number (pos n)) (size - 1)
number_lexeme None size = Wrong NumberTooLarge 0

-- one or more digits
abbrev pub number : List Character → Lexeme
number cs = number_lexeme (in_range (value_after 0 (take (digits_size cs) cs))) (digits_size cs)

-- what stands between the quotes, where `bs` follows the opening one
abbrev pub quoted_text : Dialect → ℕ → List ℕ → List ℕ
quoted_text d quote bs = literal d false (take ((quoted d quote false bs).size - 1) bs)

-- a quoted text on one line, of at most 255 characters; of several faults the smallest number comes
abbrev pub quotation : Dialect → ℕ → List ℕ → Lexeme
quotation d quote bs =
    if not (list_all is_printable (take ((quoted d quote false bs).size) bs)) then Wrong BadByte 0
    else (if not ((quoted d quote false bs).closed) then Wrong UnclosedQuote 0
    else (if nat_le (length (quoted_text d quote bs)) 255 then Found (Quoted (quoted_text d quote bs)) 0
    else Wrong Limit 11))

abbrev pub sign_lexeme : Option (Sign × ℕ) → Lexeme
sign_lexeme (Some (sign, size)) = Found (SignToken sign) (size - 1)
sign_lexeme None = Wrong BadByte 0

abbrev pub sign : Dialect → List Character → Lexeme
sign d cs = sign_lexeme (longest_sign (spellings d) cs)

-- What begins at c, the first of the characters cs; a token also has the number of characters more than c that belong
-- to it. `text` is the whole text, from which a quoted text is read.
abbrev pub lexeme : Dialect → List ℕ → Character → List Character → Lexeme
lexeme d text c cs =
    if is_gap c.byte then Gap
    else (if is_ascii_alphabetic c.byte then word cs
    else (if is_ascii_digit c.byte then number cs
    else (if is_quote c.byte then quotation d c.byte (drop c.next text)
    else (if c.byte == 59 then Found Semicolon 0
    else sign d cs))))

-- how many more characters belong to what begins at one
abbrev pub more_of : Lexeme → ℕ
more_of Gap = 0
more_of (Found kind n) = n
more_of (Wrong kind n) = 0

-- What was read: tokens, and the fault after them where there is one.
pub record Reading : Type 0 where
  pub tokens : List Token
  pub fault : Option Fault

abbrev pub with_tokens : List Token → Reading → Reading
with_tokens ts r = record { tokens = ts ++ r.tokens; fault = r.fault }

-- The tokens of a line's characters, of which the first `more` belong to an earlier token. A token has the line of its
-- first byte.
abbrev pub tokens_of : Dialect → List ℕ → ℕ → ℕ → List Character → Reading
tokens_of d text file more [] = record { tokens = []; fault = None }
tokens_of d text file (suc more) (c ∷ cs) = tokens_of d text file more cs
tokens_of d text file zero (c ∷ cs) =
    elim (lexeme d text c (c ∷ cs)) [
      | Gap ↦ tokens_of d text file zero cs
      | Found kind n ↦ with_tokens (record { kind = kind; place = record { file = file; line = c.line } } ∷ []) (tokens_of d text file n cs)
      | Wrong kind n ↦ record { tokens = []; fault = Some (record { kind = kind; place = record { file = file; line = c.line }; number = n }) }
    ]
