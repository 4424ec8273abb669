-- What the grammar sees of a token: signs, reserved words, and what a word, number or text is good for.
use Rattle.std.specs.Prelude.{ℕ, Bool, true, false, ◌==◌, ◌&&◌, ◌||◌, nat_le, nat_lt, ◌%◌, ◌/◌, ℤ, pos, negsuc, List, [], ◌∷◌, Option, Some, None, codes, if◌then◌else◌}
use Rattle.std.specs.Char.{to_ascii_uppercase}
use Rattle.std.specs.List.{list_all}
use Rattle.ground.specs.declared.token.Token.{Token}
use Rattle.ground.specs.declared.token.TokenKind.{TokenKind}
use Rattle.ground.specs.declared.token.TokenKind.TheVariants as kinds
use Rattle.ground.specs.declared.token.Sign.{Sign}
use Rattle.ground.specs.declared.token.Sign.TheVariants as signs
use Rattle.rat_parse_table.specs.declared.table.Terminal.{Terminal}
use Rattle.rat_parse_table.specs.declared.table.Terminal.TheVariants as terminals

-- the reserved words in capitals
abbrev pub reserved : List (List ℕ × Terminal)
reserved =
    (codes "SUBROUTINE", terminals.Subroutine) ∷ (codes "FUNCTION", terminals.Function) ∷ (codes "BLOCK", terminals.Block) ∷ (codes "DATA", terminals.Data)
    ∷ (codes "END", terminals.End) ∷ (codes "IF", terminals.If) ∷ (codes "ELSE", terminals.Else) ∷ (codes "WHILE", terminals.While)
    ∷ (codes "FOR", terminals.For) ∷ (codes "REPEAT", terminals.Repeat) ∷ (codes "UNTIL", terminals.Until) ∷ (codes "DO", terminals.Do)
    ∷ (codes "SWITCH", terminals.Switch) ∷ (codes "CASE", terminals.Case) ∷ (codes "DEFAULT", terminals.Default) ∷ (codes "BREAK", terminals.Leave)
    ∷ (codes "NEXT", terminals.Leave) ∷ (codes "RETURN", terminals.Return) ∷ (codes "GO", terminals.Go) ∷ (codes "GOTO", terminals.Goto)
    ∷ (codes "TO", terminals.To) ∷ (codes "CALL", terminals.Call) ∷ (codes "CONTINUE", terminals.Continue) ∷ (codes "STOP", terminals.Stop)
    ∷ (codes "READ", terminals.Transfer) ∷ (codes "WRITE", terminals.Transfer) ∷ (codes "FORMAT", terminals.Format) ∷ (codes "INTEGER", terminals.Type)
    ∷ (codes "LOGICAL", terminals.Type) ∷ (codes "REAL", terminals.Type) ∷ (codes "COMPLEX", terminals.Type) ∷ (codes "DOUBLE", terminals.Double)
    ∷ (codes "PRECISION", terminals.Precision) ∷ (codes "DIMENSION", terminals.Dimension) ∷ (codes "COMMON", terminals.Common) ∷ (codes "EQUIVALENCE", terminals.Equivalence) ∷ []

-- whether a word is this one in capitals, in whatever case
abbrev pub is_spelled : List ℕ → List ℕ → Bool
is_spelled [] [] = true
is_spelled [] (c ∷ cs) = false
is_spelled (s ∷ ss) [] = false
is_spelled (s ∷ ss) (c ∷ cs) = (s == to_ascii_uppercase c) && is_spelled ss cs

abbrev pub terminal_in : List (List ℕ × Terminal) → List ℕ → Option Terminal
terminal_in [] w = None
terminal_in (x ∷ xs) w = if is_spelled x.0 w then Some x.1 else terminal_in xs w

abbrev pub is_digit : ℕ → Bool
is_digit c = nat_le 48 c && nat_le c 57

abbrev pub is_letter : ℕ → ℕ → Bool
is_letter capital c = to_ascii_uppercase c == capital

abbrev pub is_none : List ℕ → Bool
is_none [] = true
is_none (c ∷ cs) = false

-- `Iw`, `Lw` or `A1`
abbrev pub is_edit_word : ℕ → ℕ → List ℕ → Bool
is_edit_word c d ds =
    if is_letter 65 c then (d == 49) && is_none ds else (if is_letter 73 c || is_letter 76 c then is_digit d && list_all is_digit ds else false)

-- a field of a format: one of those, or `X` (X3.9-1966, section 7.2.3)
abbrev pub is_field_word : List ℕ → Bool
is_field_word [] = false
is_field_word (c ∷ []) = is_letter 88 c
is_field_word (c ∷ d ∷ ds) = is_edit_word c d ds

abbrev pub word_seen : Option Terminal → List ℕ → Terminal
word_seen (Some t) w = t
word_seen None w = if is_field_word w then terminals.FieldWord else terminals.Name

abbrev pub word_terminal : List ℕ → Terminal
word_terminal w = word_seen (terminal_in reserved w) w

-- at most five digits, all of them octal
abbrev pub has_octal_digits : ℕ → Bool
has_octal_digits n =
    nat_le n 77777 && nat_lt (n % 10) 8 && nat_lt (n / 10 % 10) 8 && nat_lt (n / 100 % 10) 8 && nat_lt (n / 1000 % 10) 8
    && nat_lt (n / 10000 % 10) 8

abbrev pub is_octal : ℤ → Bool
is_octal (pos n) = has_octal_digits n
is_octal (negsuc n) = false

abbrev pub number_terminal : ℤ → Terminal
number_terminal z = if is_octal z then terminals.Octal else terminals.Number

-- a quoted text of one character, or of more; an empty one stands nowhere
abbrev pub text_terminal : List ℕ → Terminal
text_terminal [] = terminals.Other
text_terminal (c ∷ []) = terminals.Letter
text_terminal (c ∷ d ∷ ds) = terminals.Chars

abbrev pub sign_terminal : Sign → Terminal
sign_terminal signs.Plus = terminals.Adding
sign_terminal signs.Minus = terminals.Adding
sign_terminal signs.Star = terminals.Star
sign_terminal signs.Slash = terminals.Slash
sign_terminal signs.Power = terminals.Power
sign_terminal signs.Open = terminals.Open
sign_terminal signs.Close = terminals.Close
sign_terminal signs.Comma = terminals.Comma
sign_terminal signs.OpenBrace = terminals.OpenBrace
sign_terminal signs.CloseBrace = terminals.CloseBrace
sign_terminal signs.Colon = terminals.Colon
sign_terminal signs.Eq = terminals.Relation
sign_terminal signs.Ne = terminals.Relation
sign_terminal signs.Lt = terminals.Relation
sign_terminal signs.Le = terminals.Relation
sign_terminal signs.Gt = terminals.Relation
sign_terminal signs.Ge = terminals.Relation
sign_terminal signs.And = terminals.And
sign_terminal signs.Or = terminals.Or
sign_terminal signs.Not = terminals.Not
sign_terminal signs.True = terminals.Truth
sign_terminal signs.False = terminals.Truth
sign_terminal signs.Assign = terminals.Assign
sign_terminal _ = terminals.Other

abbrev pub kind_terminal : TokenKind → Terminal
kind_terminal (kinds.Word w) = word_terminal w
kind_terminal (kinds.Number z) = number_terminal z
kind_terminal (kinds.Quoted text) = text_terminal text
kind_terminal (kinds.Sign s) = sign_terminal s
kind_terminal kinds.LineEnd = terminals.LineEnd
kind_terminal kinds.Semicolon = terminals.Semicolon
kind_terminal kinds.TextEnd = terminals.TextEnd

abbrev pub seen : Token → Terminal
seen t = kind_terminal t.kind
