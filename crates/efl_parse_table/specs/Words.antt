-- What the grammar sees of a token: signs, reserved words, and what a word or text is good for.
use Rattle.std.specs.Prelude.{ℕ, Bool, true, false, ◌==◌, ◌&&◌, ◌||◌, List, [], ◌∷◌, Option, Some, None, codes, if◌then◌else◌}
use Rattle.std.specs.Char.{to_ascii_uppercase}
use Rattle.ground.specs.declared.token.Token.{Token}
use Rattle.ground.specs.declared.token.TokenKind.{TokenKind}
use Rattle.ground.specs.declared.token.TokenKind.TheVariants as kinds
use Rattle.ground.specs.declared.token.Sign.{Sign}
use Rattle.ground.specs.declared.token.Sign.TheVariants as signs
use Rattle.efl_parse_table.specs.declared.table.Terminal.{Terminal}
use Rattle.efl_parse_table.specs.declared.table.Terminal.TheVariants as terminals

-- the reserved words in capitals
abbrev pub reserved : List (List ℕ × Terminal)
reserved =
    (codes "PROCEDURE", terminals.Procedure) ∷ (codes "END", terminals.End) ∷ (codes "IMPLICIT", terminals.Implicit) ∷ (codes "INITIAL", terminals.Initial)
    ∷ (codes "COMMON", terminals.Common) ∷ (codes "STRUCT", terminals.Struct) ∷ (codes "INTEGER", terminals.Plain) ∷ (codes "LOGICAL", terminals.Plain)
    ∷ (codes "LONG", terminals.Long) ∷ (codes "REAL", terminals.Floating) ∷ (codes "COMPLEX", terminals.Floating) ∷ (codes "TRUE", terminals.Truth)
    ∷ (codes "FALSE", terminals.Truth) ∷ (codes "IF", terminals.If) ∷ (codes "ELSE", terminals.Else) ∷ (codes "WHILE", terminals.While)
    ∷ (codes "FOR", terminals.For) ∷ (codes "REPEAT", terminals.Repeat) ∷ (codes "UNTIL", terminals.Until) ∷ (codes "DO", terminals.Do)
    ∷ (codes "SWITCH", terminals.Switch) ∷ (codes "CASE", terminals.Case) ∷ (codes "DEFAULT", terminals.Default) ∷ (codes "BREAK", terminals.Leave)
    ∷ (codes "NEXT", terminals.Leave) ∷ (codes "RETURN", terminals.Return) ∷ (codes "GOTO", terminals.Goto) ∷ (codes "GO", terminals.Go)
    ∷ (codes "TO", terminals.To) ∷ (codes "WRITE", terminals.Write) ∷ (codes "READ", terminals.Read) ∷ []

-- whether a word is this one in capitals, in whatever case
abbrev pub is_spelled : List ℕ → List ℕ → Bool
is_spelled [] [] = true
is_spelled [] (c ∷ cs) = false
is_spelled (s ∷ ss) [] = false
is_spelled (s ∷ ss) (c ∷ cs) = (s == to_ascii_uppercase c) && is_spelled ss cs

abbrev pub terminal_in : List (List ℕ × Terminal) → List ℕ → Option Terminal
terminal_in [] w = None
terminal_in (x ∷ xs) w = if is_spelled x.0 w then Some x.1 else terminal_in xs w

abbrev pub is_letter : ℕ → ℕ → Bool
is_letter capital c = to_ascii_uppercase c == capital

-- a word of one letter: `i` and `l`, `c` and `x` are the edits of records
abbrev pub letter_terminal : ℕ → Terminal
letter_terminal c =
    if is_letter 73 c || is_letter 76 c then terminals.WidthLetter
    else (if is_letter 67 c then terminals.CharLetter else (if is_letter 88 c then terminals.SkipLetter else terminals.Letter))

abbrev pub name_terminal : List ℕ → Terminal
name_terminal [] = terminals.Name
name_terminal (c ∷ []) = letter_terminal c
name_terminal (c ∷ d ∷ ds) = terminals.Name

abbrev pub word_seen : Option Terminal → List ℕ → Terminal
word_seen (Some t) w = t
word_seen None w = name_terminal w

abbrev pub word_terminal : List ℕ → Terminal
word_terminal w = word_seen (terminal_in reserved w) w

-- an empty quoted text stands nowhere
abbrev pub text_terminal : List ℕ → Terminal
text_terminal [] = terminals.Other
text_terminal (c ∷ cs) = terminals.Quoted

abbrev pub sign_terminal : Sign → Terminal
sign_terminal signs.Plus = terminals.Plus
sign_terminal signs.Minus = terminals.Minus
sign_terminal signs.Star = terminals.Star
sign_terminal signs.Slash = terminals.Slash
sign_terminal signs.Power = terminals.Power
sign_terminal signs.Open = terminals.Open
sign_terminal signs.Close = terminals.Close
sign_terminal signs.Comma = terminals.Comma
sign_terminal signs.OpenBrace = terminals.OpenBrace
sign_terminal signs.CloseBrace = terminals.CloseBrace
sign_terminal signs.Colon = terminals.Colon
sign_terminal signs.Eq = terminals.Relation
sign_terminal signs.Ne = terminals.Relation
sign_terminal signs.Lt = terminals.Relation
sign_terminal signs.Le = terminals.Relation
sign_terminal signs.Gt = terminals.Relation
sign_terminal signs.Ge = terminals.Relation
sign_terminal signs.And = terminals.And
sign_terminal signs.AndThen = terminals.And
sign_terminal signs.Or = terminals.Or
sign_terminal signs.OrElse = terminals.Or
sign_terminal signs.Not = terminals.Not
sign_terminal signs.Point = terminals.Point
sign_terminal signs.Assign = terminals.Assign
sign_terminal signs.AddAssign = terminals.OperatorAssign
sign_terminal signs.SubAssign = terminals.OperatorAssign
sign_terminal signs.MulAssign = terminals.OperatorAssign
sign_terminal signs.DivAssign = terminals.OperatorAssign
sign_terminal signs.PowerAssign = terminals.OperatorAssign
sign_terminal signs.AndAssign = terminals.OperatorAssign
sign_terminal signs.OrAssign = terminals.OperatorAssign
sign_terminal signs.AndThenAssign = terminals.OperatorAssign
sign_terminal signs.OrElseAssign = terminals.OperatorAssign
sign_terminal signs.Increment = terminals.Stepper
sign_terminal signs.Decrement = terminals.Stepper
sign_terminal signs.Arrow = terminals.Arrow
sign_terminal signs.Dollar = terminals.Dollar
sign_terminal _ = terminals.Other

abbrev pub kind_terminal : TokenKind → Terminal
kind_terminal (kinds.Word w) = word_terminal w
kind_terminal (kinds.Number z) = terminals.Number
kind_terminal (kinds.Quoted text) = text_terminal text
kind_terminal (kinds.Sign s) = sign_terminal s
kind_terminal kinds.LineEnd = terminals.LineEnd
kind_terminal kinds.Semicolon = terminals.Semicolon
kind_terminal kinds.TextEnd = terminals.TextEnd

abbrev pub seen : Token → Terminal
seen t = kind_terminal t.kind
