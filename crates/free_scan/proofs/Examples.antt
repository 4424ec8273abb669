-- Small texts and their tokens, by the definition.
use Rattle.std.specs.Prelude.{◌≡◌, ℕ, List, [], ◌∷◌, ◌++◌, map, pos, Some, None, refl, codes}
use Rattle.ground.specs.declared.fault.FaultKind.{FaultKind}
use Rattle.ground.specs.declared.fault.FaultKind.TheVariants.{NumberTooLarge, PercentLine, UnclosedQuote}
use Rattle.ground.specs.declared.token.Dialect.TheVariants.{Ratfor, Efl}
use Rattle.ground.specs.declared.token.Token.{Token}
use Rattle.ground.specs.declared.token.TokenKind.{TokenKind}
use Rattle.ground.specs.declared.token.TokenKind.TheVariants.{Word, Number, Quoted, Semicolon, LineEnd, TextEnd, Sign as SignToken}
use Rattle.ground.specs.declared.token.Sign.TheVariants.{Plus, Open, Close, Assign, AddAssign}
use Rattle.free_scan.specs.Lexemes.{Reading}
use Rattle.free_scan.specs.Tokens.{scanned}

abbrev at_line : ℕ → List TokenKind → List Token
at_line n kinds = map (λ kind. record { kind = kind; place = record { file = 3; line = n } }) kinds

abbrev whole : List Token → Reading
whole ts = record { tokens = ts; fault = None }

abbrev up_to : List Token → FaultKind → ℕ → ℕ → Reading
up_to ts kind n number = record { tokens = ts; fault = Some (record { kind = kind; place = record { file = 3; line = n }; number = number }) }

empty : scanned Ratfor [] 3 ≡ whole (at_line 1 (TextEnd ∷ []))
empty = refl

-- k = 2 + 3, with a comment
one_line : scanned Ratfor (codes "k = 2+3 # c" ++ 10 ∷ []) 3 ≡ whole (at_line 1 (Word (codes "k") ∷ SignToken Assign ∷ Number (pos 2) ∷ SignToken Plus ∷ Number (pos 3) ∷ LineEnd ∷ []) ++ at_line 2 (TextEnd ∷ []))
one_line = refl

-- a Ratfor line that ends with `_` is continued, and an EFL line is joined
ratfor_underscore : scanned Ratfor (codes "a_b_ # c" ++ 10 ∷ codes " c" ++ 10 ∷ []) 3 ≡ whole (at_line 1 (Word (codes "ab") ∷ []) ++ at_line 2 (Word (codes "c") ∷ LineEnd ∷ []) ++ at_line 3 (TextEnd ∷ []))
ratfor_underscore = refl

efl_underscore : scanned Efl (codes "a_b_ # c" ++ 10 ∷ codes " c +_" ++ 10 ∷ codes "=" ++ 13 ∷ 10 ∷ []) 3 ≡ whole (at_line 1 (Word (codes "abc") ∷ []) ++ at_line 2 (SignToken AddAssign ∷ []) ++ at_line 4 (TextEnd ∷ []))
efl_underscore = refl

-- the line of a joined token is that of its first byte; an open parenthesis of Ratfor gives no LineEnd
open_parenthesis : scanned Ratfor (codes "f(" ++ 10 ∷ 10 ∷ codes "a)" ++ 10 ∷ []) 3 ≡ whole (at_line 1 (Word (codes "f") ∷ SignToken Open ∷ []) ++ at_line 3 (Word (codes "a") ∷ SignToken Close ∷ LineEnd ∷ []) ++ at_line 4 (TextEnd ∷ []))
open_parenthesis = refl

included : scanned Ratfor (codes "include 'a#b' # c" ++ 10 ∷ []) 3 ≡ whole (at_line 1 (Word (codes "include") ∷ Quoted (codes "a#b") ∷ LineEnd ∷ []) ++ at_line 2 (TextEnd ∷ []))
included = refl

percent_line : scanned Efl (codes "a_" ++ 10 ∷ codes "%b") 3 ≡ up_to (at_line 1 (Word (codes "a") ∷ [])) PercentLine 2 0
percent_line = refl

too_large : scanned Efl (codes "1;2147483648") 3 ≡ up_to (at_line 1 (Number (pos 1) ∷ Semicolon ∷ [])) NumberTooLarge 1 0
too_large = refl

unclosed : scanned Ratfor (codes "a 'b") 3 ≡ up_to (at_line 1 (Word (codes "a") ∷ [])) UnclosedQuote 1 0
unclosed = refl
