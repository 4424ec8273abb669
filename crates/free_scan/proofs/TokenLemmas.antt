-- The tokens of a line from a character on, and those of a text from a line on, step by step.
use Rattle.std.proofs.Common.{◌≡◌, ℕ, zero, suc, ◌+◌, ◌-◌, ◌<◌, ◌≤◌, List, [], ◌∷◌, ◌++◌, length, get_or, drop, refl, sym, ◌∙◌, ap, subst, arith, append_assoc, length-drop, Some}
use Rattle.std.proofs.lemmas.List.{drop-drop}
use Rattle.ground.specs.declared.token.Dialect.{Dialect}
use Rattle.ground.specs.declared.fault.Fault.{Fault}
use Rattle.ground.specs.declared.token.Token.{Token}
use Rattle.ground.specs.declared.token.TokenKind.{TokenKind}
use Rattle.free_scan.specs.declared.lines.Character.{Character}
use Rattle.free_scan.specs.declared.lexemes.Lexeme.{Lexeme}
use Rattle.free_scan.specs.declared.lexemes.Lexeme.TheVariants.{Gap, Found, Wrong}
use Rattle.free_scan.specs.declared.scanner.LineStart.{LineStart}
use Rattle.free_scan.specs.declared.scanner.Outcome.TheVariants.{Goes as GoesOn, Stops as StopsThere}
use Rattle.free_scan.specs.Lexemes.{Reading, lexeme, tokens_of, with_tokens}
use Rattle.free_scan.specs.Tokens.{LineReading, Goes, Stops, line_reading, lines_from, outcome, tokens_in}
use Rattle.free_scan.proofs.StepLemmas.{drop-at}

-- the characters of an earlier token are passed over
pub tokens_of-more : (d : Dialect) (text : List ℕ) (file more : ℕ) (cs : List Character) → more ≤ length cs → tokens_of d text file more cs ≡ tokens_of d text file 0 (drop more cs)
tokens_of-more d text file zero cs h = refl
tokens_of-more d text file (suc more) [] h = absurd (omega arith)
tokens_of-more d text file (suc more) (c ∷ cs) h = tokens_of-more d text file more cs (omega arith)

-- a line's tokens by what begins at its first character
abbrev pub by_lexeme : Dialect → List ℕ → ℕ → Character → List Character → Lexeme → Reading
by_lexeme d text file c cs Gap = tokens_of d text file 0 cs
by_lexeme d text file c cs (Found kind n) = with_tokens (record { kind = kind; place = record { file = file; line = c.line } } ∷ []) (tokens_of d text file n cs)
by_lexeme d text file c cs (Wrong kind n) = record { tokens = []; fault = Some (record { kind = kind; place = record { file = file; line = c.line }; number = n }) }

tokens_of-lexeme : (d : Dialect) (text : List ℕ) (file : ℕ) (c : Character) (cs : List Character) (x : Lexeme) → lexeme d text c (c ∷ cs) ≡ x → tokens_of d text file 0 (c ∷ cs) ≡ by_lexeme d text file c cs x
tokens_of-lexeme d text file c cs x e = subst (λ y. tokens_of d text file 0 (c ∷ cs) ≡ by_lexeme d text file c cs y) e refl

tokens_of-here : (d : Dialect) (text : List ℕ) (file : ℕ) (cs : List Character) (at : ℕ) (other : Character) (x : Lexeme) → at < length cs
    → lexeme d text (get_or cs at other) (drop at cs) ≡ x → tokens_of d text file 0 (drop at cs) ≡ by_lexeme d text file (get_or cs at other) (drop (at + 1) cs) x
tokens_of-here d text file cs at other x h e =
    let c = get_or cs at other in
    let here : drop at cs ≡ c ∷ drop (at + 1) cs = drop-at cs at other h in
    ap (tokens_of d text file 0) here ∙ tokens_of-lexeme d text file c (drop (at + 1) cs) x (ap (lexeme d text c) (sym here) ∙ e)

tokens_of-further : (d : Dialect) (text : List ℕ) (file : ℕ) (cs : List Character) (at more : ℕ) → more + (at + 1) ≤ length cs
    → tokens_of d text file more (drop (at + 1) cs) ≡ tokens_of d text file 0 (drop (at + (1 + more)) cs)
tokens_of-further d text file cs at more fits =
    let same : at + 1 + more ≡ at + (1 + more) = omega arith in
    tokens_of-more d text file more (drop (at + 1) cs) (omega (arith, length-drop (at + 1) cs))
    ∙ ap (tokens_of d text file 0) (drop-drop more (at + 1) cs ∙ ap (λ n. drop n cs) same)

-- the tokens from a character on, where a token begins there
pub tokens_of-found : (d : Dialect) (text : List ℕ) (file : ℕ) (cs : List Character) (at : ℕ) (other : Character) (kind : TokenKind) (more : ℕ) → at < length cs
    → lexeme d text (get_or cs at other) (drop at cs) ≡ Found kind more → more + (at + 1) ≤ length cs
    → tokens_of d text file 0 (drop at cs) ≡ with_tokens (record { kind = kind; place = record { file = file; line = (get_or cs at other).line } } ∷ []) (tokens_of d text file 0 (drop (at + (1 + more)) cs))
tokens_of-found d text file cs at other kind more h e fits =
    tokens_of-here d text file cs at other (Found kind more) h e
    ∙ ap (with_tokens (record { kind = kind; place = record { file = file; line = (get_or cs at other).line } } ∷ [])) (tokens_of-further d text file cs at more fits)

pub with_tokens-append : (ts us : List Token) (r : Reading) → with_tokens ts (with_tokens us r) ≡ with_tokens (ts ++ us) r
with_tokens-append ts us r = ap (λ (x : List Token). record { tokens = x; fault = r.fault }) (sym (append_assoc ts us r.tokens))

-- the bytes of an earlier line are passed over
pub lines_from-gone : (d : Dialect) (text : List ℕ) (file : ℕ) (s : LineStart) (gone : ℕ) (bs : List ℕ) → gone ≤ length bs → lines_from d text file s gone bs ≡ lines_from d text file s 0 (drop gone bs)
lines_from-gone d text file s zero bs h = refl
lines_from-gone d text file s (suc gone) [] h = absurd (omega arith)
lines_from-gone d text file s (suc gone) (b ∷ bs) h = lines_from-gone d text file s gone bs (omega arith)

-- a text's tokens by its first line
abbrev pub by_reading : Dialect → List ℕ → ℕ → LineStart → List ℕ → LineReading → Reading
by_reading d text file s bs (Goes tokens after) = with_tokens tokens (lines_from d text file after (after.next - (s.next + 1)) bs)
by_reading d text file s bs (Stops tokens fault) = record { tokens = tokens; fault = Some fault }

lines_from-here : (d : Dialect) (text : List ℕ) (file : ℕ) (s : LineStart) → s.next < length text
    → lines_from d text file s 0 (drop s.next text) ≡ by_reading d text file s (drop (s.next + 1) text) (line_reading d text file s)
lines_from-here d text file s h = ap (lines_from d text file s 0) (drop-at text s.next 0 h) ∙ refl

lines_from-goes : (d : Dialect) (text : List ℕ) (file : ℕ) (s after : LineStart) → s.next + 1 ≤ after.next → after.next ≤ length text
    → lines_from d text file after (after.next - (s.next + 1)) (drop (s.next + 1) text) ≡ lines_from d text file after 0 (drop after.next text)
lines_from-goes d text file s after low high =
    let same : s.next + 1 + (after.next - (s.next + 1)) ≡ after.next = omega arith in
    lines_from-gone d text file after (after.next - (s.next + 1)) (drop (s.next + 1) text) (omega (arith, length-drop (s.next + 1) text))
    ∙ ap (lines_from d text file after 0) (drop-drop (after.next - (s.next + 1)) (s.next + 1) text ∙ ap (λ n. drop n text) same)

reading-goes : (r : LineReading) (after : LineStart) → GoesOn after ≡ outcome r → r ≡ Goes (tokens_in r) after
reading-goes (Goes tokens found) after e = let same : found ≡ after = cc in ap (Goes tokens) same
reading-goes (Stops tokens fault) after e = absurd cc

reading-stops : (r : LineReading) (fault : Fault) → StopsThere fault ≡ outcome r → r ≡ Stops (tokens_in r) fault
reading-stops (Goes tokens after) fault e = absurd cc
reading-stops (Stops tokens found) fault e = let same : found ≡ fault = cc in ap (Stops tokens) same

-- the text's tokens from a line on, where the line comes to its end
pub lines-go : (d : Dialect) (text : List ℕ) (file : ℕ) (s after : LineStart) → s.next < length text → GoesOn after ≡ outcome (line_reading d text file s)
    → s.next + 1 ≤ after.next → after.next ≤ length text
    → lines_from d text file s 0 (drop s.next text) ≡ with_tokens (tokens_in (line_reading d text file s)) (lines_from d text file after 0 (drop after.next text))
lines-go d text file s after h e low high =
    lines_from-here d text file s h
    ∙ ap (by_reading d text file s (drop (s.next + 1) text)) (reading-goes (line_reading d text file s) after e)
    ∙ ap (with_tokens (tokens_in (line_reading d text file s))) (lines_from-goes d text file s after low high)

-- the text's tokens from a line on, where the line has a fault
pub lines-stop : (d : Dialect) (text : List ℕ) (file : ℕ) (s : LineStart) (fault : Fault) → s.next < length text → StopsThere fault ≡ outcome (line_reading d text file s)
    → lines_from d text file s 0 (drop s.next text) ≡ record { tokens = tokens_in (line_reading d text file s); fault = Some fault }
lines-stop d text file s fault h e =
    lines_from-here d text file s h
    ∙ ap (by_reading d text file s (drop (s.next + 1) text)) (reading-stops (line_reading d text file s) fault e)
