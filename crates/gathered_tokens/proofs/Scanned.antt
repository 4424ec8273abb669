-- Each token that is scanned from a text is written: a number is in its range, a word has letters and digits alone and a letter first,
-- and a quoted text, or the name of an included file, has characters that may stand in quotes.
use Rattle.std.proofs.Common.{◌≡◌, ℕ, zero, suc, ◌+◌, ◌-◌, arith, Bool, true, false, ◌&&◌, ◌||◌, not, cond, List, [], ◌∷◌, ◌++◌, length, take, drop, map, Option, Some, None, refl, sym, ap, subst, ◌∙◌}
use Rattle.std.specs.Prelude.{⊤, ◌==◌, codes, nat_le, slice_get, if◌then◌else◌}
use Rattle.std.specs.Char.{is_ascii_alphabetic, is_ascii_digit, to_ascii_lowercase, to_ascii_uppercase}
use Rattle.std.specs.List.{All, list_all}
use Rattle.std.proofs.lemmas.Bool.{and_from, and_parts, cond_both, eqb-true, le-leb, or_left}
use Rattle.std.proofs.lemmas.Bool.Decides.{nat_tests}
use Rattle.std.proofs.lemmas.List.Elements.{All-append, All-cons, All-nil}
use Rattle.ground.specs.Faults.{fault_at}
use Rattle.ground.specs.declared.fault.Fault.{Fault}
use Rattle.ground.specs.declared.fault.FaultKind.TheVariants.{BadByte, UnclosedQuote, Limit, PercentLine}
use Rattle.ground.specs.declared.token.Dialect.{Dialect}
use Rattle.ground.specs.declared.token.Sign.{Sign}
use Rattle.ground.specs.declared.token.Token.{Token}
use Rattle.ground.specs.declared.token.TokenKind.TheVariants.{Word, Quoted, Semicolon, LineEnd, TextEnd}
use Rattle.f66_names.specs.Shapes.{is_capital, is_digit, is_name}
use Rattle.free_scan.specs.declared.lexemes.Lexeme.{Lexeme}
use Rattle.free_scan.specs.declared.lexemes.Lexeme.TheVariants.{Gap, Found, Wrong}
use Rattle.free_scan.specs.declared.lines.Character.{Character}
use Rattle.free_scan.specs.declared.lines.LineEnding.{LineEnding}
use Rattle.free_scan.specs.declared.scanner.LineStart.{LineStart}
use Rattle.free_scan.specs.Characters.{begins_with, is_printable, is_quote, is_word_byte}
use Rattle.free_scan.specs.IncludeNames.{begun, both, file_name, include_word}
use Rattle.free_scan.specs.Lexemes.{Reading, bytes_of, digits_size, in_range, is_gap, lexeme, number, number_lexeme, quotation, quoted_text, sign, sign_lexeme, tokens_of, value_after, with_tokens, word, word_size}
use Rattle.free_scan.specs.Lines.{Line, line}
use Rattle.free_scan.specs.Quotes.{escapes, literal, quoted}
use Rattle.free_scan.specs.Spellings.{is_spelled, longest_sign, spellings}
use Rattle.free_scan.specs.Tokens.{Goes, LineReading, Stops, include_line, line_after, line_by_word, line_end, line_of, line_reading, lines_from, plain_line, scanned, text_start, token_at, tokens_in}
use Rattle.gathered_tokens.specs.Written.{IsWritten, TokenIsWritten}

-- ---- words ----

capital : (b : ℕ) → is_ascii_alphabetic b ≡ true → is_capital (to_ascii_uppercase b) ≡ true
capital b e = grind (arith, nat_tests)

letter_or_digit : (b : ℕ) → is_word_byte b ≡ true → (is_capital (to_ascii_uppercase b) || is_digit (to_ascii_uppercase b)) ≡ true
letter_or_digit b e = grind (arith, nat_tests)

-- a letter that is an I, in whatever case
letter : (b : ℕ) → (to_ascii_lowercase b == 105) ≡ true → is_ascii_alphabetic b ≡ true
letter b e = grind (arith, nat_tests)

size_after : (c : Character) (cs : List Character) → is_word_byte c.byte ≡ true → word_size (c ∷ cs) ≡ suc (word_size cs)
size_after c cs e =
    let next : 1 + word_size cs ≡ suc (word_size cs) = omega arith in
    ap (λ b. cond b (1 + word_size cs) 0) e ∙ next

abbrev AreLetters : List ℕ → Type 0
AreLetters bs = list_all (λ b. is_capital b || is_digit b) (map to_ascii_uppercase bs) ≡ true

letters : (cs : List Character) → AreLetters (bytes_of cs (word_size cs))
letters [] = refl
letters (c ∷ cs) = by (is_word_byte c.byte) refl (letters cs)
  where
    by : (b : Bool) → is_word_byte c.byte ≡ b → AreLetters (bytes_of cs (word_size cs)) → AreLetters (bytes_of (c ∷ cs) (word_size (c ∷ cs)))
    by true e h = subst (λ n. AreLetters (bytes_of (c ∷ cs) n)) (sym (size_after c cs e)) (and_from _ _ (letter_or_digit c.byte e) h)
    by false e h = subst (λ b. AreLetters (bytes_of (c ∷ cs) (cond b (1 + word_size cs) 0))) (sym e) refl

abbrev IsName : List ℕ → Type 0
IsName bs = is_name (map to_ascii_uppercase bs) ≡ true

named : (c : Character) (cs : List Character) → is_ascii_alphabetic c.byte ≡ true → IsName (bytes_of (c ∷ cs) (word_size (c ∷ cs)))
named c cs e =
    subst (λ n. IsName (bytes_of (c ∷ cs) n)) (sym (size_after c cs (or_left (is_ascii_alphabetic c.byte) (is_ascii_digit c.byte) e))) (and_from _ _ (capital c.byte e) (letters cs))

spelled_named : (cs : List Character) → is_spelled (codes "include") cs ≡ true → IsName (bytes_of cs (word_size cs))
spelled_named [] e = absurd cc
spelled_named (c ∷ cs) e = named c cs (letter c.byte ((and_parts _ _ e).0))

-- the word of an include line
include_named : (cs : List Character) (first last : Character) → include_word cs ≡ Some (first, last) → IsName (bytes_of cs 7)
include_named cs first last = by (is_spelled (codes "include") cs && word_size cs == 7) refl
  where
    by : (b : Bool) → (is_spelled (codes "include") cs && word_size cs == 7) ≡ b → cond b (both (slice_get cs 0) (slice_get cs 6)) None ≡ Some (first, last) → IsName (bytes_of cs 7)
    by true e f = let parts = and_parts (is_spelled (codes "include") cs) (word_size cs == 7) e in subst (λ n. IsName (bytes_of cs n)) (eqb-true (word_size cs) 7 parts.1) (spelled_named cs parts.0)
    by false e f = absurd cc

-- ---- quoted texts ----

shorter : (p : ℕ → Bool) (n : ℕ) (bs : List ℕ) → list_all p (take (suc n) bs) ≡ true → list_all p (take n bs) ≡ true
shorter p zero bs h = refl
shorter p (suc n) [] h = refl
shorter p (suc n) (b ∷ bs) h = let parts = and_parts (p b) (list_all p (take (suc n) bs)) h in and_from _ _ parts.0 (shorter p n bs parts.1)

without_last : (p : ℕ → Bool) (n : ℕ) (bs : List ℕ) → list_all p (take n bs) ≡ true → list_all p (take (n - 1) bs) ≡ true
without_last p zero bs h = refl
without_last p (suc n) bs h = let same : n ≡ suc n - 1 = omega arith in subst (λ k. list_all p (take k bs) ≡ true) same (shorter p n bs h)

literal_kept : (p : ℕ → Bool) (d : Dialect) (taken : Bool) (bs : List ℕ) → list_all p bs ≡ true → list_all p (literal d taken bs) ≡ true
literal_kept p d taken [] h = refl
literal_kept p d taken (b ∷ bs) h =
    let parts = and_parts (p b) (list_all p bs) h in
    cond_both (not taken && escapes d b) (literal d true bs) (b ∷ literal d false bs) (λ x. list_all p x ≡ true) (λ e. literal_kept p d true bs parts.1) (λ e. and_from _ _ parts.0 (literal_kept p d false bs parts.1))

-- ---- what begins at a character ----

abbrev Fits : Lexeme → Type 0
Fits Gap = ⊤
Fits (Found kind n) = IsWritten kind
Fits (Wrong kind n) = ⊤

word_fits : (c : Character) (cs : List Character) → is_ascii_alphabetic c.byte ≡ true → Fits (word (c ∷ cs))
word_fits c cs e =
    let size = word_size (c ∷ cs) in
    cond_both (nat_le size 255) (Found (Word (bytes_of (c ∷ cs) size)) (size - 1)) (Wrong Limit 11) Fits (λ f. named c cs e) (λ f. tt)

number_fits : (cs : List Character) → Fits (number cs)
number_fits cs = by (value_after 0 (take (digits_size cs) cs))
  where
    by : (n : ℕ) → Fits (number_lexeme (in_range n) (digits_size cs))
    by n = cond_both (nat_le n 2147483647) (Some n) None (λ o. Fits (number_lexeme o (digits_size cs))) (λ e. and_from _ _ (le-leb 0 n (omega arith)) e) (λ e. tt)

quotation_fits : (d : Dialect) (quote : ℕ) (bs : List ℕ) → Fits (quotation d quote bs)
quotation_fits d quote bs = by (list_all is_printable (take size bs)) refl
  where
    size : ℕ
    size = (quoted d quote false bs).size

    by : (b : Bool) → list_all is_printable (take size bs) ≡ b
        → Fits (if not b then Wrong BadByte 0 else (if not ((quoted d quote false bs).closed) then Wrong UnclosedQuote 0 else (if nat_le (length (quoted_text d quote bs)) 255 then Found (Quoted (quoted_text d quote bs)) 0 else Wrong Limit 11)))
    by false e = tt
    by true e =
        cond_both (not ((quoted d quote false bs).closed)) (Wrong UnclosedQuote 0) _ Fits (λ f. tt)
        (λ f. cond_both (nat_le (length (quoted_text d quote bs)) 255) (Found (Quoted (quoted_text d quote bs)) 0) (Wrong Limit 11) Fits
        (λ g. literal_kept is_printable d false (take (size - 1) bs) (without_last is_printable size bs e)) (λ g. tt))

sign_fits : (o : Option (Sign × ℕ)) → Fits (sign_lexeme o)
sign_fits (Some (s, size)) = tt
sign_fits None = tt

lexeme_fits : (d : Dialect) (text : List ℕ) (c : Character) (cs : List Character) → Fits (lexeme d text c (c ∷ cs))
lexeme_fits d text c cs =
    cond_both (is_gap c.byte) Gap _ Fits (λ e. tt)
    (λ e. cond_both (is_ascii_alphabetic c.byte) (word (c ∷ cs)) _ Fits (word_fits c cs)
    (λ f. cond_both (is_ascii_digit c.byte) (number (c ∷ cs)) _ Fits (λ g. number_fits (c ∷ cs))
    (λ g. cond_both (is_quote c.byte) (quotation d c.byte (drop c.next text)) _ Fits (λ h. quotation_fits d c.byte (drop c.next text))
    (λ h. cond_both (c.byte == 59) (Found Semicolon 0) (sign d (c ∷ cs)) Fits (λ i. tt) (λ i. sign_fits (longest_sign (spellings d) (c ∷ cs)))))))

-- ---- lines ----

abbrev AreWritten : List Token → Type 0
AreWritten ts = All TokenIsWritten ts

none : AreWritten []
none = All-nil TokenIsWritten

and_more : (t : Token) (ts : List Token) → IsWritten t.kind → AreWritten ts → AreWritten (t ∷ ts)
and_more t ts g h = All-cons TokenIsWritten t ts g h

tokens_written : (d : Dialect) (text : List ℕ) (file more : ℕ) (cs : List Character) → AreWritten (tokens_of d text file more cs).tokens
tokens_written d text file more [] = none
tokens_written d text file (suc more) (c ∷ cs) = tokens_written d text file more cs
tokens_written d text file zero (c ∷ cs) = by (lexeme d text c (c ∷ cs)) (lexeme_fits d text c cs) (λ n. tokens_written d text file n cs)
  where
    by : (x : Lexeme) → Fits x → ((n : ℕ) → AreWritten (tokens_of d text file n cs).tokens)
        → AreWritten (elim x as (λ y. Reading) [
          | Gap ↦ tokens_of d text file zero cs
          | Found kind n ↦ with_tokens (record { kind = kind; place = record { file = file; line = c.line } } ∷ []) (tokens_of d text file n cs)
          | Wrong kind n ↦ record { tokens = []; fault = Some (record { kind = kind; place = record { file = file; line = c.line }; number = n }) }
        ]).tokens
    by Gap h rest = rest 0
    by (Found kind n) h rest = and_more (record { kind = kind; place = record { file = file; line = c.line } }) (tokens_of d text file n cs).tokens h (rest n)
    by (Wrong kind n) h rest = none

module _ (d : Dialect) (text : List ℕ) (file : ℕ) where
  end_written : (goes_on : Bool) (number : ℕ) → AreWritten (line_end goes_on file number)
  end_written true number = none
  end_written false number = and_more (token_at file number LineEnd) [] tt none

  plain_written : (s : LineStart) (cs : List Character) (end : LineEnding) → AreWritten (tokens_in (plain_line d text file s cs end))
  plain_written s cs end = by _ _ _ (tokens_of d text file 0 cs).fault
    where
      tokens : List Token
      tokens = (tokens_of d text file 0 cs).tokens

      by : (goes_on : Bool) (number : ℕ) (after : LineStart) (o : Option Fault)
          → AreWritten (tokens_in (elim o as (λ x. LineReading) [ Some fault ↦ Stops tokens fault | None ↦ Goes (tokens ++ line_end goes_on file number) after ]))
      by goes_on number after (Some fault) = tokens_written d text file 0 cs
      by goes_on number after None = All-append TokenIsWritten tokens (line_end goes_on file number) (tokens_written d text file 0 cs) (end_written goes_on number)

  include_written : (name : List ℕ) (first last : Character) → IsName name → AreWritten (tokens_in (include_line text file name first last))
  include_written name first last h =
      let rest = drop last.next text in
      let start : Token = token_at file first.line (Word name) in
      let stop : Token = token_at file last.line LineEnd in
      let quote : Token = token_at file last.line (Quoted (file_name rest)) in
      cond_both (list_all is_printable (file_name rest)) (Goes (start ∷ quote ∷ stop ∷ []) (line_after last rest)) (Stops (start ∷ []) (fault_at (record { file = file; line = last.line }) BadByte)) (λ r. AreWritten (tokens_in r))
      (λ e. and_more start (quote ∷ stop ∷ []) h (and_more quote (stop ∷ []) e (and_more stop [] tt none))) (λ e. and_more start [] h none)

  word_written : (s : LineStart) (l : Line) (o : Option (Character × Character)) → ((first last : Character) → o ≡ Some (first, last) → IsName (bytes_of (begun l.characters) 7))
      → AreWritten (tokens_in (line_by_word d text file s l o))
  word_written s l (Some (first, last)) h = include_written (bytes_of (begun l.characters) 7) first last (h first last refl)
  word_written s l None h = plain_written s l.characters l.ending

  line_written : (s : LineStart) (l : Line) → AreWritten (tokens_in (line_of d text file s l))
  line_written s l = word_written s l (if s.continues then None else include_word (begun l.characters)) (by s.continues)
    where
      by : (b : Bool) (first last : Character) → (if b then None else include_word (begun l.characters)) ≡ Some (first, last) → IsName (bytes_of (begun l.characters) 7)
      by true first last e = absurd cc
      by false first last e = include_named (begun l.characters) first last e

  reading_written : (s : LineStart) → AreWritten (tokens_in (line_reading d text file s))
  reading_written s =
      cond_both (begins_with 37 (drop s.next text)) (Stops [] (fault_at (record { file = file; line = s.number }) PercentLine)) _ (λ r. AreWritten (tokens_in r)) (λ e. none)
      (λ e. line_written s (line d 0 s.next s.number (drop s.next text)))

  lines_written : (s : LineStart) (gone : ℕ) (bs : List ℕ) → AreWritten (lines_from d text file s gone bs).tokens
  lines_written s gone [] = and_more (token_at file s.number TextEnd) [] tt none
  lines_written s (suc gone) (b ∷ bs) = lines_written s gone bs
  lines_written s zero (b ∷ bs) = by (line_reading d text file s) (reading_written s) (λ after. lines_written after (after.next - (s.next + 1)) bs)
    where
      by : (r : LineReading) → AreWritten (tokens_in r) → ((after : LineStart) → AreWritten (lines_from d text file after (after.next - (s.next + 1)) bs).tokens)
          → AreWritten (elim r as (λ x. Reading) [
            | Goes tokens after ↦ with_tokens tokens (lines_from d text file after (after.next - (s.next + 1)) bs)
            | Stops tokens fault ↦ record { tokens = tokens; fault = Some fault }
          ]).tokens
      by (Goes tokens after) h rest = All-append TokenIsWritten tokens (lines_from d text file after (after.next - (s.next + 1)) bs).tokens h (rest after)
      by (Stops tokens fault) h rest = h

  pub scanned_are_written : AreWritten (scanned d text file).tokens
  scanned_are_written = lines_written text_start 0 text
