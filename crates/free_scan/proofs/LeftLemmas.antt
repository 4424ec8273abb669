-- The lines that are left of a text.
use Rattle.std.proofs.Common.{◌≡◌, ℕ, ◌+◌, ◌-◌, ◌<◌, List, [], ◌∷◌, ◌++◌, length, refl, sym, ap, ◌∙◌, Some, None}
use Rattle.std.specs.Prelude.{Option}
use Rattle.std.proofs.lemmas.List.{append-nil}
use Rattle.ground.specs.declared.token.Dialect.{Dialect}
use Rattle.ground.specs.declared.token.Token.{Token}
use Rattle.free_scan.specs.declared.scanner.LineStart.{LineStart}
use Rattle.free_scan.specs.declared.scanner.Outcome.{Outcome}
use Rattle.free_scan.specs.declared.scanner.Outcome.TheVariants.{Goes, Stops}
use Rattle.free_scan.specs.Left.{lines_left}
use Rattle.free_scan.specs.Lexemes.{with_tokens}
use Rattle.free_scan.specs.Lines.{IsPlace}
use Rattle.free_scan.specs.Tokens.{IfGoes, line_reading, outcome, tokens_in}
use Rattle.free_scan.proofs.TokenLemmas.{lines-go, lines-stop}

-- how many bytes stand from the next line on, with one more where there is one
abbrev pub bytes_left : List ℕ → Option Outcome → ℕ
bytes_left text (Some (Goes s)) = length text + 1 - s.next
bytes_left text (Some (Stops fault)) = 0
bytes_left text None = 0

-- what is left from a line on is its tokens, and what is left behind it
pub behind_line : (d : Dialect) (text : List ℕ) (file : ℕ) (s : LineStart) (o : Outcome) → s.next < length text → o ≡ outcome (line_reading d text file s)
    → IfGoes o (λ after. IsPlace (s.next + 1) (length text) after.next after.number)
    → lines_left d text file (Some (Goes s)) ≡ with_tokens (tokens_in (line_reading d text file s)) (lines_left d text file (Some o))
behind_line d text file s (Goes after) h e place = lines-go d text file s after h e place.after_low place.in_text
behind_line d text file s (Stops fault) h e place =
    lines-stop d text file s fault h e
    ∙ ap (λ (ts : List Token). record { tokens = ts; fault = Some fault }) (sym (append-nil (tokens_in (line_reading d text file s))))

-- no token is left, and so none at hand
pub none_at_hand : (line left : List Token) → line ++ left ≡ [] → line ≡ []
none_at_hand [] left e = refl
none_at_hand (t ∷ ts) left e = absurd cc
