-- What is left of a text that is scanned line by line.
use Rattle.std.specs.Prelude.{◌<◌, ℕ, ◌^◌, ⊤, List, [], length, drop, Option, Some, None}
use Rattle.ground.specs.declared.token.Dialect.{Dialect}
use Rattle.free_scan.specs.declared.scanner.LineStart.{LineStart}
use Rattle.free_scan.specs.declared.scanner.Outcome.{Outcome}
use Rattle.free_scan.specs.declared.scanner.Outcome.TheVariants.{Goes, Stops}
use Rattle.free_scan.specs.Lexemes.{Reading}
use Rattle.free_scan.specs.Lines.{IsPlace}
use Rattle.free_scan.specs.Tokens.{lines_from}

-- the lines from where the next one starts; behind a fault, and behind the end of the text, there is none
abbrev pub lines_left : Dialect → List ℕ → ℕ → Option Outcome → Reading
lines_left d text file (Some (Goes s)) = lines_from d text file s 0 (drop s.next text)
lines_left d text file (Some (Stops fault)) = record { tokens = []; fault = Some fault }
lines_left d text file None = record { tokens = []; fault = None }

-- the next line starts at a place of the text
abbrev pub IsStart : List ℕ → Option Outcome → Type 0
IsStart text (Some (Goes s)) = IsPlace 0 (length text) s.next s.number × (s.opened < 2 ^ 62)
IsStart text (Some (Stops fault)) = ⊤
IsStart text None = ⊤

-- behind the start of another
abbrev pub IsBehind : LineStart → Option Outcome → Type 0
IsBehind s (Some (Goes after)) = s.next < after.next
IsBehind s (Some (Stops fault)) = ⊤
IsBehind s None = ⊤

-- no line is left
abbrev pub HasNoLine : Option Outcome → Type 0
HasNoLine (Some (Goes s)) = ⊥
HasNoLine (Some (Stops fault)) = ⊤
HasNoLine None = ⊤
