-- Quoted texts: where one ends, and what it says.
use Rattle.std.specs.Prelude.{ℕ, ◌+◌, Bool, true, false, not, ◌==◌, ◌&&◌, List, [], ◌∷◌, if◌then◌else◌}
use Rattle.ground.specs.declared.token.Dialect.{Dialect}
use Rattle.ground.specs.declared.token.Dialect.TheVariants.{Ratfor, Efl}
use Rattle.free_scan.specs.declared.quotes.Quotation.{Quotation}
use Rattle.free_scan.specs.Characters.{is_line_end}

-- Ratfor's backslash takes the next character literally (Kernighan); in EFL it stands for itself
abbrev pub escapes : Dialect → ℕ → Bool
escapes Ratfor b = b == 92
escapes Efl b = false

abbrev pub longer : ℕ → Quotation → Quotation
longer n s = record { size = n + s.size; closed = s.closed }

-- The quoted text whose bytes after the opening quote begin here: its size with its closing quote, or up to the
-- line's end where none stands on the line. The first byte is taken literally where `taken` says so.
abbrev pub quoted : Dialect → ℕ → Bool → List ℕ → Quotation
quoted d quote taken [] = record { size = 0; closed = false }
quoted d quote taken (b ∷ bs) =
    if is_line_end (b ∷ bs) then record { size = 0; closed = false }
    else (if not taken && b == quote then record { size = 1; closed = true }
    else longer 1 (quoted d quote (not taken && escapes d b) bs))

-- what stands between the quotes says, without the backslashes that take a character literally
abbrev pub literal : Dialect → Bool → List ℕ → List ℕ
literal d taken [] = []
literal d taken (b ∷ bs) =
    if not taken && escapes d b then literal d true bs else b ∷ literal d false bs
