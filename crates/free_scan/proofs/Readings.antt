-- A text has one token list, with its fault, and no other.
use Rattle.std.proofs.Common.{◌≡◌, ℕ, List, sym, ◌∙◌}
use Rattle.ground.specs.declared.token.Dialect.{Dialect}
use Rattle.free_scan.specs.Lexemes.{Reading}
use Rattle.free_scan.specs.Tokens.{IsReading}

pub one_reading : (d : Dialect) (text : List ℕ) (file : ℕ) (r s : Reading) → IsReading d text file r → IsReading d text file s → r ≡ s
one_reading d text file r s is_r is_s = is_r ∙ sym is_s
