-- The signs of each dialect as they are spelled. Longer spellings stand first, so the first that fits is the longest.
use Rattle.std.specs.Prelude.{ℕ, Bool, true, false, ◌==◌, ◌&&◌, List, [], ◌∷◌, ◌++◌, length, Option, Some, None, codes, if◌then◌else◌}
use Rattle.std.specs.Char.{to_ascii_lowercase}
use Rattle.ground.specs.declared.token.Dialect.{Dialect}
use Rattle.ground.specs.declared.token.Dialect.TheVariants.{Ratfor, Efl}
use Rattle.ground.specs.declared.token.Sign.{Sign}
use Rattle.ground.specs.declared.token.Sign.TheVariants.{Plus, Minus, Star, Slash, Power, Open, Close, Comma, OpenBrace, CloseBrace, Colon, Eq, Ne, Lt, Le, Gt, Ge, And, AndThen, Or, OrElse, Not, Caret, CaretEqual, Point, True, False, Assign, AddAssign, SubAssign, MulAssign, DivAssign, PowerAssign, AndAssign, OrAssign, AndThenAssign, OrElseAssign, Increment, Decrement, Arrow, Dollar}
use Rattle.free_scan.specs.declared.lines.Character.{Character}

-- one character alone, in both dialects
abbrev pub single_spellings : List (List ℕ × Sign)
single_spellings =
    (codes "=", Assign) ∷ (codes "+", Plus) ∷ (codes "-", Minus) ∷ (codes "*", Star) ∷ (codes "/", Slash)
    ∷ (codes "(", Open) ∷ (codes ")", Close) ∷ (codes ",", Comma) ∷ (codes ":", Colon) ∷ (codes ".", Point)
    ∷ (codes "{", OpenBrace) ∷ (codes "}", CloseBrace) ∷ (codes "[", OpenBrace) ∷ (codes "]", CloseBrace)
    ∷ (codes "<", Lt) ∷ (codes ">", Gt) ∷ (codes "&", And) ∷ (codes "|", Or) ∷ (codes "~", Not) ∷ (codes "!", Not)
    ∷ []

-- two characters, in both dialects
abbrev pub double_spellings : List (List ℕ × Sign)
double_spellings =
    (codes "**", Power) ∷ (codes "==", Eq) ∷ (codes "~=", Ne) ∷ (codes "!=", Ne) ∷ (codes "<=", Le) ∷ (codes ">=", Ge)
    ∷ []

-- Ratfor's relations and logical operators are those of FORTRAN, which may be written with points (Kernighan)
abbrev pub ratfor_spellings : List (List ℕ × Sign)
ratfor_spellings =
    (codes ".false.", False) ∷ (codes ".true.", True) ∷ (codes ".and.", And) ∷ (codes ".not.", Not)
    ∷ (codes ".eq.", Eq) ∷ (codes ".ne.", Ne) ∷ (codes ".lt.", Lt) ∷ (codes ".le.", Le) ∷ (codes ".gt.", Gt)
    ∷ (codes ".ge.", Ge) ∷ (codes ".or.", Or)
    ∷ (codes "^=", Ne) ∷ (codes "&&", And) ∷ (codes "||", Or) ∷ (codes "$(", OpenBrace) ∷ (codes "$)", CloseBrace)
    ∷ (double_spellings ++ (codes "^", Not) ∷ single_spellings)

-- EFL's operators (Feldman)
abbrev pub efl_spellings : List (List ℕ × Sign)
efl_spellings =
    (codes "**=", PowerAssign) ∷ (codes "&&=", AndThenAssign) ∷ (codes "||=", OrElseAssign)
    ∷ (codes "+=", AddAssign) ∷ (codes "-=", SubAssign) ∷ (codes "*=", MulAssign) ∷ (codes "/=", DivAssign)
    ∷ (codes "&=", AndAssign) ∷ (codes "|=", OrAssign) ∷ (codes "++", Increment) ∷ (codes "--", Decrement)
    ∷ (codes "->", Arrow) ∷ (codes "&&", AndThen) ∷ (codes "||", OrElse) ∷ (codes "^=", CaretEqual)
    ∷ (double_spellings ++ (codes "^", Caret) ∷ (codes "$", Dollar) ∷ single_spellings)

abbrev pub spellings : Dialect → List (List ℕ × Sign)
spellings Ratfor = ratfor_spellings
spellings Efl = efl_spellings

-- whether a line's characters begin with a spelling, whose letters are small, in whatever case
abbrev pub is_spelled : List ℕ → List Character → Bool
is_spelled [] cs = true
is_spelled (s ∷ ss) [] = false
is_spelled (s ∷ ss) (c ∷ cs) = (to_ascii_lowercase c.byte == s) && is_spelled ss cs

-- the longest sign that begins here, and its number of characters
abbrev pub longest_sign : List (List ℕ × Sign) → List Character → Option (Sign × ℕ)
longest_sign [] cs = None
longest_sign (x ∷ xs) cs = if is_spelled x.0 cs then Some (x.1, length x.0) else longest_sign xs cs
