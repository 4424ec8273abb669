-- What the tokens that are gathered of a text are: each number is in its range, each word is a name in capitals, and each quoted text
-- has characters that a card may have.
use Rattle.std.specs.Prelude.{◌≡◌, ⊤, ℕ, true, List, map, Ok}
use Rattle.std.specs.Char.{to_ascii_uppercase}
use Rattle.std.specs.List.{All, list_all}
use Rattle.ground.specs.declared.token.Dialect.{Dialect}
use Rattle.ground.specs.declared.token.Token.{Token}
use Rattle.ground.specs.declared.token.TokenKind.{TokenKind}
use Rattle.ground.specs.declared.token.TokenKind.TheVariants.{Word, Number, Quoted}
use Rattle.f66_tree.specs.Built.{is_constant}
use Rattle.f66_names.specs.Shapes.{is_name, is_printed}
use Rattle.macro_define.specs.Answers.{Known}
use Rattle.macro_define.specs.Expansion.{GatherState, gathered}

abbrev pub IsWritten : TokenKind → Type 0
IsWritten (Word w) = is_name (map to_ascii_uppercase w) ≡ true
IsWritten (Number z) = is_constant z ≡ true
IsWritten (Quoted t) = list_all is_printed t ≡ true
IsWritten kind = ⊤

abbrev pub TokenIsWritten : Token → Type 0
TokenIsWritten t = IsWritten t.kind

abbrev pub GatheredAreWritten : Type 0
GatheredAreWritten = (d : Dialect) (name : List ℕ) (known : Known) (w : GatherState) → gathered d name known ≡ Ok w → All TokenIsWritten w.made.tokens
