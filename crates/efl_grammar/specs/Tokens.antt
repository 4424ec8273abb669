-- The names of EFL, numbers, and ends that may be missing. Signs, words, lists and lines are those of crate rat_grammar.
use Rattle.std.specs.Prelude.{◌≡◌, ℕ, ℤ, None, [], ◌∷◌}
use Rattle.ground.specs.declared.place.Place.{Place}
use Rattle.ground.specs.declared.token.TokenKind.TheVariants as kinds
use Rattle.ground.specs.declared.token.Sign.TheVariants as signs
use Rattle.efl_tree.specs.Syntax.{Text}
use Rattle.efl_parse_table.specs.Words.{reserved, terminal_in}
use Rattle.efl_parse_values.specs.Parts.{capped}
use Rattle.efl_parse_expressions.specs.Declared.{opposite}
use Rattle.rat_grammar.specs.Tokens.{Tokens, token, Sign, Number, capitals, Stop}

-- a word that is not reserved; names are in capitals
pub data Name : Tokens → Tokens → Text → Type 0 where
  name : {w : Text} {p : Place} {ts : Tokens} → terminal_in reserved w ≡ None → Name (token (kinds.Word w) p ∷ ts) ts (capitals w)

-- a name of one letter
abbrev pub Letter : Tokens → Tokens → ℕ → Type 0
Letter a b c = Name a b (c ∷ [])

-- counts are kept up to 4294967295
pub data Natural : Tokens → Tokens → ℕ → Type 0 where
  natural : {a b : Tokens} {z : ℤ} → Number a b z → Natural a b (capped z)

-- whole = [ "+" | "-" ] Number
pub data Whole : Tokens → Tokens → ℤ → Type 0 where
  number : {a b : Tokens} {z : ℤ} → Number a b z → Whole a b z
  plus : {a b c : Tokens} {z : ℤ} → Sign signs.Plus a b → Number b c z → Whole a c z
  minus : {a b c : Tokens} {z : ℤ} → Sign signs.Minus a b → Number b c z → Whole a c (opposite z)

-- a stop, which is missing where none stands
pub data StopIfAny : Tokens → Tokens → Type 0 where
  stop : {a b : Tokens} → Stop a b → StopIfAny a b
  none : {a : Tokens} → ((b : Tokens) → Stop a b → ⊥) → StopIfAny a a

-- the same behind the brace of a shape, where no name stands
pub data ShapeStop : Tokens → Tokens → Type 0 where
  shape_stop : {a b : Tokens} → ((c : Tokens) (x : Text) → Name a c x → ⊥) → StopIfAny a b → ShapeStop a b
