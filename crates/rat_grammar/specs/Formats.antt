-- The fields of a format.
use Rattle.std.specs.Prelude.{◌≡◌, ℕ, ℤ, true, None, ◌∷◌}
use Rattle.ground.specs.declared.place.Place.{Place}
use Rattle.ground.specs.declared.token.TokenKind.TheVariants as kinds
use Rattle.ground.specs.declared.token.Sign.TheVariants as signs
use Rattle.f66_tree.specs.Fields.{NoField, Single, Group, Chars, Slash}
use Rattle.f66_tree.specs.Fields as f66
use Rattle.f66_tree.specs.Syntax.{Text}
use Rattle.rat_parse_table.specs.Words.{reserved, terminal_in, is_field_word}
use Rattle.rat_parse_values.specs.Parts.{capped}
use Rattle.rat_parse_values.specs.Phrases.{worded}
use Rattle.rat_grammar.specs.Tokens.{Tokens, token, Sign, Number, Quoted, capitals}

-- `Iw`, `Lw`, `A1` or `X`, in whatever case
pub data FieldWord : Tokens → Tokens → Text → Type 0 where
  word : {w : Text} {p : Place} {ts : Tokens} → terminal_in reserved w ≡ None → is_field_word w ≡ true → FieldWord (token (kinds.Word w) p ∷ ts) ts (capitals w)

-- counts and widths above 65,535 are kept as 65,535
pub data Count : Tokens → Tokens → ℕ → Type 0 where
  count : {a b : Tokens} {z : ℤ} → Number a b z → Count a b (capped 65535 z)

mutual
  -- fields = [ field { "," field } ], where the comma beside "/" may be missing
  pub data Fields : Tokens → Tokens → f66.Fields → Type 0 where
    none : {a : Tokens} → Fields a a NoField
    some : {a b : Tokens} {fs : f66.Fields} → SomeFields a b fs → Fields a b fs

  pub data SomeFields : Tokens → Tokens → f66.Fields → Type 0 where
    last : {a b : Tokens} {f : f66.Fields → f66.Fields} → Field a b f → SomeFields a b (f NoField)
    comma : {a b c d : Tokens} {f : f66.Fields → f66.Fields} {fs : f66.Fields} → Field a b f → Sign signs.Comma b c → SomeFields c d fs → SomeFields a d (f fs)
    behind_slash : {a b c : Tokens} {fs : f66.Fields} → Sign signs.Slash a b → SomeFields b c fs → SomeFields a c (Single 1 Slash fs)
    before_slash : {a b c d : Tokens} {f : f66.Fields → f66.Fields} {fs : f66.Fields} → Field a b f → Sign signs.Slash b c → SomeFields b d fs → SomeFields a d (f fs)

  -- field = [ Number ] word | [ Number ] "(" fields ")" | text | "/"; what it is before the fields behind it
  pub data Field : Tokens → Tokens → (f66.Fields → f66.Fields) → Type 0 where
    word : {a b : Tokens} {x : Text} → FieldWord a b x → Field a b (worded 1 x)
    counted_word : {a b c : Tokens} {n : ℕ} {x : Text} → Count a b n → FieldWord b c x → Field a c (worded n x)
    group : {a b c d : Tokens} {fs : f66.Fields} → Sign signs.Open a b → Fields b c fs → Sign signs.Close c d → Field a d (Group 1 fs)
    counted_group : {a b c d e : Tokens} {n : ℕ} {fs : f66.Fields} → Count a b n → Sign signs.Open b c → Fields c d fs → Sign signs.Close d e → Field a e (Group n fs)
    text : {a b : Tokens} {c : ℕ} {cs : Text} → Quoted a b (c ∷ cs) → Field a b (Single 1 (Chars (c ∷ cs)))
    slash : {a b : Tokens} → Sign signs.Slash a b → Field a b (Single 1 Slash)
