-- How parts of statements are taken from tokens.
use Rattle.std.specs.Prelude.{ℕ, pos, false, ◌==◌, List, [], ◌∷◌, ◌++◌, Option, Some, None, if◌then◌else◌}
use Rattle.f66_tree.specs.Syntax.{Formula, Ref, Item, Par, Constant, Named, Act}
use Rattle.stmt_reader.specs.declared.token.Token.{Token}
use Rattle.stmt_reader.specs.declared.token.Token.TheVariants as t
use Rattle.stmt_reader.specs.declared.lexer.Part.TheVariants.{Clear}
use Rattle.stmt_reader.specs.Lexing.{lexed}

abbrev pub then_if : {A B : Type 0} → Option A → (A → Option B) → Option B
then_if None f = None
then_if (Some a) f = f a

abbrev pub or_else : {A : Type 0} → Option A → Option A → Option A
or_else (Some a) other = Some a
or_else None other = other

-- a word without the letters that it begins with
abbrev pub without : List ℕ → List ℕ → Option (List ℕ)
without [] word = Some word
without (c ∷ letters) [] = None
without (c ∷ letters) (d ∷ word) = if c == d then without letters word else None

-- the tokens behind the letters that name a statement: what is left of the first word is read by itself
abbrev pub after_word : List ℕ → List Token → Option (List Token)
after_word letters (t.Word w ∷ tokens) = then_if (without letters w) (λ rest. Some (lexed (Clear false) rest ++ tokens))
after_word letters _ = None

-- a variable, or an element of an array
abbrev pub place_if : Formula → Option Formula
place_if (Ref x) = Some (Ref x)
place_if (Item x es) = Some (Item x es)
place_if _ = None

-- a constant or a variable
abbrev pub par_if : Token → Option Par
par_if (t.Number n) = Some (Constant (pos n))
par_if (t.Word x) = Some (Named x)
par_if _ = None

abbrev pub nothing_more : Act → List Token → Option Act
nothing_more a [] = Some a
nothing_more a _ = None
