-- Statements that a logical IF may hold, by their tokens.
use Rattle.std.specs.Prelude.{◌≡◌, ℕ, List, ◌∷◌, Some}
use Rattle.f66_tree.specs.Syntax.{Act}
use Rattle.stmt_text.specs.Texts.{statement_text}
use Rattle.stmt_reader.specs.declared.token.Token.{Token}
use Rattle.stmt_reader.specs.declared.token.Token.TheVariants as t
use Rattle.stmt_reader.specs.Lexing.{tokens_of}
use Rattle.stmt_reader.specs.Statements.{branch_of}
use Rattle.deck.proofs.KnownTokens.{AreKnown}

-- the tokens of a statement's text begin with a word, and are read as this statement
pub record ReadsAsBranch (a : Act) : Type 0 where
  pub word : List ℕ
  pub others : List Token
  pub tokens : tokens_of (statement_text a) ≡ t.Word word ∷ others
  pub read : branch_of (t.Word word ∷ others) ≡ Some a
  pub known : AreKnown others
