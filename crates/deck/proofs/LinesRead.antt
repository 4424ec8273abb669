-- The line that a deck gives for a statement's text is read as the statement.
use Rattle.std.proofs.Common.{◌≡◌, ℕ, true, false, List, [], ◌∷◌, ◌++◌, Some, refl, ap, ◌∙◌}
use Rattle.std.specs.List.{list_all}
use Rattle.std.proofs.lemmas.Bool.{and_parts}
use Rattle.f66_tree.specs.Syntax.{Act}
use Rattle.stmt_text.specs.Texts.{statement_text}
use Rattle.stmt_reader.specs.declared.token.Token.{Token}
use Rattle.stmt_reader.specs.declared.lexer.Part.{Part}
use Rattle.stmt_reader.specs.declared.lexer.Part.TheVariants.{Clear, InWord, InNumber, BehindStar, BehindPoint, InChars}
use Rattle.stmt_reader.specs.Lexing.{is_in_chars, at, at_end, lexed, tokens_of}
use Rattle.stmt_reader.specs.Statements.{statement_of}
use Rattle.deck.specs.ReadableStatements.{IsReadableAct}
use Rattle.deck.specs.Written.{filled}
use Rattle.deck.specs.Endings.{part_after}
use Rattle.deck.proofs.KnownTokens.{is_known}
use Rattle.deck.proofs.BlankLemmas.{filled_lexed}
use Rattle.deck.proofs.ActsRead.{act_read}
use Rattle.deck.proofs.ActsKnown.{act_known}

back_known : (xs ys : List Token) → list_all is_known (xs ++ ys) ≡ true → list_all is_known ys ≡ true
back_known [] ys all = all
back_known (x ∷ xs) ys all = back_known xs ys (and_parts (is_known x) (list_all is_known (xs ++ ys)) all).1

end_known : (p : Part) → list_all is_known (at_end p) ≡ true → is_in_chars p ≡ false
end_known (Clear opens) all = refl
end_known (InWord w) all = refl
end_known (InNumber opens n) all = refl
end_known BehindStar all = refl
end_known (BehindPoint w) all = refl
end_known (InChars n w) all = absurd cc

-- where all tokens are known, no Hollerith text goes past the end
ends_known : (text : List ℕ) (p : Part) → list_all is_known (lexed p text) ≡ true → is_in_chars (part_after p text) ≡ false
ends_known [] p all = end_known p all
ends_known (c ∷ text) p all = ends_known text (at p c).part (back_known (at p c).tokens (lexed (at p c).part text) all)

-- the line that a deck gives for a text has the tokens of the text, where all of them are known
pub known_filled : (text : List ℕ) → list_all is_known (tokens_of text) ≡ true → tokens_of (filled 66 text) ≡ tokens_of text
known_filled text known = filled_lexed text (ends_known text (Clear false) known)

pub line_lexed : (a : Act) → IsReadableAct a → tokens_of (filled 66 (statement_text a)) ≡ tokens_of (statement_text a)
line_lexed a readable = known_filled (statement_text a) (act_known a readable)

-- so it is read as the text is
pub line_read : (a : Act) → IsReadableAct a → statement_of (tokens_of (filled 66 (statement_text a))) ≡ Some a
line_read a readable = ap statement_of (line_lexed a readable) ∙ act_read a readable
