-- The tokens of an expression's text are those that spell it.
use Rattle.std.proofs.Common.{◌≡◌, ℕ, pos, negsuc, Bool, true, false, List, ◌∷◌, ◌++◌, refl, ap, ◌∙◌}
use Rattle.std.proofs.lemmas.Bool.{leb-true, and_parts}
use Rattle.f66_tree.specs.declared.expression.Operator.TheVariants.{Add, Sub}
use Rattle.f66_tree.specs.Syntax.{Formula, Int, Truth, Letter, Ref, Item, Group, Plus, Minus, Not, Pair, Formulas, NoFormula, AndFormula}
use Rattle.stmt_text.specs.Texts.{operator_text, formula_text, formulas_text, more_formulas_text}
use Rattle.stmt_reader.specs.declared.token.Token.{Token}
use Rattle.stmt_reader.specs.declared.token.Token.TheVariants as t
use Rattle.stmt_reader.specs.declared.lexer.Part.TheVariants.{Clear}
use Rattle.stmt_reader.specs.Levels.{is_name}
use Rattle.stmt_reader.specs.Spelling.{spell, spell_list, spell_more}
use Rattle.stmt_reader.specs.Lexing.{lexed}
use Rattle.deck.specs.Readable.{is_readable, are_readable, are_some_readable}
use Rattle.deck.proofs.LexingLemmas.{IsBreak, Starts, opens_behind, name_begins, word_ends, number_begins, number_ends, number_starts, name_starts, operator_lexed, operator_breaks}

-- no text of an expression begins with a blank or a star
pub text_starts : (e : Formula) (k : List ℕ) → is_readable e ≡ true → Starts (formula_text e k)
text_starts (Int (pos n)) k is = number_starts n k (leb-true n 2147483647 is)
text_starts (Int (negsuc n)) k is = absurd cc
text_starts (Truth true) k is = (refl, refl)
text_starts (Truth false) k is = (refl, refl)
text_starts (Letter c) k is = absurd cc
text_starts (Ref x) k is = name_starts x k is
text_starts (Item x es) k is = name_starts x (40 ∷ formulas_text es (41 ∷ k)) (and_parts (is_name x) (are_some_readable es) is).0
text_starts (Group a) k is = (refl, refl)
text_starts (Plus a) k is = (refl, refl)
text_starts (Minus a) k is = (refl, refl)
text_starts (Not a) k is = (refl, refl)
text_starts (Pair op a b) k is = text_starts a (operator_text op ++ formula_text b k) (and_parts (is_readable a) (is_readable b) is).0

more_breaks : (es : Formulas) (k : List ℕ) → IsBreak k → IsBreak (more_formulas_text es k)
more_breaks NoFormula k b = b
more_breaks (AndFormula e es) k b = (refl, refl, refl, refl)

mutual
  pub text_lexed : (e : Formula) (h : Bool) (k : List ℕ) → is_readable e ≡ true → IsBreak k → lexed (Clear h) (formula_text e k) ≡ spell e (lexed (Clear false) k)
  text_lexed (Int (pos n)) h k is b = number_begins h n k (leb-true n 2147483647 is) ∙ number_ends h n k b
  text_lexed (Int (negsuc n)) h k is b = absurd cc
  text_lexed (Truth true) h k is b = refl
  text_lexed (Truth false) h k is b = refl
  text_lexed (Letter c) h k is b = absurd cc
  text_lexed (Ref x) h k is b = name_begins h x k is ∙ word_ends x k b
  text_lexed (Item x es) h k is b =
      let p = and_parts (is_name x) (are_some_readable es) is in
      name_begins h x (40 ∷ formulas_text es (41 ∷ k)) p.0
      ∙ word_ends x (40 ∷ formulas_text es (41 ∷ k)) (refl, refl, refl, refl)
      ∙ ap (λ (y : List Token). t.Word x ∷ t.Open ∷ y) (list_lexed es true (41 ∷ k) p.1 (refl, refl, refl, refl))
  text_lexed (Group a) h k is b = ap (λ (y : List Token). t.Open ∷ y) (text_lexed a true (41 ∷ k) is (refl, refl, refl, refl))
  text_lexed (Plus a) h k is b = ap (λ (y : List Token). t.Joint Add ∷ y) (text_lexed a false k is b)
  text_lexed (Minus a) h k is b = ap (λ (y : List Token). t.Joint Sub ∷ y) (text_lexed a false k is b)
  text_lexed (Not a) h k is b = ap (λ (y : List Token). t.Not ∷ y) (text_lexed a false k is b)
  text_lexed (Pair op a b) h k is breaks =
      let p = and_parts (is_readable a) (is_readable b) is in
      text_lexed a h (operator_text op ++ formula_text b k) p.0 (operator_breaks op (formula_text b k))
      ∙ ap (λ (y : List Token). spell a y) (operator_lexed op (formula_text b k) (text_starts b k p.1) ∙ ap (λ (y : List Token). t.Joint op ∷ y) (text_lexed b (opens_behind op) k p.1 breaks))

  -- an argument or more
  pub list_lexed : (es : Formulas) (h : Bool) (k : List ℕ) → are_some_readable es ≡ true → IsBreak k → lexed (Clear h) (formulas_text es k) ≡ spell_list es (lexed (Clear false) k)
  list_lexed NoFormula h k is b = absurd cc
  list_lexed (AndFormula e es) h k is b =
      let p = and_parts (is_readable e) (are_readable es) is in
      text_lexed e h (more_formulas_text es k) p.0 (more_breaks es k b) ∙ ap (λ (y : List Token). spell e y) (more_lexed es k p.1 b)

  more_lexed : (es : Formulas) (k : List ℕ) → are_readable es ≡ true → IsBreak k → lexed (Clear false) (more_formulas_text es k) ≡ spell_more es (lexed (Clear false) k)
  more_lexed NoFormula k is b = refl
  more_lexed (AndFormula e es) k is b =
      let p = and_parts (is_readable e) (are_readable es) is in
      ap (λ (y : List Token). t.Comma ∷ y) (text_lexed e true (more_formulas_text es k) p.0 (more_breaks es k b) ∙ ap (λ (y : List Token). spell e y) (more_lexed es k p.1 b))
