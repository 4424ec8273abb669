-- What is known of a token that the table takes.
use Rattle.std.proofs.Common.{◌≡◌, ℕ, [], ◌∷◌, ◌⊎◌, inl, inr, sym, subst, ap}
use Rattle.std.specs.Prelude.{codes}
use Rattle.std.specs.Char.{to_ascii_uppercase}
use Rattle.ground.specs.declared.token.Token.{Token}
use Rattle.ground.specs.declared.token.TokenKind.{TokenKind}
use Rattle.efl_tree.specs.declared.expression.EflOperator.{EflOperator}
use Rattle.efl_tree.specs.Syntax.{Chars}
use Rattle.efl_parse_table.specs.declared.table.Terminal.{Terminal}
use Rattle.efl_parse_table.specs.declared.table.Terminal.TheVariants as t
use Rattle.efl_parse_values.specs.Values.{tok}
use Rattle.efl_parse_values.specs.Parts.{kind_name, kind_integer, kind_sign, kind_text, name_in, letter_in, integer_in, sign_in, text_in, operator_of}
use Rattle.rat_grammar.specs.Tokens.{Tokens, token, one, Word, Number}
use Rattle.rat_grammar.proofs.Standing.{Known, known, IsWord, word_of, Choice, choice}
use Rattle.efl_grammar.specs.Tokens.{Name, name, Letter}
use Rattle.efl_grammar.specs.Statements.{WriteItem, chars}
use Rattle.efl_grammar.proofs.TokenLemmas.{Is, IsLetter, IsOperator}

abbrev pub Taken : Terminal → Tokens → Tokens → Token → Type 0
Taken k = Known (Is k)

-- ---- names, numbers and operators ----

pub long_name : {a b : Tokens} {y : Token} → Taken t.Name a b y → Name a b (name_in (tok y))
long_name (known {y = y} {ts = ts} h) = subst (λ j. Name (token j y.place ∷ ts) ts (kind_name j)) (sym h.1) (name h.2)

-- a name of one letter, and what the letter is
pub record IsOneLetter (a b : Tokens) (y : Token) : Type 0 where
  pub name : Name a b (name_in (tok y))
  pub letter : Letter a b (letter_in (tok y))

one_letter : {c : ℕ} {a b : Tokens} {y : Token} → Known (IsLetter c) a b y → IsOneLetter a b y
one_letter {c} (known {y = y} {ts = ts} h) =
    subst (λ j. IsOneLetter (token j y.place ∷ ts) ts (token j y.place)) (sym h.0)
    (record { name = name {w = c ∷ []} h.1; letter = name {w = c ∷ []} h.1 })

pub plain_letter : {a b : Tokens} {y : Token} → Taken t.Letter a b y → IsOneLetter a b y
plain_letter (known h) = one_letter (known h.1)

pub width_letter : {a b : Tokens} {y : Token} → Taken t.WidthLetter a b y → IsOneLetter a b y
width_letter (known h) = one_letter (known h.1)

pub char_letter : {a b : Tokens} {y : Token} → Taken t.CharLetter a b y → IsOneLetter a b y
char_letter (known h) = one_letter (known h.1)

pub skip_letter : {a b : Tokens} {y : Token} → Taken t.SkipLetter a b y → IsOneLetter a b y
skip_letter (known h) = one_letter (known h.1)

pub number : {a b : Tokens} {y : Token} → Taken t.Number a b y → Number a b (integer_in (tok y))
number (known {y = y} {ts = ts} h) = subst (λ j. Number (token j y.place ∷ ts) ts (kind_integer j)) (sym h.1) one

pub operator : (Family : Tokens → Tokens → EflOperator → Type 0) {a b : Tokens} {y : Token} → Known (IsOperator Family) a b y → Family a b (operator_of (sign_in (tok y)))
operator Family (known {y = y} {ts = ts} h) = subst (λ j. Family (token j y.place ∷ ts) ts (operator_of (kind_sign j))) (sym h.1) (h.2 y.place ts)

-- ---- the letters of edits, and texts ----

is_one_letter_word : (x c : ℕ) (k : TokenKind) → IsLetter c k → to_ascii_uppercase c ≡ x → IsWord (x ∷ []) k
is_one_letter_word x c k h e = (c ∷ [], h.0, ap (λ z. z ∷ []) e)

is_width_word : (c : ℕ) (k : TokenKind) → IsLetter c k → (to_ascii_uppercase c ≡ 73) ⊎ (to_ascii_uppercase c ≡ 76) → IsWord (codes "I") k ⊎ IsWord (codes "L") k
is_width_word c k h (inl e) = inl (is_one_letter_word 73 c k h e)
is_width_word c k h (inr e) = inr (is_one_letter_word 76 c k h e)

pub width_word : {a b : Tokens} {y : Token} → Taken t.WidthLetter a b y → Choice (codes "I") (codes "L") a b y
width_word (known {y = y} h) = choice (known (is_width_word h.0 y.kind h.1 h.2))

pub char_word : {a b : Tokens} {y : Token} → Taken t.CharLetter a b y → Word (codes "C") a b
char_word (known {y = y} h) = word_of (known (is_one_letter_word 67 h.0 y.kind h.1 h.2))

pub skip_word : {a b : Tokens} {y : Token} → Taken t.SkipLetter a b y → Word (codes "X") a b
skip_word (known {y = y} h) = word_of (known (is_one_letter_word 88 h.0 y.kind h.1 h.2))

pub quoted : {a b : Tokens} {y : Token} → Taken t.Quoted a b y → WriteItem a b (Chars (text_in (tok y)))
quoted (known {y = y} {ts = ts} h) = subst (λ j. WriteItem (token j y.place ∷ ts) ts (Chars (kind_text j))) (sym h.2) (chars one)
