-- What is known of a token that the table takes.
use Rattle.std.proofs.Common.{◌≡◌, ◌∙◌, Bool, if◌then◌else◌, [], ◌∷◌, ◌⊎◌, inl, inr, sym, subst, ap}
use Rattle.std.specs.Prelude.{codes}
use Rattle.ground.specs.declared.token.Token.{Token}
use Rattle.f66_tree.specs.declared.declaration.TypeWord.{TypeWord}
use Rattle.f66_tree.specs.declared.declaration.TypeWord.TheVariants as types
use Rattle.f66_tree.specs.Fields as fields
use Rattle.f66_tree.specs.Syntax.{Text, Letter}
use Rattle.rat_parse_table.specs.declared.table.Terminal.{Terminal}
use Rattle.rat_parse_table.specs.declared.table.Terminal.TheVariants as t
use Rattle.rat_parse_table.specs.Words.{is_spelled}
use Rattle.rat_parse_values.specs.Values.{tok}
use Rattle.rat_parse_values.specs.Parts.{kind_name, kind_integer, kind_sign, kind_text, name_in, integer_in, sign_in, text_in, first_letter, capped, octal_value, operator_of}
use Rattle.rat_grammar.specs.Tokens.{Tokens, token, one, capitals, Name, name, Number}
use Rattle.rat_grammar.specs.Expressions.{Relation}
use Rattle.rat_grammar.specs.Formats.{FieldWord, Field}
use Rattle.rat_grammar.specs.Declarations.{OneLetter}
use Rattle.rat_grammar.specs.Plain.{Octal}
use Rattle.rat_grammar.proofs.Standing.{Known, known, Choice, choice}
use Rattle.rat_grammar.proofs.ReservedWords.{same, is_other}
use Rattle.rat_grammar.proofs.TokenLemmas.{Is}

abbrev pub Taken : Terminal → Tokens → Tokens → Token → Type 0
Taken k = Known (Is k)

pub plain_name : {a b : Tokens} {y : Token} → Taken t.Name a b y → Name a b (name_in (tok y))
plain_name (known {y = y} {ts = ts} h) = subst (λ j. Name (token j y.place ∷ ts) ts (kind_name j)) (sym h.1) (name h.2)

pub field_name : {a b : Tokens} {y : Token} → Taken t.FieldWord a b y → Name a b (name_in (tok y))
field_name (known h) = plain_name (known (h.0, h.1, h.2))

pub decimal_number : {a b : Tokens} {y : Token} → Taken t.Number a b y → Number a b (integer_in (tok y))
decimal_number (known {y = y} {ts = ts} h) = subst (λ j. Number (token j y.place ∷ ts) ts (kind_integer j)) (sym h.1) one

pub octal_number : {a b : Tokens} {y : Token} → Taken t.Octal a b y → Number a b (integer_in (tok y))
octal_number (known h) = decimal_number (known (h.0, h.1))

pub relation : {a b : Tokens} {y : Token} → Taken t.Relation a b y → Relation a b (operator_of (sign_in (tok y)))
relation (known {y = y} {ts = ts} h) = subst (λ j. Relation (token j y.place ∷ ts) ts (operator_of (kind_sign j))) (sym h.1) (h.2 y.place ts)

pub type_choice : {a b : Tokens} {y : Token} → Taken t.Type a b y → Choice (codes "INTEGER") (codes "LOGICAL") a b y ⊎ Choice (codes "REAL") (codes "COMPLEX") a b y
type_choice (known (inl h)) = inl (choice (known h))
type_choice (known (inr h)) = inr (choice (known h))

-- the type that a word is, as `type_word` has it, and by its capitals
abbrev pub type_by : Bool → Bool → TypeWord
type_by i l = if i then types.Integer else (if l then types.Logical else types.Other)

pub type_is : (w x : Text) → capitals w ≡ x →
    type_by (is_spelled (codes "INTEGER") w) (is_spelled (codes "LOGICAL") w) ≡ type_by (same (codes "INTEGER") x) (same (codes "LOGICAL") x)
type_is w x h =
    ap (λ v. type_by v (is_spelled (codes "LOGICAL") w)) (is_other (codes "INTEGER") x w h) ∙ ap (λ v. type_by (same (codes "INTEGER") x) v) (is_other (codes "LOGICAL") x w h)

-- ---- texts, octal numbers and fields ----

pub letter : {a b : Tokens} {y : Token} → Taken t.Letter a b y → OneLetter a b (Letter (first_letter (text_in (tok y))))
letter (known {y = y} {ts = ts} h) = subst (λ j. OneLetter (token j y.place ∷ ts) ts (Letter (first_letter (kind_text j)))) (sym h.1) (OneLetter.letter one)

pub chars_field : {a b : Tokens} {y : Token} → Taken t.Chars a b y → Field a b (fields.Single 1 (fields.Chars (text_in (tok y))))
chars_field (known {y = y} {ts = ts} h) = subst (λ j. Field (token j y.place ∷ ts) ts (fields.Single 1 (fields.Chars (kind_text j)))) (sym h.2) (Field.text one)

pub letter_field : {a b : Tokens} {y : Token} → Taken t.Letter a b y → Field a b (fields.Single 1 (fields.Chars (text_in (tok y))))
letter_field (known h) = chars_field (known (h.0, [], h.1))

pub octal : {a b : Tokens} {y : Token} → Taken t.Octal a b y → Octal a b (octal_value (capped 77777 (integer_in (tok y))))
octal (known {y = y} {ts = ts} h) = subst (λ j. Octal (token j y.place ∷ ts) ts (octal_value (capped 77777 (kind_integer j)))) (sym h.1) (Octal.octal one h.2)

pub field_word : {a b : Tokens} {y : Token} → Taken t.FieldWord a b y → FieldWord a b (name_in (tok y))
field_word (known {y = y} {ts = ts} h) = subst (λ j. FieldWord (token j y.place ∷ ts) ts (kind_name j)) (sym h.1) (FieldWord.word h.2 h.3)
