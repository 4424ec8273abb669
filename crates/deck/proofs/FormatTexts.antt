-- The tokens of a format's text spell what is written, commas and counts among it.
use Rattle.std.proofs.Common.{◌≡◌, ℕ, ◌≤◌, Bool, true, false, cond, List, [], ◌∷◌, ◌++◌, length, Option, Some, None, refl, ap, ◌∙◌, arith, append_assoc}
use Rattle.std.specs.Prelude.{decimal, ◌==◌, ◌||◌}
use Rattle.f66_tree.specs.declared.editing.EditKind.{EditKind}
use Rattle.f66_tree.specs.declared.editing.EditKind.TheVariants as edits
use Rattle.f66_tree.specs.declared.expression.Operator.TheVariants.{Div}
use Rattle.f66_tree.specs.Fields.{Step, Takes, Blanks, Chars, Slash, Fields, NoField, Single, Group}
use Rattle.stmt_text.specs.Texts.{edit_letter, is_slash, separated, fields_text}
use Rattle.stmt_reader.specs.declared.token.Token.{Token}
use Rattle.stmt_reader.specs.declared.token.Token.TheVariants as t
use Rattle.stmt_reader.specs.declared.lexer.Part.TheVariants.{Clear, InWord, InNumber}
use Rattle.stmt_reader.specs.Lexing.{lexed}
use Rattle.stmt_reader.specs.Formats.{Item, Edit, Words, Stroke, Point, Nest, Items, Ends, Then, count_tokens, spell_items}
use Rattle.deck.specs.ReadableStatements.{AreReadableFields}
use Rattle.deck.proofs.LexingLemmas.{IsBreak, clear_same, word_goes_on, word_ends, number_begins}
use Rattle.deck.proofs.HollerithLemmas.{hollerith_read}
use Rattle.deck.proofs.BranchesRead.{digits_all}

-- ---- what is written ----

-- a count of one is left out
abbrev pub count_if : ℕ → Option ℕ
count_if n = cond (n == 1) None (Some n)

abbrev pub item_of : ℕ → Step → Item
item_of n (Takes kind w) = Edit (count_if n) (edit_letter kind ∷ decimal w)
item_of n (Blanks m) = Edit (Some m) (88 ∷ [])
item_of n (Chars text) = Words text
item_of n Slash = Stroke

abbrev pub pointed : Bool → Fields → Items → Items
pointed beside NoField k = k
pointed beside (Single n s rest) k = cond (beside || is_slash s) k (Then Point k)
pointed beside (Group n inside rest) k = cond beside k (Then Point k)

abbrev pub written : Fields → Items
written NoField = Ends
written (Single n s rest) = Then (item_of n s) (pointed (is_slash s) rest (written rest))
written (Group n inside rest) = Then (Nest (count_if n) (written inside)) (pointed false rest (written rest))

-- ---- its tokens ----

-- a count before a letter or a parenthesis
counted : (n c : ℕ) (k : List ℕ) (one : Bool) → n ≤ 65535 → lexed (Clear true) (c ∷ k) ≡ lexed (Clear false) (c ∷ k) → lexed (InNumber true n) (c ∷ k) ≡ t.Number n ∷ lexed (Clear false) (c ∷ k)
    → lexed (Clear true) (cond one (c ∷ k) (decimal n ++ c ∷ k)) ≡ count_tokens (cond one None (Some n)) (lexed (Clear false) (c ∷ k))
counted n c k true low first behind_it = first
counted n c k false low first behind_it = number_begins true n (c ∷ k) (omega (arith, low)) ∙ behind_it

-- a letter and a width
sized_word : (c w : ℕ) (k : List ℕ) → w ≤ 65535 → IsBreak k → lexed (InWord (c ∷ [])) (decimal w ++ k) ≡ t.Word (c ∷ decimal w) ∷ lexed (Clear false) k
sized_word c w k low b = word_goes_on (c ∷ []) (decimal w) k (digits_all w (omega (arith, low))) ∙ word_ends (c ∷ decimal w) k b

step_lexed : (n : ℕ) (kind : EditKind) (w : ℕ) (k : List ℕ) → n ≤ 65535 → w ≤ 65535 → IsBreak k
    → lexed (Clear true) (cond (n == 1) (edit_letter kind ∷ (decimal w ++ k)) (decimal n ++ edit_letter kind ∷ (decimal w ++ k))) ≡ count_tokens (count_if n) (t.Word (edit_letter kind ∷ decimal w) ∷ lexed (Clear false) k)
step_lexed n edits.Whole w k low narrow b = counted n 73 (decimal w ++ k) (n == 1) low refl refl ∙ ap (count_tokens (count_if n)) (sized_word 73 w k narrow b)
step_lexed n edits.Truth w k low narrow b = counted n 76 (decimal w ++ k) (n == 1) low refl refl ∙ ap (count_tokens (count_if n)) (sized_word 76 w k narrow b)
step_lexed n edits.Letter w k low narrow b = counted n 65 (decimal w ++ k) (n == 1) low refl refl ∙ ap (count_tokens (count_if n)) (sized_word 65 w k narrow b)

blanks_lexed : (m : ℕ) (k : List ℕ) → m ≤ 65535 → IsBreak k → lexed (Clear true) (decimal m ++ 88 ∷ k) ≡ t.Number m ∷ t.Word (88 ∷ []) ∷ lexed (Clear false) k
blanks_lexed m k low b = number_begins true m (88 ∷ k) (omega (arith, low)) ∙ ap (λ (y : List Token). t.Number m ∷ y) (word_ends (88 ∷ []) k b)

chars_lexed : (text k : List ℕ) → length text ≤ 65535 → lexed (Clear true) ((decimal (length text) ++ 72 ∷ text) ++ k) ≡ t.Chars text ∷ lexed (Clear false) k
chars_lexed text k low = ap (lexed (Clear true)) (append_assoc (decimal (length text)) (72 ∷ text) k) ∙ hollerith_read text k (omega (arith, low))

sep_break : (rest : Fields) (k : List ℕ) → IsBreak k → IsBreak (separated false rest (fields_text rest k))
sep_break NoField k b = b
sep_break (Single n Slash rest) k b = (refl, refl, refl, refl)
sep_break (Single n (Takes kind w) rest) k b = (refl, refl, refl, refl)
sep_break (Single n (Blanks m) rest) k b = (refl, refl, refl, refl)
sep_break (Single n (Chars text) rest) k b = (refl, refl, refl, refl)
sep_break (Group n inside rest) k b = (refl, refl, refl, refl)

abbrev IsLexed : Fields → List ℕ → Type 0
IsLexed fs k = lexed (Clear true) (fields_text fs k) ≡ spell_items (written fs) (lexed (Clear false) k)

-- what stands behind a field
sep_lexed : (rest : Fields) (k : List ℕ) → IsLexed rest k → lexed (Clear false) (separated false rest (fields_text rest k)) ≡ spell_items (pointed false rest (written rest)) (lexed (Clear false) k)
sep_lexed NoField k is = refl
sep_lexed (Single n Slash rest) k is = is
sep_lexed (Single n (Takes kind w) rest) k is = ap (λ (y : List Token). t.Comma ∷ y) is
sep_lexed (Single n (Blanks m) rest) k is = ap (λ (y : List Token). t.Comma ∷ y) is
sep_lexed (Single n (Chars text) rest) k is = ap (λ (y : List Token). t.Comma ∷ y) is
sep_lexed (Group n inside rest) k is = ap (λ (y : List Token). t.Comma ∷ y) is

-- what stands behind a slash
stroke_lexed : (rest : Fields) (k : List ℕ) → IsLexed rest k → lexed (Clear true) (separated true rest (fields_text rest k)) ≡ spell_items (pointed true rest (written rest)) (lexed (Clear false) k)
stroke_lexed NoField k is = is
stroke_lexed (Single n s rest) k is = is
stroke_lexed (Group n inside rest) k is = is

letter_width : (w : ℕ) → w ≡ 1 → w ≤ 65535
letter_width w is = omega (arith, is)

pub fields_lexed : (fs : Fields) (k : List ℕ) → AreReadableFields fs → IsBreak k → IsLexed fs k
fields_lexed NoField k all b = clear_same k b
fields_lexed (Single n (Takes edits.Whole w) rest) k all b =
    step_lexed n edits.Whole w (separated false rest (fields_text rest k)) all.0.0 all.0.1 (sep_break rest k b) ∙ ap (λ (y : List Token). count_tokens (count_if n) (t.Word (73 ∷ decimal w) ∷ y)) (sep_lexed rest k (fields_lexed rest k all.1 b))
fields_lexed (Single n (Takes edits.Truth w) rest) k all b =
    step_lexed n edits.Truth w (separated false rest (fields_text rest k)) all.0.0 all.0.1 (sep_break rest k b) ∙ ap (λ (y : List Token). count_tokens (count_if n) (t.Word (76 ∷ decimal w) ∷ y)) (sep_lexed rest k (fields_lexed rest k all.1 b))
fields_lexed (Single n (Takes edits.Letter w) rest) k all b =
    step_lexed n edits.Letter w (separated false rest (fields_text rest k)) all.0.0 (letter_width w all.0.1) (sep_break rest k b)
    ∙ ap (λ (y : List Token). count_tokens (count_if n) (t.Word (65 ∷ decimal w) ∷ y)) (sep_lexed rest k (fields_lexed rest k all.1 b))
fields_lexed (Single n (Blanks m) rest) k all b =
    blanks_lexed m (separated false rest (fields_text rest k)) all.0.1 (sep_break rest k b) ∙ ap (λ (y : List Token). t.Number m ∷ t.Word (88 ∷ []) ∷ y) (sep_lexed rest k (fields_lexed rest k all.1 b))
fields_lexed (Single n (Chars text) rest) k all b =
    chars_lexed text (separated false rest (fields_text rest k)) all.0.1 ∙ ap (λ (y : List Token). t.Chars text ∷ y) (sep_lexed rest k (fields_lexed rest k all.1 b))
fields_lexed (Single n Slash rest) k all b = ap (λ (y : List Token). t.Joint Div ∷ y) (stroke_lexed rest k (fields_lexed rest k all.1 b))
fields_lexed (Group n inside rest) k all b =
    counted n 40 (fields_text inside (41 ∷ separated false rest (fields_text rest k))) (n == 1) all.0 refl refl
    ∙ ap (λ (y : List Token). count_tokens (count_if n) (t.Open ∷ y))
    (fields_lexed inside (41 ∷ separated false rest (fields_text rest k)) all.1 (refl, refl, refl, refl) ∙ ap (λ (y : List Token). spell_items (written inside) (t.Close ∷ y)) (sep_lexed rest k (fields_lexed rest k all.2 b)))
