-- The text of a CALL is read as this CALL.
use Rattle.std.proofs.Common.{◌≡◌, ℕ, Bool, true, false, cond, List, [], ◌∷◌, ◌++◌, Option, Some, None, refl, sym, ap, ◌∙◌, codes}
use Rattle.std.specs.Prelude.{◌==◌, ◌&&◌}
use Rattle.std.specs.List.{AllByRecursion}
use Rattle.f66_tree.specs.Syntax.{Text, Formula, Int, Truth, Letter, Ref, Item, Group, Plus, Minus, Not, Pair, NoFormula, Act, Assign, Invoke}
use Rattle.f66_tree.specs.Views.{chained}
use Rattle.stmt_text.specs.Texts.{formula_text, formulas_text, more_formulas_text, statement_text}
use Rattle.stmt_reader.specs.declared.token.Token.{Token}
use Rattle.stmt_reader.specs.declared.token.Token.TheVariants as t
use Rattle.stmt_reader.specs.declared.lexer.Part.TheVariants.{Clear, InWord, InChars}
use Rattle.stmt_reader.specs.Levels.{is_name}
use Rattle.stmt_reader.specs.Spelling.{spell, spell_more, spell_members, spell_others}
use Rattle.stmt_reader.specs.Exactness.{IsArgument, with_arguments}
use Rattle.stmt_reader.specs.Lexing.{begun, alone as alone_token, lexed, tokens_of}
use Rattle.stmt_reader.specs.Cutting.{Halves, cut, is_equals}
use Rattle.stmt_reader.specs.Machine.{expression_of}
use Rattle.stmt_reader.specs.Statements.{or_else, then_if, after_word, place_if, assignment_of, call_of, statement_of}
use Rattle.stmt_reader.proofs.CutLemmas.{cut_spelled, equals_outside}
use Rattle.stmt_reader.proofs.CallReads.{call_spelled}
use Rattle.deck.specs.Readable.{is_readable_argument}
use Rattle.deck.proofs.LexingLemmas.{IsBreak, word_goes_on, name_begins, word_ends}
use Rattle.deck.proofs.KeywordLemmas.{keyword_taken}
use Rattle.deck.proofs.BranchesRead.{name_alnum}
use Rattle.deck.proofs.TextsRead.{text_lexed}

-- ---- the tokens of arguments ----

never : (b : Bool) → (b && false) ≡ false
never true = refl
never false = refl

letter_lexed : (c : ℕ) (k : List ℕ) → lexed (Clear true) (formula_text (Letter c) k) ≡ t.Chars (c ∷ []) ∷ lexed (Clear false) k
letter_lexed c k = ap (λ (b : Bool). (cond b (begun (InChars 0 [])) (alone_token (t.Chars (c ∷ [])) false)).tokens ++ lexed (cond b (begun (InChars 0 [])) (alone_token (t.Chars (c ∷ [])) false)).part k) (never (c == 32))

pub argument_lexed : (e : Formula) (k : List ℕ) → is_readable_argument e ≡ true → IsBreak k → lexed (Clear true) (formula_text e k) ≡ spell e (lexed (Clear false) k)
argument_lexed (Letter c) k is b = letter_lexed c k
argument_lexed (Int z) k is b = text_lexed (Int z) true k is b
argument_lexed (Truth f) k is b = text_lexed (Truth f) true k is b
argument_lexed (Ref x) k is b = text_lexed (Ref x) true k is b
argument_lexed (Item x es) k is b = text_lexed (Item x es) true k is b
argument_lexed (Group a) k is b = text_lexed (Group a) true k is b
argument_lexed (Plus a) k is b = text_lexed (Plus a) true k is b
argument_lexed (Minus a) k is b = text_lexed (Minus a) true k is b
argument_lexed (Not a) k is b = text_lexed (Not a) true k is b
argument_lexed (Pair op a c) k is b = text_lexed (Pair op a c) true k is b

others_break : (es : List Formula) (k : List ℕ) → IsBreak k → IsBreak (more_formulas_text (chained es) k)
others_break [] k b = b
others_break (e ∷ es) k b = (refl, refl, refl, refl)

others_lexed : (es : List Formula) (k : List ℕ) → AllByRecursion (λ e. is_readable_argument e ≡ true) es → IsBreak k → lexed (Clear false) (more_formulas_text (chained es) k) ≡ spell_others spell t.Comma es (lexed (Clear false) k)
others_lexed [] k all b = refl
others_lexed (e ∷ es) k all b = ap (λ (y : List Token). t.Comma ∷ y) (argument_lexed e (more_formulas_text (chained es) k) all.0 (others_break es k b) ∙ ap (λ (y : List Token). spell e y) (others_lexed es k all.1 b))

pub arguments_lexed : (e : Formula) (es : List Formula) (k : List ℕ) → is_readable_argument e ≡ true → AllByRecursion (λ a. is_readable_argument a ≡ true) es → IsBreak k
    → lexed (Clear true) (formulas_text (chained (e ∷ es)) k) ≡ spell_members spell t.Comma e es (lexed (Clear false) k)
arguments_lexed e es k first all b = argument_lexed e (more_formulas_text (chained es) k) first (others_break es k b) ∙ ap (λ (y : List Token). spell e y) (others_lexed es k all b)

-- ---- no assignment ----

pub others_list : (es : List Formula) (k : List Token) → spell_more (chained es) k ≡ spell_others spell t.Comma es k
others_list [] k = refl
others_list (e ∷ es) k = ap (λ (y : List Token). t.Comma ∷ spell e y) (others_list es k)

pub no_equals : (tokens : List Token) → cut is_equals 0 tokens ≡ None → assignment_of tokens ≡ None
no_equals tokens is = ap (λ (o : Option Halves). then_if o (λ h. then_if (expression_of h.0) (λ a. then_if (place_if a) (λ x. then_if (expression_of h.1) (λ e. Some (Assign x e)))))) is

pub call_is_none : (w : List ℕ) (e : Formula) (es : List Formula) → assignment_of (t.Word w ∷ t.Open ∷ spell_members spell t.Comma e es (t.Close ∷ [])) ≡ None
call_is_none w e es =
    no_equals (t.Word w ∷ t.Open ∷ spell_members spell t.Comma e es (t.Close ∷ []))
    (ap (λ (y : List Token). cut is_equals 0 (t.Word w ∷ t.Open ∷ spell e y)) (sym (others_list es (t.Close ∷ []))) ∙ cut_spelled is_equals equals_outside (Item w (chained (e ∷ es))) 0 [])

-- ---- the statement ----

called : (o c r1 r2 : Option Act) (a : Act) → o ≡ None → c ≡ Some a → or_else o (or_else None (or_else (or_else o (or_else None (or_else None (or_else c r1)))) r2)) ≡ Some a
called (Some b) c r1 r2 a none is = absurd cc
called None c r1 r2 a none is = ap (λ (x : Option Act). or_else (or_else x r1) r2) is

call_first : (w : List ℕ) (tokens rest : List Token) (a : Act) → assignment_of (t.Word (67 ∷ 65 ∷ w) ∷ tokens) ≡ None → after_word (codes "CALL") (t.Word (67 ∷ 65 ∷ w) ∷ tokens) ≡ Some rest → call_of rest ≡ Some a
    → statement_of (t.Word (67 ∷ 65 ∷ w) ∷ tokens) ≡ Some a
call_first w tokens rest a none behind_it is =
    called (assignment_of (t.Word (67 ∷ 65 ∷ w) ∷ tokens)) (then_if (after_word (codes "CALL") (t.Word (67 ∷ 65 ∷ w) ∷ tokens)) call_of) _ _ a none (ap (λ (o : Option (List Token)). then_if o call_of) behind_it ∙ is)

-- what stands behind the word, where the rest of the text gives these tokens
pub call_behind : (x k : List ℕ) (tokens : List Token) → is_name x ≡ true → IsBreak k → lexed (Clear false) k ≡ tokens
    → (tokens_of (codes "CALL " ++ x ++ k) ≡ t.Word (codes "CALL" ++ x) ∷ tokens) × (after_word (codes "CALL") (t.Word (codes "CALL" ++ x) ∷ tokens) ≡ Some (t.Word x ∷ tokens))
call_behind x k tokens name b is =
    let whole : lexed (InWord (codes "CALL")) (x ++ k) ≡ t.Word (codes "CALL" ++ x) ∷ tokens =
    word_goes_on (codes "CALL") x k (name_alnum x name) ∙ word_ends (codes "CALL" ++ x) k b ∙ ap (λ (y : List Token). t.Word (codes "CALL" ++ x) ∷ y) is in
    (whole, ap (after_word (codes "CALL")) (sym whole) ∙ keyword_taken (codes "CALL") (x ++ k) ∙ ap (λ (y : List Token). Some y) (name_begins false x k name ∙ word_ends x k b ∙ ap (λ (y : List Token). t.Word x ∷ y) is))

pub bare_call_read : (x : Text) → is_name x ≡ true → statement_of (tokens_of (statement_text (Invoke x NoFormula))) ≡ Some (Invoke x NoFormula)
bare_call_read x name =
    let p = call_behind x [] [] name tt refl in
    ap statement_of p.0 ∙ call_first (76 ∷ 76 ∷ x) [] (t.Word x ∷ []) (Invoke x NoFormula) refl p.1 refl

pub call_read : (x : Text) (e : Formula) (es : List Formula) → is_name x ≡ true → IsArgument e → AllByRecursion IsArgument es → is_readable_argument e ≡ true → AllByRecursion (λ a. is_readable_argument a ≡ true) es
    → statement_of (tokens_of (statement_text (Invoke x (chained (e ∷ es))))) ≡ Some (Invoke x (chained (e ∷ es)))
call_read x e es name first others first_readable readable =
    let tail : List Token = t.Open ∷ spell_members spell t.Comma e es (t.Close ∷ []) in
    let inside : lexed (Clear false) (40 ∷ formulas_text (chained (e ∷ es)) (41 ∷ [])) ≡ t.Open ∷ spell_members spell t.Comma e es (t.Close ∷ []) =
    ap (λ (y : List Token). t.Open ∷ y) (arguments_lexed e es (41 ∷ []) first_readable readable (refl, refl, refl, refl)) in
    let p = call_behind x (40 ∷ formulas_text (chained (e ∷ es)) (41 ∷ [])) (t.Open ∷ spell_members spell t.Comma e es (t.Close ∷ [])) name (refl, refl, refl, refl) inside in
    ap statement_of p.0
    ∙ call_first (76 ∷ 76 ∷ x) (t.Open ∷ spell_members spell t.Comma e es (t.Close ∷ [])) (t.Word x ∷ t.Open ∷ spell_members spell t.Comma e es (t.Close ∷ [])) (Invoke x (chained (e ∷ es)))
    (call_is_none (67 ∷ 65 ∷ 76 ∷ 76 ∷ x) e es) p.1 (call_spelled _ _ (with_arguments x e es first others))
