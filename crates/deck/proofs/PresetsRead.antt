-- The text of DATA is read as this statement: places, and their values between slashes, with a comma before each part but the first.
use Rattle.std.proofs.Common.{◌≡◌, ℕ, pos, negsuc, ◌≤◌, Bool, true, false, cond, List, [], ◌∷◌, ◌++◌, Option, Some, None, refl, sym, ap, ◌∙◌, codes}
use Rattle.std.specs.Prelude.{◌==◌, decimal}
use Rattle.std.specs.List.{list_all, AllByRecursion}
use Rattle.std.proofs.lemmas.Bool.{and_parts, eqb-true}
use Rattle.f66_tree.specs.declared.expression.Operator.TheVariants.{Mul, Div}
use Rattle.f66_tree.specs.Syntax.{Text, Formula, Int, Truth, Letter, Ref, Item, Plus, Minus, PresetPart, Act, Preset}
use Rattle.stmt_text.specs.Texts.{formula_text, formulas_text, commas, more_commas, value_text, preset_text, statement_text}
use Rattle.stmt_reader.specs.declared.token.Token.{Token}
use Rattle.stmt_reader.specs.declared.token.Token.TheVariants as t
use Rattle.stmt_reader.specs.declared.lexer.Part.TheVariants.{Clear, InWord}
use Rattle.stmt_reader.specs.Levels.{is_name}
use Rattle.stmt_reader.specs.Cutting.{fronted, cut, is_comma, is_equals}
use Rattle.stmt_reader.specs.Declarations.{place_of, constant_of, value_of, preset_of, presets_in, presets_of}
use Rattle.stmt_reader.specs.Lexing.{lexed, tokens_of}
use Rattle.stmt_reader.specs.Spelling.{spell, spell_others}
use Rattle.stmt_reader.specs.Splitting.{Pieces, is_slash, split, split_here, split_behind, with_first, list_of}
use Rattle.stmt_reader.specs.Statements.{or_else, after_word, assignment_of, statement_of}
use Rattle.stmt_reader.specs.Taking.{then_if, place_if}
use Rattle.stmt_reader.proofs.Complete.{expression_spelled}
use Rattle.stmt_reader.proofs.CutLemmas.{IsOutside, comma_outside, equals_outside, cut_spelled, fronted_twice, token_then}
use Rattle.stmt_reader.proofs.ListReads.{IsMember, front, passes_by_cut}
use Rattle.deck.specs.Readable.{is_readable_argument, is_readable_datum, are_some_readable}
use Rattle.deck.specs.ReadableStatements.{AreSome, IsReadablePlace, IsReadableValue, IsReadablePart}
use Rattle.deck.proofs.BranchesRead.{name_alnum}
use Rattle.deck.proofs.CallsRead.{argument_lexed, no_equals}
use Rattle.deck.proofs.EquivalencesRead.{places_lexed}
use Rattle.deck.proofs.KeywordLemmas.{keyword_taken}
use Rattle.deck.proofs.KnownTokens.{is_known, AreKnown, spell_known}
use Rattle.deck.proofs.LexingLemmas.{IsBreak, Starts, clear_same, number_begins, number_ends, operator_lexed, word_goes_on, word_ends}
use Rattle.deck.proofs.ListsRead.{spell_some, others_lexed, some_lexed, cut_some, some_read, some_known, others_known}
use Rattle.deck.proofs.SlashCuts.{place_passes, datum_passes, some_pass}
use Rattle.deck.proofs.TextsRead.{text_starts, text_lexed, list_lexed}
use Rattle.deck.proofs.TypesRead.{more_break}

-- ---- how parts are spelled ----

-- a count of one is left out
abbrev pub spell_value : ℕ × Formula → List Token → List Token
spell_value v k = cond (v.0 == 1) (spell v.1 k) (t.Number v.0 ∷ t.Joint Mul ∷ spell v.1 k)

abbrev pub spell_part : PresetPart → List Token → List Token
spell_part p k = spell_some spell p.places (t.Joint Div ∷ spell_some spell_value p.values (t.Joint Div ∷ k))

-- ---- the tokens of values ----

datum_argument : (e : Formula) → is_readable_datum e ≡ true → is_readable_argument e ≡ true
datum_argument (Int z) is = is
datum_argument (Plus (Int z)) is = is
datum_argument (Minus (Int z)) is = is
datum_argument (Truth b) is = refl
datum_argument (Letter c) is = refl
datum_argument _ is = absurd cc

datum_lexed : (e : Formula) (k : List ℕ) → is_readable_datum e ≡ true → IsBreak k → lexed (Clear true) (formula_text e k) ≡ spell e (lexed (Clear false) k)
datum_lexed e k is b = argument_lexed e k (datum_argument e is) b

datum_starts : (e : Formula) (k : List ℕ) → is_readable_datum e ≡ true → Starts (formula_text e k)
datum_starts (Int z) k is = text_starts (Int z) k is
datum_starts (Plus (Int z)) k is = (refl, refl)
datum_starts (Minus (Int z)) k is = (refl, refl)
datum_starts (Truth b) k is = text_starts (Truth b) k refl
datum_starts (Letter c) k is = (refl, refl)
datum_starts _ k is = absurd cc

value_by : (n : ℕ) (e : Formula) (k : List ℕ) (one : Bool) → n ≤ 2147483647 → is_readable_datum e ≡ true → IsBreak k
    → lexed (Clear true) (cond one (formula_text e k) (decimal n ++ 42 ∷ formula_text e k)) ≡ cond one (spell e (lexed (Clear false) k)) (t.Number n ∷ t.Joint Mul ∷ spell e (lexed (Clear false) k))
value_by n e k true low is b = datum_lexed e k is b
value_by n e k false low is b =
    number_begins true n (42 ∷ formula_text e k) low
    ∙ number_ends true n (42 ∷ formula_text e k) (refl, refl, refl, refl)
    ∙ ap (λ (y : List Token). t.Number n ∷ y) (operator_lexed Mul (formula_text e k) (datum_starts e k is) ∙ ap (λ (y : List Token). t.Joint Mul ∷ y) (datum_lexed e k is b))

values_lexed : (vs : List (ℕ × Formula)) (k : List ℕ) → AreSome IsReadableValue vs → IsBreak k → lexed (Clear true) (commas value_text vs k) ≡ spell_some spell_value vs (lexed (Clear false) k)
values_lexed vs k fine b =
    some_lexed value_text spell_value IsReadableValue (λ v m good b. value_by v.0 v.1 m (v.0 == 1) good.0 good.1 b) true (λ v m good b. value_by v.0 v.1 m (v.0 == 1) good.0 good.1 b) vs k fine b

-- ---- the tokens of parts ----

-- what stands behind the places
values_behind : (p : PresetPart) (k : List ℕ) → IsReadablePart p → IsBreak k → lexed (Clear false) (47 ∷ commas value_text p.values (47 ∷ k)) ≡ t.Joint Div ∷ spell_some spell_value p.values (t.Joint Div ∷ lexed (Clear false) k)
values_behind p k fine b =
    ap (λ (y : List Token). t.Joint Div ∷ y) (values_lexed p.values (47 ∷ k) fine.1 (refl, refl, refl, refl) ∙ ap (λ (y : List Token). spell_some spell_value p.values (t.Joint Div ∷ y)) (clear_same k b))

part_lexed : (opens : Bool) (p : PresetPart) (k : List ℕ) → IsReadablePart p → IsBreak k → lexed (Clear opens) (preset_text p k) ≡ spell_part p (lexed (Clear false) k)
part_lexed opens p k fine b = places_lexed opens p.places (47 ∷ commas value_text p.values (47 ∷ k)) fine.0 (refl, refl, refl, refl) ∙ ap (spell_some spell p.places) (values_behind p k fine b)

parts_lexed : (parts : List PresetPart) → AreSome IsReadablePart parts → lexed (Clear false) (commas preset_text parts []) ≡ spell_some spell_part parts []
parts_lexed parts fine = some_lexed preset_text spell_part IsReadablePart (part_lexed true) false (part_lexed false) parts [] fine tt

-- where the letters of the statement stand before the first place
abbrev pub lettered : List ℕ → Formula → Formula
lettered w (Ref x) = Ref (w ++ x)
lettered w (Item x es) = Item (w ++ x) es
lettered w e = e

abbrev pub first_lettered : List ℕ → List Formula → List Formula
first_lettered w [] = []
first_lettered w (e ∷ es) = lettered w e ∷ es

abbrev pub lettered_part : List ℕ → PresetPart → PresetPart
lettered_part w p = record { places = first_lettered w p.places; values = p.values }

abbrev pub preset_tokens : List PresetPart → List Token
preset_tokens [] = t.Word (codes "DATA") ∷ []
preset_tokens (p ∷ ps) = spell_some spell_part (lettered_part (codes "DATA") p ∷ ps) []

place_behind : (w : List ℕ) (e : Formula) (k : List ℕ) → IsReadablePlace e → IsBreak k → lexed (InWord w) (formula_text e k) ≡ spell (lettered w e) (lexed (Clear false) k)
place_behind w (Ref x) k fine b = word_goes_on w x k (name_alnum x fine.1.readable) ∙ word_ends (w ++ x) k b
place_behind w (Item x es) k fine b =
    let parts = and_parts (is_name x) (are_some_readable es) fine.1.readable in
    word_goes_on w x (40 ∷ formulas_text es (41 ∷ k)) (name_alnum x parts.0)
    ∙ word_ends (w ++ x) (40 ∷ formulas_text es (41 ∷ k)) (refl, refl, refl, refl)
    ∙ ap (λ (y : List Token). t.Word (w ++ x) ∷ t.Open ∷ y) (list_lexed es true (41 ∷ k) parts.1 (refl, refl, refl, refl))
place_behind w _ k fine b = absurd (let no = fine.0 in cc)

places_behind : (w : List ℕ) (es : List Formula) (k : List ℕ) → AreSome IsReadablePlace es → IsBreak k → lexed (InWord w) (commas formula_text es k) ≡ spell_some spell (first_lettered w es) (lexed (Clear false) k)
places_behind w [] k fine b = absurd fine
places_behind w (e ∷ es) k fine b =
    place_behind w e (more_commas formula_text es k) fine.0 (more_break formula_text es k b)
    ∙ ap (spell (lettered w e)) (others_lexed formula_text spell IsReadablePlace (λ d m good b. text_lexed d true m good.1.readable b) es k fine.1 b)

pub preset_lexed : (parts : List PresetPart) → AreSome IsReadablePart parts → tokens_of (statement_text (Preset parts)) ≡ preset_tokens parts
preset_lexed [] fine = absurd fine
preset_lexed (p ∷ ps) fine =
    let rest : List ℕ = more_commas preset_text ps [] in
    places_behind (codes "DATA") p.places (47 ∷ commas value_text p.values (47 ∷ rest)) fine.0.0 (refl, refl, refl, refl)
    ∙ ap (spell_some spell (first_lettered (codes "DATA") p.places)) (values_behind p rest fine.0 (more_break preset_text ps [] tt))
    ∙ ap (spell_part (lettered_part (codes "DATA") p)) (others_lexed preset_text spell_part IsReadablePart (part_lexed true) ps [] fine.1 tt)

preset_behind : (parts : List PresetPart) → AreSome IsReadablePart parts → after_word (codes "DATA") (preset_tokens parts) ≡ Some (spell_some spell_part parts [])
preset_behind parts fine =
    ap (after_word (codes "DATA")) (sym (preset_lexed parts fine)) ∙ keyword_taken (codes "DATA") (commas preset_text parts []) ∙ ap (λ (y : List Token). Some y) (parts_lexed parts fine)

-- ---- the values that they give ----

constant_is : (e : Formula) → is_readable_datum e ≡ true → constant_of (spell e []) ≡ Some e
constant_is (Int (pos n)) is = refl
constant_is (Int (negsuc n)) is = absurd cc
constant_is (Plus (Int (pos n))) is = refl
constant_is (Plus (Int (negsuc n))) is = absurd cc
constant_is (Minus (Int (pos n))) is = refl
constant_is (Minus (Int (negsuc n))) is = absurd cc
constant_is (Truth b) is = refl
constant_is (Letter c) is = refl
constant_is _ is = absurd cc

-- a constant alone has a count of one
alone : (e : Formula) → is_readable_datum e ≡ true → value_of (spell e []) ≡ Some (1, e)
alone (Int (pos n)) is = refl
alone (Int (negsuc n)) is = absurd cc
alone (Plus (Int (pos n))) is = refl
alone (Plus (Int (negsuc n))) is = absurd cc
alone (Minus (Int (pos n))) is = refl
alone (Minus (Int (negsuc n))) is = absurd cc
alone (Truth b) is = refl
alone (Letter c) is = refl
alone _ is = absurd cc

value_is : (n : ℕ) (e : Formula) (one : Bool) → (n == 1) ≡ one → is_readable_datum e ≡ true → value_of (cond one (spell e []) (t.Number n ∷ t.Joint Mul ∷ spell e [])) ≡ Some (n, e)
value_is n e true same is = alone e is ∙ ap (λ (m : ℕ). Some (m, e)) (sym (eqb-true n 1 same))
value_is n e false same is = ap (λ (o : Option Formula). then_if o (λ c. Some (n, c))) (constant_is e is)

value_cut : (p : Token → Bool) → IsOutside p → (n : ℕ) (e : Formula) (one : Bool) (k : List Token)
    → cut p 0 (cond one (spell e k) (t.Number n ∷ t.Joint Mul ∷ spell e k)) ≡ fronted (λ y. cond one (spell e y) (t.Number n ∷ t.Joint Mul ∷ spell e y)) (cut p 0 k)
value_cut p o n e true k = cut_spelled p o e 0 k
value_cut p o n e false k =
    token_then p 0 (t.Number n) (t.Joint Mul ∷ spell e k) (λ y. t.Joint Mul ∷ spell e y) (cut p 0 k) (o.number n) (token_then p 0 (t.Joint Mul) (spell e k) (spell e) (cut p 0 k) (o.joint Mul) (cut_spelled p o e 0 k))

value_passes : (n : ℕ) (e : Formula) (one : Bool) (k : List Token) → is_readable_datum e ≡ true
    → split is_slash 0 (cond one (spell e k) (t.Number n ∷ t.Joint Mul ∷ spell e k)) ≡ front (λ y. cond one (spell e y) (t.Number n ∷ t.Joint Mul ∷ spell e y)) (split is_slash 0 k)
value_passes n e true k is = datum_passes e k is
value_passes n e false k is = ap (λ (r : Pieces). split_behind (t.Number n) (split_behind (t.Joint Mul) r)) (datum_passes e k is)

value_member : (v : ℕ × Formula) → IsReadableValue v → IsMember is_comma value_of spell_value v
value_member v fine = record {
  is_read = value_is v.0 v.1 (v.0 == 1) refl fine.1;
  passes = λ k. passes_by_cut is_comma (spell_value v) k (value_cut is_comma comma_outside v.0 v.1 (v.0 == 1) k);
}

place_member : (e : Formula) → IsReadablePlace e → IsMember is_comma place_of spell e
place_member e fine = record {
  is_read = ap (λ (o : Option Formula). then_if o place_if) (expression_spelled e fine.1.stands) ∙ fine.0;
  passes = λ k. passes_by_cut is_comma (spell e) k (cut_spelled is_comma comma_outside e 0 k);
}

part_is : (p : PresetPart) → IsReadablePart p → preset_of (spell_some spell p.places []) (spell_some spell_value p.values []) ≡ Some p
part_is p fine =
    ap (λ (o : Option (List Formula)). then_if o (λ ps. then_if (list_of value_of is_comma (spell_some spell_value p.values [])) (λ vs. Some (record { places = ps; values = vs })))) (some_read place_of spell IsReadablePlace place_member p.places fine.0)
    ∙ ap (λ (o : Option (List (ℕ × Formula))). then_if o (λ vs. Some (record { places = p.places; values = vs }))) (some_read value_of spell_value IsReadableValue value_member p.values fine.1)

-- ---- the parts between their slashes ----

part_split : (p : PresetPart) (k : List Token) → IsReadablePart p → split is_slash 0 (spell_part p k) ≡ (spell_some spell p.places [], spell_some spell_value p.values [] ∷ (split is_slash 0 k).0 ∷ (split is_slash 0 k).1)
part_split p k fine =
    some_pass spell IsReadablePlace (λ e m good. place_passes e m good.0) p.places (t.Joint Div ∷ spell_some spell_value p.values (t.Joint Div ∷ k)) fine.0
    ∙ ap (λ (r : Pieces). front (spell_some spell p.places) (split_here r)) (some_pass spell_value IsReadableValue (λ v m good. value_passes v.0 v.1 (v.0 == 1) m good.1) p.values (t.Joint Div ∷ k) fine.1)

parts_are : (p : PresetPart) (ps : List PresetPart) → IsReadablePart p → AllByRecursion IsReadablePart ps
    → presets_in (split is_slash 0 (spell_some spell_part (p ∷ ps) [])).0 (split is_slash 0 (spell_some spell_part (p ∷ ps) [])).1 ≡ Some (p ∷ ps)
parts_are p [] first others =
    ap (λ (r : Pieces). presets_in r.0 r.1) (part_split p [] first) ∙ ap (λ (o : Option PresetPart). with_first o (Some [])) (part_is p first)
parts_are p (q ∷ qs) first others =
    let rest : Pieces = split is_slash 0 (spell_some spell_part (q ∷ qs) []) in
    ap (λ (r : Pieces). presets_in r.0 r.1) (part_split p (t.Comma ∷ spell_some spell_part (q ∷ qs) []) first)
    ∙ ap (λ (o : Option PresetPart). with_first o (presets_in rest.0 rest.1)) (part_is p first)
    ∙ ap (with_first (Some p)) (parts_are q qs others.0 others.1)

preset_is : (parts : List PresetPart) → AreSome IsReadablePart parts → presets_of (spell_some spell_part parts []) ≡ Some (Preset parts)
preset_is [] fine = absurd fine
preset_is (p ∷ ps) fine = ap (λ (o : Option (List PresetPart)). then_if o (λ all. Some (Preset all))) (parts_are p ps fine.0 fine.1)

-- ---- the statement ----

part_uncut : (p : PresetPart) (k : List Token) → cut is_equals 0 (spell_part p k) ≡ fronted (spell_part p) (cut is_equals 0 k)
part_uncut p k =
    cut_some is_equals refl spell (λ e m. cut_spelled is_equals equals_outside e 0 m) p.places (t.Joint Div ∷ spell_some spell_value p.values (t.Joint Div ∷ k))
    ∙ ap (fronted (spell_some spell p.places))
    (token_then is_equals 0 (t.Joint Div) (spell_some spell_value p.values (t.Joint Div ∷ k)) (λ y. spell_some spell_value p.values (t.Joint Div ∷ y)) (cut is_equals 0 k) refl
    (cut_some is_equals refl spell_value (λ v m. value_cut is_equals equals_outside v.0 v.1 (v.0 == 1) m) p.values (t.Joint Div ∷ k) ∙ fronted_twice (spell_some spell_value p.values) (λ y. t.Joint Div ∷ y) (cut is_equals 0 k)))
    ∙ fronted_twice (spell_some spell p.places) (λ y. t.Joint Div ∷ spell_some spell_value p.values (t.Joint Div ∷ y)) (cut is_equals 0 k)

preset_none : (parts : List PresetPart) → assignment_of (preset_tokens parts) ≡ None
preset_none [] = refl
preset_none (p ∷ ps) = no_equals (spell_some spell_part (lettered_part (codes "DATA") p ∷ ps) []) (cut_some is_equals refl spell_part part_uncut (lettered_part (codes "DATA") p ∷ ps) [])

-- what is spelled so begins with the word
pub data_first : (P : List Token → Type 0) (parts : List PresetPart) → AreSome IsReadablePart parts → ((x : Text) (tokens : List Token) → P (t.Word (codes "DATA" ++ x) ∷ tokens)) → P (preset_tokens parts)
data_first P [] fine all = absurd fine
data_first P (p ∷ ps) fine all = by p.places fine.0.0 (t.Joint Div ∷ spell_some spell_value p.values (t.Joint Div ∷ spell_others spell_part t.Comma ps []))
  where
    by : (es : List Formula) → AreSome IsReadablePlace es → (k : List Token) → P (spell_some spell (first_lettered (codes "DATA") es) k)
    by [] good k = absurd good
    by (Ref x ∷ es) good k = all x _
    by (Item x is ∷ es) good k = all x _
    by (_ ∷ es) good k = absurd (let no = good.0.0 in cc)

chosen : (o c : Option Act) (a : Act) → o ≡ None → c ≡ Some a → or_else o (or_else None (or_else (or_else o None) (or_else None (or_else None c)))) ≡ Some a
chosen (Some b) c a none is = absurd cc
chosen None c a none is = is

pub preset_read : (parts : List PresetPart) → AreSome IsReadablePart parts → statement_of (tokens_of (statement_text (Preset parts))) ≡ Some (Preset parts)
preset_read parts fine =
    ap statement_of (preset_lexed parts fine)
    ∙ data_first (λ tokens. assignment_of tokens ≡ None → after_word (codes "DATA") tokens ≡ Some (spell_some spell_part parts []) → statement_of tokens ≡ Some (Preset parts)) parts fine
    (λ x tokens none behind_it. chosen (assignment_of (t.Word (codes "DATA" ++ x) ∷ tokens)) (then_if (after_word (codes "DATA") (t.Word (codes "DATA" ++ x) ∷ tokens)) presets_of) (Preset parts) none (ap (λ (o : Option (List Token)). then_if o presets_of) behind_it ∙ preset_is parts fine))
    (preset_none parts) (preset_behind parts fine)

-- ---- all its tokens are known ----

value_known : (n : ℕ) (e : Formula) (one : Bool) (k : List Token) → AreKnown k → AreKnown (cond one (spell e k) (t.Number n ∷ t.Joint Mul ∷ spell e k))
value_known n e true k known = spell_known e k known
value_known n e false k known = spell_known e k known

values_known : (p : PresetPart) (k : List Token) → IsReadablePart p → AreKnown k → AreKnown (t.Joint Div ∷ spell_some spell_value p.values (t.Joint Div ∷ k))
values_known p k fine known = some_known spell_value IsReadableValue (λ v m good rest. value_known v.0 v.1 (v.0 == 1) m rest) p.values (t.Joint Div ∷ k) fine.1 known

part_known : (p : PresetPart) (k : List Token) → IsReadablePart p → AreKnown k → AreKnown (spell_part p k)
part_known p k fine known = some_known spell IsReadablePlace (λ e m good rest. spell_known e m rest) p.places (t.Joint Div ∷ spell_some spell_value p.values (t.Joint Div ∷ k)) fine.0 (values_known p k fine known)

places_known : (w : List ℕ) (es : List Formula) (k : List Token) → AreSome IsReadablePlace es → AreKnown k → AreKnown (spell_some spell (first_lettered w es) k)
places_known w [] k fine known = absurd fine
places_known w (e ∷ es) k fine known = spell_known (lettered w e) (spell_others spell t.Comma es k) (others_known spell IsReadablePlace (λ d m good rest. spell_known d m rest) es k fine.1 known)

tokens_known : (parts : List PresetPart) → AreSome IsReadablePart parts → AreKnown (preset_tokens parts)
tokens_known [] fine = absurd fine
tokens_known (p ∷ ps) fine =
    let rest : List Token = spell_others spell_part t.Comma ps [] in
    places_known (codes "DATA") p.places (t.Joint Div ∷ spell_some spell_value p.values (t.Joint Div ∷ rest)) fine.0.0 (values_known p rest fine.0 (others_known spell_part IsReadablePart part_known ps [] fine.1 refl))

pub preset_known : (parts : List PresetPart) → AreSome IsReadablePart parts → AreKnown (tokens_of (statement_text (Preset parts)))
preset_known parts fine = ap (list_all is_known) (preset_lexed parts fine) ∙ tokens_known parts fine
