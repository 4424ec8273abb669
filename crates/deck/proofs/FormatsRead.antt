-- The text of a FORMAT is read as this FORMAT.
use Rattle.std.proofs.Common.{◌≡◌, ℕ, zero, suc, Bool, false, cond, List, [], ◌∷◌, Option, Some, None, refl, ap, ◌∙◌, codes}
use Rattle.std.specs.List.{list_all}
use Rattle.f66_tree.specs.declared.expression.Operator.TheVariants.{Div}
use Rattle.f66_tree.specs.Fields.{Fields}
use Rattle.f66_tree.specs.Syntax.{Act, Format}
use Rattle.stmt_text.specs.Texts.{statement_text}
use Rattle.stmt_reader.specs.declared.token.Token.{Token}
use Rattle.stmt_reader.specs.declared.token.Token.TheVariants as t
use Rattle.stmt_reader.specs.Lexing.{tokens_of}
use Rattle.stmt_reader.specs.Cutting.{fronted, cuts, is_equals}
use Rattle.stmt_reader.specs.Taking.{then_if}
use Rattle.stmt_reader.specs.Formats.{Item, Edit, Words, Stroke, Point, Nest, Items, Ends, Then, spell_item, spell_items, Nothing, is_separated, fields_of, inside_of, format_of}
use Rattle.stmt_reader.specs.Statements.{or_else, assignment_of, statement_of}
use Rattle.stmt_reader.proofs.CutLemmas.{token_then}
use Rattle.stmt_reader.proofs.FormatItems.{items_spelled}
use Rattle.deck.specs.ReadableStatements.{AreReadableFields}
use Rattle.deck.proofs.CallsRead.{no_equals}
use Rattle.deck.proofs.KnownTokens.{is_known, AreKnown, items_known}
use Rattle.deck.proofs.RecordsRead.{IsUncut, uncut_open, uncut_close}
use Rattle.deck.proofs.FormatTexts.{written, fields_lexed}
use Rattle.deck.proofs.FormatMeanings.{nothing_starts, in_place, means}

-- ---- no assignment ----

never : (token : Token) (d : ℕ) → is_equals token ≡ false → cuts is_equals d token ≡ false
never token zero is = is
never token (suc d) is = refl

mutual
  item_uncut : (i : Item) (d : ℕ) (k : List Token) → IsUncut d k → IsUncut d (spell_item i k)
  item_uncut (Edit None w) d k h = token_then is_equals d (t.Word w) k (λ y. y) None (never (t.Word w) d refl) h
  item_uncut (Edit (Some n) w) d k h = token_then is_equals d (t.Number n) (t.Word w ∷ k) (λ y. y) None (never (t.Number n) d refl) (token_then is_equals d (t.Word w) k (λ y. y) None (never (t.Word w) d refl) h)
  item_uncut (Words text) d k h = token_then is_equals d (t.Chars text) k (λ y. y) None (never (t.Chars text) d refl) h
  item_uncut Stroke d k h = token_then is_equals d (t.Joint Div) k (λ y. y) None (never (t.Joint Div) d refl) h
  item_uncut Point d k h = token_then is_equals d t.Comma k (λ y. y) None (never t.Comma d refl) h
  item_uncut (Nest None inside) d k h = uncut_open d (spell_items inside (t.Close ∷ k)) (items_uncut inside (suc d) (t.Close ∷ k) (uncut_close d k h))
  item_uncut (Nest (Some n) inside) d k h =
      token_then is_equals d (t.Number n) (t.Open ∷ spell_items inside (t.Close ∷ k)) (λ y. y) None (never (t.Number n) d refl) (uncut_open d (spell_items inside (t.Close ∷ k)) (items_uncut inside (suc d) (t.Close ∷ k) (uncut_close d k h)))

  items_uncut : (is : Items) (d : ℕ) (k : List Token) → IsUncut d k → IsUncut d (spell_items is k)
  items_uncut Ends d k h = h
  items_uncut (Then i is) d k h = item_uncut i d (spell_items is k) (items_uncut is d k h)

-- ---- the statement ----

-- what stands behind the word
abbrev format_tokens : Fields → List Token
format_tokens fs = t.Open ∷ spell_items (written fs) (t.Close ∷ [])

format_none : (fs : Fields) → assignment_of (t.Word (codes "FORMAT") ∷ format_tokens fs) ≡ None
format_none fs =
    no_equals (t.Word (codes "FORMAT") ∷ format_tokens fs)
    (ap (fronted (λ front. t.Word (codes "FORMAT") ∷ front)) (uncut_open 0 (spell_items (written fs) (t.Close ∷ [])) (items_uncut (written fs) 1 (t.Close ∷ []) (uncut_close 0 [] refl))))

format_is : (fs : Fields) → AreReadableFields fs → format_of (format_tokens fs) ≡ Some (Format fs)
format_is fs all =
    ap (λ (o : Option Items). then_if o (λ whole. then_if (inside_of whole) (λ inside. cond (is_separated Nothing inside) (then_if (fields_of inside) (λ x. Some (Format x))) None))) (items_spelled (Then (Nest None (written fs)) Ends))
    ∙ ap (λ (b : Bool). cond b (then_if (fields_of (written fs)) (λ x. Some (Format x))) None) (in_place fs Nothing (nothing_starts fs))
    ∙ ap (λ (o : Option Fields). then_if o (λ x. Some (Format x))) (means fs all)

formatted : (o c r : Option Act) (a : Act) → o ≡ None → c ≡ Some a → or_else o (or_else None (or_else (or_else o None) (or_else None (or_else c r)))) ≡ Some a
formatted (Some b) c r a none is = absurd cc
formatted None c r a none is = ap (λ (x : Option Act). or_else x r) is

pub format_lexed : (fs : Fields) → AreReadableFields fs → tokens_of (statement_text (Format fs)) ≡ t.Word (codes "FORMAT") ∷ t.Open ∷ spell_items (written fs) (t.Close ∷ [])
format_lexed fs all = ap (λ (y : List Token). t.Word (codes "FORMAT") ∷ t.Open ∷ y) (fields_lexed fs (41 ∷ []) all (refl, refl, refl, refl))

pub format_known : (fs : Fields) → AreReadableFields fs → AreKnown (tokens_of (statement_text (Format fs)))
format_known fs all = ap (list_all is_known) (format_lexed fs all) ∙ items_known (written fs) (t.Close ∷ []) refl

pub format_read : (fs : Fields) → AreReadableFields fs → statement_of (tokens_of (statement_text (Format fs))) ≡ Some (Format fs)
format_read fs all =
    ap statement_of (format_lexed fs all)
    ∙ formatted (assignment_of (t.Word (codes "FORMAT") ∷ format_tokens fs)) (format_of (format_tokens fs)) _ (Format fs) (format_none fs) (format_is fs all)
