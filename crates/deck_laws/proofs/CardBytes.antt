-- How many bytes the cards of a deck have, where no text passes twenty cards.
use Rattle.std.proofs.Common.{◌≡◌, ℕ, zero, suc, ◌+◌, ◌*◌, ◌≤◌, ◌⊎◌, inl, inr, List, [], ◌∷◌, ◌++◌, length, length-append, map, None, refl, arith}
use Rattle.std.specs.Prelude.{nat_lt, unwrap_or}
use Rattle.std.specs.List.{flat_map}
use Rattle.std.proofs.lemmas.List.{length-map}
use Rattle.ground.specs.declared.place.Place.{Place}
use Rattle.f66_tree.specs.Syntax.{Header, MainUnit, SubUnit, FuncUnit, DataUnit, Line, Routine}
use Rattle.stmt_text.specs.Texts.{header_text, statement_text}
use Rattle.card_writer.specs.Cards.{columns, cards}
use Rattle.deck.specs.Decks.{statement_cards, header_cards, end_line, unit_cards, deck_of}
use Rattle.deck.specs.LongTexts.{fault_of_text, fault_of_line, fault_of_header, first_fault, fault_of_unit, fault_of_deck}
use Rattle.deck.specs.Written.{breaks, written_header, written_line, written_unit, statements_of}
use Rattle.deck_laws.specs.Small.{IsSmallDeck}
use Rattle.deck_laws.specs.Whole.{IsSoundDeck}
use Rattle.deck_laws.proofs.WritableLines.{breaks_few, none_both, fits_by}

-- each continuation adds the end of a line and six columns
columns_length : (text : List ℕ) (left next : ℕ) → length (columns left next text) ≡ length text + 7 * breaks left text + 1
columns_length [] left next = omega arith
columns_length (c ∷ text) (suc left) next = omega (arith, columns_length text left next)
columns_length (c ∷ text) zero next = omega (arith, columns_length text 65 (suc next))

breaks_bound : (left : ℕ) (text : List ℕ) → (breaks left text ≡ 0) ⊎ (66 * breaks left text + left ≤ length text + 65)
breaks_bound left [] = inl refl
breaks_bound (suc left) (c ∷ text) = elim (breaks_bound left text) [ inl none ↦ inl none | inr few ↦ inr (omega (arith, few)) ]
breaks_bound zero (c ∷ text) = elim (breaks_bound 65 text) [ inl none ↦ inr (omega (arith, none)) | inr few ↦ inr (omega (arith, few)) ]

-- 73 bytes for each 66 characters, and seven more
pub cards_low : (label : ℕ) (text : List ℕ) → 66 * length (cards label text) ≤ 73 * length text + 462
cards_low label text = elim (breaks_bound 66 text) [ inl none ↦ omega (arith, columns_length text 66 1, none) | inr few ↦ omega (arith, columns_length text 66 1, few) ]

-- the bytes of twenty cards
pub cards_few : (label : ℕ) (text : List ℕ) → length text ≤ 1320 → length (cards label text) ≤ 1460
cards_few label text short = omega (arith, columns_length text 66 1, breaks_few text short, short)

pub text_short : (place : Place) (text : List ℕ) → fault_of_text place text ≡ None → length text ≤ 1320
text_short place text none = fits_by place (length text) (nat_lt 1320 (length text)) refl none

lines_bytes : (lines : List Line) → first_fault fault_of_line lines ≡ None → length (flat_map statement_cards lines) ≤ 1460 * length lines
lines_bytes [] none = omega arith
lines_bytes (line ∷ lines) none =
    let both = none_both (fault_of_line line) (first_fault fault_of_line lines) none in
    omega (arith, length-append (statement_cards line) (flat_map statement_cards lines), cards_few (unwrap_or line.label 0) (statement_text line.act) (text_short line.place (statement_text line.act) both.0), lines_bytes lines both.1)

header_bytes : (place : Place) (h : Header) → fault_of_header place h ≡ None → length (header_cards h) ≤ 1460 * length (written_header h)
header_bytes place MainUnit none = omega arith
header_bytes place (SubUnit x ds) none = cards_few 0 (header_text (SubUnit x ds)) (text_short place (header_text (SubUnit x ds)) none)
header_bytes place (FuncUnit w x ds) none = cards_few 0 (header_text (FuncUnit w x ds)) (text_short place (header_text (FuncUnit w x ds)) none)
header_bytes place DataUnit none = cards_few 0 (header_text DataUnit) (text_short place (header_text DataUnit) none)

-- ten more for the END line
unit_bytes : (unit : Routine) → fault_of_unit unit ≡ None → length (unit_cards unit) ≤ 1460 * length (written_unit unit) + 10
unit_bytes unit none =
    let both = none_both (fault_of_header unit.place unit.header) (first_fault fault_of_line unit.lines) none in
    let body : List ℕ = flat_map statement_cards unit.lines in
    omega (
      arith,
      length-append (header_cards unit.header) (body ++ end_line),
      length-append body end_line,
      header_bytes unit.place unit.header both.0,
      lines_bytes unit.lines both.1,
      length-append (written_header unit.header) (map written_line unit.lines),
      length-map unit.lines written_line,
    )

pub deck_bytes : (units : List Routine) → fault_of_deck units ≡ None → length (deck_of units) ≤ 1460 * statements_of (map written_unit units) + 10 * length units
deck_bytes [] none = omega arith
deck_bytes (unit ∷ units) none =
    let both = none_both (fault_of_unit unit) (first_fault fault_of_unit units) none in
    omega (arith, length-append (unit_cards unit) (deck_of units), unit_bytes unit both.0, deck_bytes units both.1)

pub small_is_sound : (units : List Routine) → IsSmallDeck units → IsSoundDeck units
small_is_sound units is =
    let bytes = deck_bytes units is.texts in
    let counted = is.statements in
    let few = is.few in
    record { each = is.each; texts = is.texts; some = is.some; few = is.few; statements = omega (arith, counted); bytes = omega (arith, bytes, counted, few) }
