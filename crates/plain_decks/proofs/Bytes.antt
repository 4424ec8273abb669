-- The cards of a plain unit with few operands have no more bytes than these.
use Rattle.std.proofs.Common.{◌≡◌, ◌≤◌, ◌+◌, ◌*◌, ℕ, List, [], ◌∷◌, ◌++◌, length, length-append, map, Some, None, inl, inr, subst, arith}
use Rattle.std.specs.Prelude.{unwrap_or}
use Rattle.std.specs.List.{AllByRecursion, flat_map, slice_get}
use Rattle.std.proofs.lemmas.List.{length-map}
use Rattle.ground.specs.declared.value.Kind.{Kind}
use Rattle.f66_tree.specs.Syntax.{Text, Item, Header, MainUnit, SubUnit, FuncUnit, Act, Assign, Goto, When, Invoke, Continue, Stop, Return, Read, Write, Format, Typed, Line, Routine}
use Rattle.f66_tree.specs.Units.{Context}
use Rattle.f66_check.specs.CheckRules.{context_of}
use Rattle.stmt_text.specs.Texts.{statement_text, header_text}
use Rattle.card_writer.specs.Cards.{cards}
use Rattle.deck.specs.Decks.{statement_cards, header_cards, end_line, unit_cards, deck_of}
use Rattle.deck.specs.Written.{written_header, written_line, written_unit, statements_of}
use Rattle.deck_laws.proofs.CardBytes.{cards_low}
use Rattle.plain_units.specs.Plain.{IsPlain}
use Rattle.plain_units.specs.Known.{AreKnown, IsPlainHeader, IsTyping, IsHead}
use Rattle.plain_units.specs.Units.{IsLast, IsPlainUnit}
use Rattle.plain_units.proofs.Found.{item_of, either_get}
use Rattle.plain_units.proofs.Places.{part_at, only_at}
use Rattle.plain_decks.specs.Bytes.{act_bytes, lines_bytes, unit_bytes, most_bytes}
use Rattle.plain_decks.specs.Few.{width_of_act, dummies_of, HasFew, NamesShortLabel, HasFewOperands}
use Rattle.plain_decks.proofs.Operands.{widths_most}
use Rattle.plain_decks.proofs.Texts.{act_length, typing_length, header_length}
use Rattle.plain_decks.proofs.Units.{names_short, everywhere}

-- ---- statements ----

abbrev IsShort : Line → Type 0
IsShort s = length (statement_cards s) ≤ act_bytes s.act

last_short : (label : ℕ) (a : Act) → IsLast a → length (cards label (statement_text a)) ≤ act_bytes a
last_short label (Stop None) h = omega (arith, cards_low label (statement_text (Stop None)))
last_short label (Stop (Some n)) h = absurd (let e : Some n ≡ None = h in cc)
last_short label Return h = omega (arith, cards_low label (statement_text Return))
last_short label a h = absurd h

module _ (V F : Text → Kind → Type 0) (S : Text → Type 0) (c : Context) (known : AreKnown V F S c) where
  long : (a : Act) → IsPlain V F S a → NamesShortLabel a → (label : ℕ) → 66 * length (cards label (statement_text a)) ≤ 73 * width_of_act a + 462
  long a h low label = omega (arith, cards_low label (statement_text a), act_length V F S c known a h low)

  act_short : (a : Act) → IsPlain V F S a → NamesShortLabel a → HasFew a → (label : ℕ) → length (cards label (statement_text a)) ≤ act_bytes a
  act_short (Assign x (Item f es)) h low few label = omega (arith, long (Assign x (Item f es)) h low label, widths_most es)
  act_short (Invoke x es) h low few label = omega (arith, long (Invoke x es) h low label, widths_most es)
  act_short (Read u l es) h low few label = omega (arith, long (Read u l es) h low label)
  act_short (Write u l es) h low few label = omega (arith, long (Write u l es) h low label)
  act_short (Format fs) h low few label = omega (arith, few, long (Format fs) h low label)
  act_short (Assign x e) h low few label = omega (arith, long (Assign x e) h low label)
  act_short (When e (Goto l)) h low few label = omega (arith, long (When e (Goto l)) h low label)
  act_short (Goto l) h low few label = omega (arith, long (Goto l) h low label)
  act_short Continue h low few label = omega (arith, long Continue h low label)
  act_short Return h low few label = omega (arith, long Return h low label)
  act_short (Stop n) h low few label = omega (arith, long (Stop n) h low label)
  act_short a h low few label = absurd h

  typing_short : (h : Header) (a : Act) (label : ℕ) → IsTyping V F S h a → length (cards label (statement_text a)) ≤ act_bytes a
  typing_short h (Typed t ds) label is = omega (arith, cards_low label (statement_text (Typed t ds)), typing_length V F S c known h t ds is)
  typing_short h a label is = absurd is

  header_short : (h : Header) → IsPlainHeader V F S h → length (header_cards h) ≤ 60 + 15 * dummies_of h
  header_short MainUnit is = omega arith
  header_short (SubUnit x ds) is = omega (arith, cards_low 0 (header_text (SubUnit x ds)), header_length V F S c known (SubUnit x ds) is)
  header_short (FuncUnit t x ds) is = omega (arith, cards_low 0 (header_text (FuncUnit t x ds)), header_length V F S c known (FuncUnit t x ds) is)
  header_short h is = absurd is

-- ---- units ----

lines_short : (lines : List Line) → AllByRecursion IsShort lines → length (flat_map statement_cards lines) ≤ lines_bytes lines
lines_short [] h = omega arith
lines_short (s ∷ lines) h = omega (arith, length-append (statement_cards s) (flat_map statement_cards lines), h.0, lines_short lines h.1)

module _ (V F : Text → Kind → Type 0) (S : Text → Type 0) (u : Routine) (unit : IsPlainUnit V F S u) (few : HasFewOperands V F S u unit) where
  each_short : (i : ℕ) (s : Line) → slice_get u.lines i ≡ Some s → IsShort s
  each_short i s e = elim (either_get unit.heads (unit.body ++ unit.last ∷ []) i s (subst (λ xs. slice_get xs i ≡ Some s) unit.lines e)) [
    | inl h ↦ typing_short V F S (context_of u) unit.known u.header s.act (unwrap_or s.label 0) (item_of (λ t. IsHead V F S u.header t) unit.heads i s unit.typing h).typing
    | inr h ↦ behind h.0 h.1
  ]
    where
      behind : (j : ℕ) → slice_get (unit.body ++ unit.last ∷ []) j ≡ Some s → IsShort s
      behind j g = elim (part_at unit.body (unit.last ∷ []) j s g) [
        | inl h ↦ act_short V F S (context_of u) unit.known s.act (item_of (λ t. IsPlain V F S t.act) unit.body j s unit.plain h.1) (names_short u.lines unit.labels i s e) (item_of (λ t. HasFew t.act) unit.body j s few.body h.1) (unwrap_or s.label 0)
        | inr h ↦ subst IsShort (only_at unit.last s h.0 h.2) (last_short (unwrap_or unit.last.label 0) unit.last.act unit.ends)
      ]

  pub unit_short : length (unit_cards u) ≤ unit_bytes u
  unit_short =
      let body : List ℕ = flat_map statement_cards u.lines in
      omega (
        arith,
        length-append (header_cards u.header) (body ++ end_line),
        length-append body end_line,
        header_short V F S (context_of u) unit.known u.header unit.header,
        lines_short u.lines (everywhere IsShort u.lines each_short),
      )

-- ---- decks ----

pub deck_short : (us : List Routine) → AllByRecursion (λ u. length (unit_cards u) ≤ unit_bytes u) us → length (deck_of us) ≤ most_bytes us
deck_short [] h = omega arith
deck_short (u ∷ us) h = omega (arith, length-append (unit_cards u) (deck_of us), h.0, deck_short us h.1)

lines_many : (lines : List Line) → 60 * length lines ≤ lines_bytes lines
lines_many [] = omega arith
lines_many (s ∷ lines) = omega (arith, at_least s.act, lines_many lines)
  where
    at_least : (a : Act) → 60 ≤ act_bytes a
    at_least (Assign x (Item f es)) = omega arith
    at_least (Invoke x es) = omega arith
    at_least (Read u l es) = omega arith
    at_least (Write u l es) = omega arith
    at_least (Format fs) = omega arith
    at_least (Typed t ds) = omega arith
    at_least a = omega arith

header_once : (h : Header) → length (written_header h) ≤ 1
header_once MainUnit = omega arith
header_once h = omega arith

-- 60 bytes at least for each statement
pub statements_many : (us : List Routine) → 60 * statements_of (map written_unit us) ≤ most_bytes us
statements_many [] = omega arith
statements_many (u ∷ us) =
    omega (arith, length-append (written_header u.header) (map written_line u.lines), length-map u.lines written_line, header_once u.header, lines_many u.lines, statements_many us)
