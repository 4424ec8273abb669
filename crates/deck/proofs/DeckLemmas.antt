-- A deck that is written gives its headers and statements again.
use Rattle.std.proofs.Common.{◌≡◌, ℕ, suc, ◌+◌, ◌-◌, ◌/◌, ◌%◌, ◌≤◌, ◌<◌, Bool, true, false, cond, List, [], ◌∷◌, ◌++◌, length, map, Option, None, refl, sym, ap, subst, ◌∙◌, arith, append_assoc, codes}
use Rattle.std.specs.Prelude.{nat_le, nat_lt, ◌==◌, ◌&&◌}
use Rattle.std.specs.List.{list_all, flat_map, AllByRecursion}
use Rattle.std.proofs.lemmas.Bool.{le-leb, le-ltb, and_from, ne_eqb}
use Rattle.std.proofs.lemmas.List.{append-nil, length-map, map-append}
use Rattle.ground.specs.declared.fault.Fault.{Fault}
use Rattle.ports.specs.Records.{input_records}
use Rattle.card_writer.specs.Cards.{label_column, label_field, cards}
use Rattle.card_reader.specs.declared.cards.CardKind.{CardKind}
use Rattle.card_reader.specs.declared.cards.CardKind.TheVariants.{Initial, Ending}
use Rattle.card_reader.specs.declared.counts.Counts.{Counts}
use Rattle.card_reader.specs.Cards.{columns, card, is_blank, is_printable, is_label_column, is_spread, kind_of, piece_of}
use Rattle.card_reader.specs.Reading.{CardLine, Reading, at, begins, ends, end_line, units_begun, after_initial, after_end, passed, unless_passed, taken, read_cards, no_counts, read_deck_cards}
use Rattle.f66_tree.specs.Syntax.{Header, MainUnit, SubUnit, FuncUnit, DataUnit, Line, Routine}
use Rattle.deck.specs.Decks.{deck_of, unit_cards, header_cards, statement_cards}
use Rattle.deck.specs.Decks.{end_line as printed_end}
use Rattle.deck.specs.Written.{Written, IsWritable, written_header, written_line, written_unit, cards_of_unit, cards_of_units, breaks, filled, label_if, unit_lines, deck_lines, statements_of}
use Rattle.deck.proofs.LineLemmas.{lines_from, all_append, label_read, line_first, lines_written}
use Rattle.deck.proofs.CardLemmas.{Takes, cards_read, front_only}

-- ---- initial cards ----

record IsColumn (c : ℕ) : Type 0 where
  printable : is_printable c ≡ true
  of_label : is_label_column c ≡ true
  no_comment : (c == 67) ≡ false

column_by : (l p : ℕ) (b : Bool) → l / p % 10 < 10 → IsColumn (cond b 32 (48 + l / p % 10))
column_by l p true digit = record { printable = refl; of_label = refl; no_comment = refl }
column_by l p false digit =
    let low : nat_le 48 (48 + l / p % 10) ≡ true = le-leb 48 (48 + l / p % 10) (omega arith) in
    let high : nat_le (48 + l / p % 10) 57 ≡ true = le-leb (48 + l / p % 10) 57 (omega (arith, digit)) in
    let seen : nat_le 32 (48 + l / p % 10) ≡ true = le-leb 32 (48 + l / p % 10) (omega arith) in
    let ascii : nat_le (48 + l / p % 10) 126 ≡ true = le-leb (48 + l / p % 10) 126 (omega (arith, digit)) in
    let no_blank : ((48 + l / p % 10) == 32) ≡ false = ne_eqb (48 + l / p % 10) 32 (λ e. omega (arith, e)) in
    record {
      printable = and_from (nat_le 32 (48 + l / p % 10)) (nat_le (48 + l / p % 10) 126) seen ascii;
      of_label = rw (no_blank, low, high) refl;
      no_comment = ne_eqb (48 + l / p % 10) 67 (λ e. omega (arith, e, digit));
    }

column : (l p : ℕ) → IsColumn (label_column l p)
column l p = column_by l p (nat_lt l p) (omega arith)

and_false : (b : Bool) → (b && false) ≡ false
and_false true = refl
and_false false = refl

some_seen : (xs piece : List ℕ) → list_all is_blank piece ≡ false → list_all is_blank (xs ++ piece) ≡ false
some_seen [] piece is = is
some_seen (x ∷ xs) piece is = ap (λ (b : Bool). is_blank x && b) (some_seen xs piece is) ∙ and_false (is_blank x)

abbrev is_fit : List ℕ → Type 0
is_fit piece = (list_all is_blank piece ≡ false) × (is_spread (codes "END") piece ≡ false)

abbrev front_of : ℕ → List ℕ
front_of l = label_field l ++ 32 ∷ []

front_printable : (l : ℕ) → list_all is_printable (front_of l) ≡ true
front_printable l =
    let a = column l 10000 in let b = column l 1000 in let c = column l 100 in let d = column l 10 in let e = column l 1 in
    and_from (is_printable (label_column l 10000)) _ a.printable (and_from (is_printable (label_column l 1000)) _ b.printable (and_from (is_printable (label_column l 100)) _ c.printable (and_from (is_printable (label_column l 10)) _ d.printable (and_from (is_printable (label_column l 1)) true e.printable refl))))

initial_kind : (l : ℕ) (piece : List ℕ) → l ≤ 99999 → list_all is_printable piece ≡ true → is_fit piece → kind_of (front_of l ++ piece) ≡ Initial (label_if l)
initial_kind l piece h all fit =
    let a = column l 10000 in let b = column l 1000 in let c = column l 100 in let d = column l 10 in let e = column l 1 in
    let printable : list_all is_printable (front_of l ++ piece) ≡ true = all_append (front_of l) piece (front_printable l) all in
    let seen : list_all is_blank (front_of l ++ piece) ≡ false = some_seen (front_of l) piece fit.0 in
    let no_c : (label_column l 10000 == 67) ≡ false = a.no_comment in
    let no_end : (list_all is_blank (front_of l) && is_spread (codes "END") piece) ≡ false = ap (λ (x : Bool). list_all is_blank (front_of l) && x) fit.1 ∙ and_false (list_all is_blank (front_of l)) in
    let labels : list_all is_label_column (label_field l) ≡ true =
    and_from (is_label_column (label_column l 10000)) _ a.of_label (and_from (is_label_column (label_column l 1000)) _ b.of_label (and_from (is_label_column (label_column l 100)) _ c.of_label (and_from (is_label_column (label_column l 10)) _ d.of_label (and_from (is_label_column (label_column l 1)) true e.of_label refl)))) in
    rw (printable, no_c, seen, no_end, labels) (ap Initial (label_read l h))

within_limit : (x limit : ℕ) → x ≤ limit → nat_lt limit x ≡ false
within_limit x limit h = le-ltb limit x h

not_passed : (c : Counts) → c.units ≤ 600 → c.statements ≤ 2000000 → passed c ≡ None
not_passed c units statements = let u = within_limit c.units 600 units in let s = within_limit c.statements 2000000 statements in rw (u, s) refl

initial_takes : (l left n : ℕ) (c : Counts) → l ≤ 99999 → passed (after_initial c) ≡ None → Takes (front_of l) (begins n (label_if l)) is_fit left c n 19 (after_initial c)
initial_takes l left n c h free = record {
  size = refl;
  step = λ piece rest long all fit.
      ap (λ (k : CardKind). taken k piece left c n (λ (more : ℕ) (next : Counts). read_cards more next (n + 1) rest)) (initial_kind l piece h all fit)
      ∙ ap (λ (o : Option ℕ). unless_passed n o (begins n (label_if l) piece (read_cards 19 (after_initial c) (n + 1) rest))) free;
  joins = λ p q r. ap (λ (t : List ℕ). record { front = []; lines = record { label = label_if l; text = t; place = at n; last = false } ∷ r.lines; fault = r.fault }) (sym (append_assoc p q r.front));
}

-- a statement
statement_read : (w : Written) (left n : ℕ) (c : Counts) (k : List ℕ) → IsWritable w → passed (after_initial c) ≡ None
    → read_cards left c n (map card (input_records (cards w.label w.text ++ k))) ≡ begins n (label_if w.label) (filled 66 w.text) (read_cards (19 - breaks 66 w.text) (after_initial c) (n + 1 + breaks 66 w.text) (map card (input_records k)))
statement_read w left n c k fine free =
    let few : 1 + breaks 66 w.text ≤ 20 = omega (arith, fine.short) in
    let lines = lines_written w.text (front_of w.label) 66 1 k (front_printable w.label) fine.printable few in
    ap (λ (l : List (List ℕ)). read_cards left c n (map card l)) lines
    ∙ ap (λ (l : List (List ℕ)). read_cards left c n l) (map-append card (lines_from (front_of w.label) 66 1 w.text) (input_records k))
    ∙ ap (λ (f : List ℕ). read_cards left c n (map card (lines_from f 66 1 w.text) ++ map card (input_records k))) (sym (front_only (front_of w.label)))
    ∙ cards_read w.text (front_of w.label) (begins n (label_if w.label)) is_fit left c n 19 (after_initial c) (initial_takes w.label left n c fine.label free) [] 66 1 (map card (input_records k)) (omega arith) refl fine.printable (fine.seen, fine.no_end) (omega arith) few fine.short

-- an END line
end_kind : kind_of (card (codes "      END")) ≡ Ending
unfolding columns
end_kind = refl

end_read : (left n : ℕ) (c : Counts) (k : List ℕ) → passed (after_end c) ≡ None
    → read_cards left c n (map card (input_records (codes "      END" ++ 10 ∷ k))) ≡ ends n (read_cards 0 (after_end c) (n + 1) (map card (input_records k)))
end_read left n c k free =
    ap (λ (l : List (List ℕ)). read_cards left c n (map card l)) (line_first (codes "      END") k refl)
    ∙ ap (λ (kind : CardKind). taken kind (piece_of (card (codes "      END"))) left c n (λ (more : ℕ) (next : Counts). read_cards more next (n + 1) (map card (input_records k)))) end_kind
    ∙ ap (λ (o : Option ℕ). unless_passed n o (ends n (read_cards 0 (after_end c) (n + 1) (map card (input_records k))))) free

-- ---- units ----

-- what a unit gives, and what is read behind it
abbrev unit_reading : ℕ → Counts → List Written → (ℕ → Counts → Reading) → Reading
unit_reading n c [] rest = ends n (rest (n + 1) (after_end c))
unit_reading n c (w ∷ ws) rest = begins n (label_if w.label) (filled 66 w.text) (unit_reading (n + 1 + breaks 66 w.text) (after_initial c) ws rest)

-- room for the statements of a unit
record HasRoom (c : Counts) (statements : ℕ) : Type 0 where
  units : units_begun c ≤ 600
  statements_fit : c.statements + statements ≤ 2000000

room_after : (c : Counts) (n : ℕ) → HasRoom c (suc n) → HasRoom (after_initial c) n
room_after c n r = record { units = r.units; statements_fit = omega (arith, r.statements_fit) }

initial_free : (c : Counts) (n : ℕ) → HasRoom c (suc n) → passed (after_initial c) ≡ None
initial_free c n r = not_passed (after_initial c) r.units (omega (arith, r.statements_fit))

end_free : (c : Counts) (n : ℕ) → HasRoom c n → passed (after_end c) ≡ None
end_free c n r = not_passed (after_end c) r.units (omega (arith, r.statements_fit))

unit_read : (ws : List Written) (left n : ℕ) (c : Counts) (k : List ℕ) → AllByRecursion IsWritable ws → HasRoom c (length ws)
    → read_cards left c n (map card (input_records (cards_of_unit ws k))) ≡ unit_reading n c ws (λ (m : ℕ) (d : Counts). read_cards 0 d m (map card (input_records k)))
unit_read [] left n c k fine room = end_read left n c k (end_free c 0 room)
unit_read (w ∷ ws) left n c k fine room =
    let fits : HasRoom c (suc (length ws)) = record { units = room.units; statements_fit = omega (arith, room.statements_fit) } in
    statement_read w left n c (cards_of_unit ws k) fine.0 (initial_free c (length ws) fits)
    ∙ ap (begins n (label_if w.label) (filled 66 w.text)) (unit_read ws (19 - breaks 66 w.text) (n + 1 + breaks 66 w.text) (after_initial c) k fine.1 (room_after c (length ws) fits))

-- what was counted behind a unit
record IsBehind (c d : Counts) (statements : ℕ) : Type 0 where
  closed : d.unfinished ≡ false
  units : d.units ≡ units_begun c
  counted : d.statements ≡ c.statements + statements

front_none : (n : ℕ) (c : Counts) (ws : List Written) (rest : ℕ → Counts → Reading) → (unit_reading n c ws rest).front ≡ []
front_none n c [] rest = refl
front_none n c (w ∷ ws) rest = refl

-- the lines and the fault of a unit's reading, by those of what is behind it
unit_gives : (ws : List Written) (n : ℕ) (c : Counts) (rest : ℕ → Counts → Reading) (lines : ℕ → List CardLine) → ((m : ℕ) (d : Counts) → IsBehind c d (length ws) → ((rest m d).lines ≡ lines m) × ((rest m d).fault ≡ None))
    → unit_reading n c ws rest ≡ record { front = []; lines = unit_lines n ws lines; fault = None }
unit_gives [] n c rest lines given =
    let behind : IsBehind c (after_end c) 0 = record { closed = refl; units = refl; counted = omega arith } in
    let g = given (n + 1) (after_end c) behind in
    ap (λ (l : List CardLine). record { front = []; lines = end_line n ∷ l; fault = (rest (n + 1) (after_end c)).fault }) g.0 ∙ ap (λ (f : Option Fault). record { front = []; lines = end_line n ∷ lines (n + 1); fault = f }) g.1
unit_gives (w ∷ ws) n c rest lines given =
    let further = unit_gives ws (n + 1 + breaks 66 w.text) (after_initial c) rest lines (λ m d b. given m d (record { closed = b.closed; units = b.units; counted = omega (arith, b.counted) })) in
    ap (begins n (label_if w.label) (filled 66 w.text)) further
    ∙ ap (λ (t : List ℕ). record { front = []; lines = record { label = label_if w.label; text = t; place = at n; last = false } ∷ unit_lines (n + 1 + breaks 66 w.text) ws lines; fault = None }) (append-nil (filled 66 w.text))

-- ---- the deck ----

deck_read_from : (us : List (List Written)) (left n : ℕ) (c : Counts) → AllByRecursion (AllByRecursion IsWritable) us → c.unfinished ≡ false → 0 < c.units + length us → c.units + length us ≤ 600 → c.statements + statements_of us ≤ 2000000
    → read_cards left c n (map card (input_records (cards_of_units us))) ≡ record { front = []; lines = deck_lines n us; fault = None }
deck_read_from [] left n c fine closed some units statements =
    let nonzero : (c.units == 0) ≡ false = ne_eqb c.units 0 (λ e. omega (arith, e, some)) in
    rw (closed, nonzero) refl
deck_read_from (u ∷ us) left n c fine closed some units statements =
    let begun : units_begun c ≡ c.units + 1 = rw closed refl in
    let room : HasRoom c (length u) = record { units = omega (arith, begun, units); statements_fit = omega (arith, statements) } in
    unit_read u left n c (cards_of_units us) fine.0 room
    ∙ unit_gives u n c (λ (m : ℕ) (d : Counts). read_cards 0 d m (map card (input_records (cards_of_units us)))) (λ (m : ℕ). deck_lines m us) (λ m d b.
    let further = deck_read_from us 0 m d fine.1 b.closed (omega (arith, b.units, begun)) (omega (arith, b.units, begun, units)) (omega (arith, b.counted, statements)) in
    (ap (λ (r : Reading). r.lines) further, ap (λ (r : Reading). r.fault) further))

-- statements that were written are read back
deck_read : (us : List (List Written)) → AllByRecursion (AllByRecursion IsWritable) us → 0 < length us → length us ≤ 600 → statements_of us ≤ 2000000 → length (cards_of_units us) ≤ 134217728
    → read_deck_cards (cards_of_units us) ≡ record { front = []; lines = deck_lines 1 us; fault = None }
deck_read us fine some units statements bytes =
    let short : nat_lt 134217728 (length (cards_of_units us)) ≡ false = le-ltb 134217728 (length (cards_of_units us)) bytes in
    rw short (deck_read_from us 0 1 no_counts fine refl (omega (arith, some)) (omega (arith, units)) (omega (arith, statements)))

-- ---- units ----

lines_same : (lines : List Line) (k : List ℕ) → (flat_map statement_cards lines ++ printed_end) ++ k ≡ cards_of_unit (map written_line lines) k
lines_same [] k = refl
lines_same (line ∷ lines) k =
    ap (λ (l : List ℕ). l ++ k) (append_assoc (statement_cards line) (flat_map statement_cards lines) printed_end)
    ∙ append_assoc (statement_cards line) (flat_map statement_cards lines ++ printed_end) k
    ∙ ap (λ (l : List ℕ). statement_cards line ++ l) (lines_same lines k)

-- the cards of a header stand before those of the statements
header_same : (header : Header) (lines : List Line) (k : List ℕ)
    → (header_cards header ++ (flat_map statement_cards lines ++ printed_end)) ++ k ≡ cards_of_unit (written_header header ++ map written_line lines) k
header_same MainUnit lines k = lines_same lines k
header_same (SubUnit x ds) lines k = append_assoc (header_cards (SubUnit x ds)) (flat_map statement_cards lines ++ printed_end) k ∙ ap (λ (l : List ℕ). header_cards (SubUnit x ds) ++ l) (lines_same lines k)
header_same (FuncUnit w x ds) lines k = append_assoc (header_cards (FuncUnit w x ds)) (flat_map statement_cards lines ++ printed_end) k ∙ ap (λ (l : List ℕ). header_cards (FuncUnit w x ds) ++ l) (lines_same lines k)
header_same DataUnit lines k = append_assoc (header_cards DataUnit) (flat_map statement_cards lines ++ printed_end) k ∙ ap (λ (l : List ℕ). header_cards DataUnit ++ l) (lines_same lines k)

-- the printed deck of units is that of their headers and statements
deck_same : (units : List Routine) → deck_of units ≡ cards_of_units (map written_unit units)
deck_same [] = refl
deck_same (unit ∷ units) = ap (λ (l : List ℕ). unit_cards unit ++ l) (deck_same units) ∙ header_same unit.header unit.lines (cards_of_units (map written_unit units))

-- a printed deck is read back
pub printed_deck_read : (units : List Routine) → AllByRecursion (AllByRecursion IsWritable) (map written_unit units) → 0 < length units → length units ≤ 600 → statements_of (map written_unit units) ≤ 2000000 → length (deck_of units) ≤ 134217728
    → read_deck_cards (deck_of units) ≡ record { front = []; lines = deck_lines 1 (map written_unit units); fault = None }
printed_deck_read units fine some few statements bytes =
    ap read_deck_cards (deck_same units)
    ∙ deck_read (map written_unit units) fine (omega (arith, length-map units written_unit, some)) (omega (arith, length-map units written_unit, few)) statements (subst (λ (l : List ℕ). length l ≤ 134217728) (deck_same units) bytes)
