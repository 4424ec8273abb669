-- The printed deck of units gives these units again, each statement at its first card.
use Rattle.std.proofs.Common.{◌≡◌, ℕ, ◌+◌, ◌≤◌, ◌<◌, false, List, [], ◌∷◌, ◌++◌, length, map, Option, None, Ok, refl, ap, ◌∙◌}
use Rattle.std.specs.Prelude.{unwrap_or}
use Rattle.std.specs.List.{AllByRecursion}
use Rattle.f66_tree.specs.Syntax.{Header, MainUnit, SubUnit, FuncUnit, DataUnit, Line, Routine}
use Rattle.stmt_text.specs.Texts.{header_text, statement_text}
use Rattle.card_reader.specs.Reading.{CardLine, Reading, at}
use Rattle.stmt_reader.specs.Faults.{Answer, HeaderAnswer, text_answer}
use Rattle.stmt_lines.specs.Answers.{has_label}
use Rattle.deck.specs.Decks.{deck_of}
use Rattle.deck.specs.ReadBack.{said}
use Rattle.deck.specs.Written.{IsWritable, filled, label_if, written_header, written_line, written_unit, unit_lines, deck_lines, statements_of}
use Rattle.deck.proofs.DeckLemmas.{printed_deck_read}
use Rattle.deck_reader.specs.Answers.{deck_units, unless_refused}
use Rattle.deck_reader.specs.Units.{Units, with_header, ended, stated, headed, placed, units_of, rest_of}
use Rattle.deck_laws.specs.Fitting.{IsFittingLine, IsFittingUnit}
use Rattle.deck_laws.specs.Places.{unplaced, card_behind, lines_at, end_behind, lines_begin, units_at}
use Rattle.deck_laws.specs.Headers.{HasHeader, IsReadableHeader}
use Rattle.deck_laws.proofs.HeadersRead.{header_answered}
use Rattle.deck_laws.proofs.AnsweredLines.{line_answered, line_no_header}

-- a main with these statements, at a card
abbrev main_at : ℕ → List Line → Routine
main_at n lines = record { header = MainUnit; lines = lines; place = at n }

-- a line that says a statement, before the others of its unit
statement_first : (line : Line) (n m : ℕ) (fits : IsFittingLine line) (lines : List Line) (more : List Routine)
    → stated (record { label = label_if (unwrap_or line.label 0); text = filled 66 (statement_text line.act); place = at n; last = false }) (text_answer (filled 66 (statement_text line.act))) (Ok (main_at m lines ∷ more))
    ≡ Ok (main_at m (record { label = line.label; place = at n; act = line.act } ∷ lines) ∷ more)
statement_first line n m fits lines more =
    ap (λ (answer : Answer). stated (record { label = label_if (unwrap_or line.label 0); text = filled 66 (statement_text line.act); place = at n; last = false }) answer (Ok (main_at m lines ∷ more)))
    (line_answered line.act fits.readable.act fits.names fits.shallow)
    ∙ ap (λ (label : Option ℕ). Ok (main_at m (record { label = label; place = at n; act = line.act } ∷ lines) ∷ more)) fits.readable.label

-- the lines behind the first of a unit
rest_back : (lines : List Line) (n : ℕ) (k : ℕ → List CardLine) (more : ℕ → List Routine) → AllByRecursion IsFittingLine lines → ((m : ℕ) → units_of (k m) ≡ Ok (more m))
    → rest_of (unit_lines n (map written_line lines) k) ≡ Ok (main_at (end_behind n lines) (lines_at n lines) ∷ more (end_behind n lines + 1))
rest_back [] n k more all behind_it = ap (ended (at n)) (behind_it (n + 1))
rest_back (line ∷ lines) n k more all behind_it =
    ap (stated (record { label = label_if (unwrap_or line.label 0); text = filled 66 (statement_text line.act); place = at n; last = false }) (text_answer (filled 66 (statement_text line.act))))
    (rest_back lines (card_behind n line) k more all.1 behind_it)
    ∙ statement_first line n (end_behind (card_behind n line) lines) all.0 (lines_at (card_behind n line) lines) (more (end_behind (card_behind n line) lines + 1))

-- a whole main
unit_back : (lines : List Line) (n : ℕ) (k : ℕ → List CardLine) (more : ℕ → List Routine) → AllByRecursion IsFittingLine lines → ((m : ℕ) → units_of (k m) ≡ Ok (more m))
    → units_of (unit_lines n (map written_line lines) k) ≡ Ok (main_at n (lines_at n lines) ∷ more (end_behind n lines + 1))
unit_back [] n k more all behind_it = ap (λ (units : Units). placed (at n) (ended (at n) units)) (behind_it (n + 1))
unit_back (line ∷ lines) n k more all behind_it =
    let first : CardLine = record { label = label_if (unwrap_or line.label 0); text = filled 66 (statement_text line.act); place = at n; last = false } in
    ap (λ (answer : HeaderAnswer). placed (at n) (headed first answer (rest_of (unit_lines (card_behind n line) (map written_line lines) k))))
    (line_no_header (has_label (label_if (unwrap_or line.label 0))) line.act all.0.readable.act all.0.names)
    ∙ ap (placed (at n)) (rest_back (line ∷ lines) n k more all behind_it)

-- a unit with a header
headed_back : (h : Header) (lines : List Line) (n m : ℕ) (k : ℕ → List CardLine) (more : ℕ → List Routine) → HasHeader h → IsReadableHeader h → AllByRecursion IsFittingLine lines → ((c : ℕ) → units_of (k c) ≡ Ok (more c))
    → units_of (record { label = None; text = filled 66 (header_text h); place = at n; last = false } ∷ unit_lines m (map written_line lines) k) ≡ Ok (record { header = h; lines = lines_at m lines; place = at n } ∷ more (end_behind m lines + 1))
headed_back h lines n m k more has fine all behind_it =
    let first : CardLine = record { label = None; text = filled 66 (header_text h); place = at n; last = false } in
    ap (λ (answer : HeaderAnswer). placed (at n) (headed first answer (rest_of (unit_lines m (map written_line lines) k)))) (header_answered h has fine)
    ∙ ap (λ (units : Units). placed (at n) (with_header h units)) (rest_back lines m k more all behind_it)

any_back : (h : Header) (lines : List Line) (n : ℕ) (k : ℕ → List CardLine) (more : ℕ → List Routine) → IsReadableHeader h → AllByRecursion IsFittingLine lines → ((m : ℕ) → units_of (k m) ≡ Ok (more m))
    → units_of (unit_lines n (written_header h ++ map written_line lines) k) ≡ Ok (record { header = h; lines = lines_at (lines_begin n h) lines; place = at n } ∷ more (end_behind (lines_begin n h) lines + 1))
any_back MainUnit lines n k more fine all behind_it = unit_back lines n k more all behind_it
any_back (SubUnit x ds) lines n k more fine all behind_it = headed_back (SubUnit x ds) lines n (lines_begin n (SubUnit x ds)) k more tt fine all behind_it
any_back (FuncUnit w x ds) lines n k more fine all behind_it = headed_back (FuncUnit w x ds) lines n (lines_begin n (FuncUnit w x ds)) k more tt fine all behind_it
any_back DataUnit lines n k more fine all behind_it = headed_back DataUnit lines n (lines_begin n DataUnit) k more tt fine all behind_it

units_back : (units : List Routine) (n : ℕ) → AllByRecursion IsFittingUnit units → units_of (deck_lines n (map written_unit units)) ≡ Ok (units_at n units)
units_back [] n all = refl
units_back (unit ∷ units) n all =
    any_back unit.header unit.lines n (λ (m : ℕ). deck_lines m (map written_unit units)) (λ (m : ℕ). units_at m units) all.0.header all.0.lines (λ m. units_back units m all.1)

pub units_again : (units : List Routine) → AllByRecursion IsFittingUnit units → AllByRecursion (AllByRecursion IsWritable) (map written_unit units) → 0 < length units → length units ≤ 600 → statements_of (map written_unit units) ≤ 2000000
    → length (deck_of units) ≤ 134217728 → deck_units (deck_of units) ≡ Ok (units_at 1 units)
units_again units fit writable some few statements bytes =
    ap (λ (r : Reading). unless_refused r.fault (units_of r.lines)) (printed_deck_read units writable some few statements bytes) ∙ units_back units 1 fit

-- ---- the same but for places ----

said_again : (lines : List Line) (n : ℕ) → map said (lines_at n lines) ≡ map said lines
said_again [] n = refl
said_again (line ∷ lines) n = ap (λ (rest : _). said line ∷ rest) (said_again lines (card_behind n line))

pub places_alone : (units : List Routine) (n : ℕ) → map unplaced (units_at n units) ≡ map unplaced units
places_alone [] n = refl
places_alone (unit ∷ units) n =
    let begin : ℕ = lines_begin n unit.header in
    ap (λ (lines : _). (unit.header, lines) ∷ map unplaced (units_at (end_behind begin unit.lines + 1) units)) (said_again unit.lines begin) ∙ ap (λ (rest : _). unplaced unit ∷ rest) (places_alone units (end_behind begin unit.lines + 1))
