-- The printed deck of mains is read as their statements.
use Rattle.std.proofs.Common.{◌≡◌, ℕ, ◌+◌, ◌≤◌, ◌<◌, List, [], ◌∷◌, ◌++◌, length, map, Option, Some, refl, ap, ◌∙◌}
use Rattle.std.specs.List.{AllByRecursion}
use Rattle.f66_tree.specs.Syntax.{Header, Act, Line, Routine}
use Rattle.stmt_text.specs.Texts.{statement_text}
use Rattle.card_reader.specs.Reading.{CardLine, Reading, read_deck_cards}
use Rattle.stmt_reader.specs.Lexing.{tokens_of}
use Rattle.stmt_reader.specs.Statements.{statement_of}
use Rattle.deck.specs.Decks.{deck_of}
use Rattle.deck.specs.Written.{IsWritable, breaks, filled, written_header, written_line, written_unit, unit_lines, deck_lines, statements_of}
use Rattle.deck.specs.ReadBack.{Said, said, end_unit, with_said, units_of, IsReadableLine, IsReadableMain}
use Rattle.deck.proofs.DeckLemmas.{printed_deck_read}
use Rattle.deck.proofs.LinesRead.{line_read}

lines_back : (lines : List Line) (n : ℕ) (k : ℕ → List CardLine) (units : List (List Said)) → AllByRecursion IsReadableLine lines → ((m : ℕ) → units_of (k m) ≡ Some units)
    → units_of (unit_lines n (map written_line lines) k) ≡ Some (map said lines ∷ units)
lines_back [] n k units all behind_it = ap end_unit (behind_it (n + 1))
lines_back (line ∷ lines) n k units all behind_it =
    let rest : List CardLine = unit_lines (n + 1 + breaks 66 (statement_text line.act)) (map written_line lines) k in
    ap (λ (l : Option ℕ). with_said l (statement_of (tokens_of (filled 66 (statement_text line.act)))) (units_of rest)) all.0.label
    ∙ ap (λ (a : Option Act). with_said line.label a (units_of rest)) (line_read line.act all.0.act)
    ∙ ap (with_said line.label (Some line.act)) (lines_back lines (n + 1 + breaks 66 (statement_text line.act)) k units all.1 behind_it)

units_back : (units : List Routine) (n : ℕ) → AllByRecursion IsReadableMain units → units_of (deck_lines n (map written_unit units)) ≡ Some (map (λ (unit : Routine). map said unit.lines) units)
units_back [] n all = refl
units_back (unit ∷ units) n all =
    ap (λ (h : Header). units_of (unit_lines n (written_header h ++ map written_line unit.lines) (λ (m : ℕ). deck_lines m (map written_unit units)))) all.0.main
    ∙ lines_back unit.lines n (λ (m : ℕ). deck_lines m (map written_unit units)) (map (λ (u : Routine). map said u.lines) units) all.0.lines (λ m. units_back units m all.1)

pub mains_read : (units : List Routine) → AllByRecursion IsReadableMain units → AllByRecursion (AllByRecursion IsWritable) (map written_unit units) → 0 < length units → length units ≤ 600 → statements_of (map written_unit units) ≤ 2000000
    → length (deck_of units) ≤ 134217728 → units_of (read_deck_cards (deck_of units)).lines ≡ Some (map (λ (unit : Routine). map said unit.lines) units)
mains_read units readable writable some few statements bytes =
    ap (λ (r : Reading). units_of r.lines) (printed_deck_read units writable some few statements bytes) ∙ units_back units 1 readable
