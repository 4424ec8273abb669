-- One line more, before the lines behind it.
use Rattle.std.proofs.Common.{◌≡◌, Bool, true, false, List, ◌∷◌, Err, sym, ap, ◌∙◌, subst}
use Rattle.std.specs.Prelude.{if◌then◌else◌}
use Rattle.ground.specs.declared.fault.Refusal.{Refusal}
use Rattle.ground.specs.declared.fault.Refusal.TheVariants.{Fault as AFault, Memory}
use Rattle.f66_tree.specs.Syntax.{Line}
use Rattle.card_reader.specs.Reading.{CardLine}
use Rattle.stmt_reader.specs.Faults.{Answer, text_answer}
use Rattle.stmt_lines.specs.Answers.{IsRead, IsRefusal}
use Rattle.deck_reader.specs.Units.{Units, ended, with_line, stated, units_of, rest_of}
use Rattle.deck_reader.specs.Steps.{IsLineRefusal, lines_before}
use Rattle.deck_reader.proofs.UnitLemmas.{refused_before, refused_through}

by_last : {X : Type 0} (b v : Bool) (x y : X) → b ≡ v → (if b then x else y) ≡ (if v then x else y)
by_last b v x y e = ap (λ (w : Bool). if w then x else y) e

goes_on : (line : CardLine) (rest : List CardLine) → line.last ≡ false → rest_of (line ∷ rest) ≡ stated line (text_answer line.text) (rest_of rest)
goes_on line rest e = by_last line.last false _ _ e

pub ends_here : (line : CardLine) (rest : List CardLine) → line.last ≡ true → rest_of (line ∷ rest) ≡ ended line.place (units_of rest)
ends_here line rest e = by_last line.last true _ _ e

pub statement_read : (line : CardLine) (rest : List CardLine) (s : Line) → IsRead line s → line.last ≡ false → rest_of (line ∷ rest) ≡ with_line s (rest_of rest)
statement_read line rest s is e =
    goes_on line rest e ∙ ap (λ answer. stated line answer (rest_of rest)) is.act
    ∙ ap (λ label. with_line (record { label = label; place = line.place; act = s.act }) (rest_of rest)) (sym is.label)
    ∙ ap (λ place. with_line (record { label = s.label; place = place; act = s.act }) (rest_of rest)) (sym is.place)

refused_at : (line : CardLine) (answer : Answer) (units : Units) (r : Refusal) → IsRefusal answer line.place r → IsLineRefusal (stated line answer units) r
refused_at line answer units Memory is = tt
refused_at line answer units (AFault f) is =
    ap (λ a. stated line a units) is.0 ∙ ap (λ (place : _). Err (record { kind = f.kind; place = place; number = f.number })) (sym is.1)

pub statement_refused : (line : CardLine) (rest : List CardLine) (r : Refusal) → IsRefusal (text_answer line.text) line.place r → line.last ≡ false → IsLineRefusal (rest_of (line ∷ rest)) r
statement_refused line rest r is e = subst (λ units. IsLineRefusal units r) (sym (goes_on line rest e)) (refused_at line (text_answer line.text) (rest_of rest) r is)

pub refused_behind : (lines : List Line) (all units : Units) (r : Refusal) → all ≡ lines_before lines units → IsLineRefusal units r → IsLineRefusal all r
refused_behind lines all units r e is = refused_through (lines_before lines) (refused_before lines) all units e r is
