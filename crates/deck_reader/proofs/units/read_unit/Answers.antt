-- A unit without a header, and one with it; a fault of its lines is that of all.
use Rattle.std.proofs.Common.{◌≡◌, [], ◌∷◌, Ok, Err, refl, sym, ap, ◌∙◌, subst, rules}
use Rattle.std.specs.Prelude.{IfOk, IfErr, MatchOption}
use Rattle.card_reader.specs.Told.{card_line_of, card_lines_of}
use Rattle.f66_tree.specs.Views.{header_of, routine_of}
use Rattle.deck_reader.specs.Units.{placed, with_header, units_of, rest_of}
use Rattle.deck_reader.specs.Steps.{IsLineRefusal, IsUnitBefore}
use Rattle.deck_reader.proofs.UnitLemmas.{main_unit, headed_unit, begins_plain, begins_headed, refused_through, of_some, of_refusal}
use Rattle.deck_reader.proofs.units.read_unit.Goals as goal

pub returns-in_err-opening-clause-refused : goal.returns-in_err-opening-clause-refused
returns-in_err-opening-clause-refused c =
    let splits : c.args.lines.now ≡ c.in-Some.first.now ∷ c.in-Some.others.now = search rules in
    let gone : c.from_residual.result ≡ Err c.in_err-opening.field-0.0 = search rules in
    subst (λ r. IfErr r (IsLineRefusal (units_of (card_lines_of c.args.lines.now)))) (sym gone)
    (subst (λ ls. IsLineRefusal (units_of (card_lines_of ls)) c.in_err-opening.field-0.0) (sym splits) (c.in_err-opening.ensures.refused (card_lines_of c.in-Some.others.now)))

pub returns-in-None-clause-read : goal.returns-in-None-clause-read
returns-in-None-clause-read c =
    let first = c.in-Some.first.now.place in
    let all = begins_plain c.args.lines.now c.in-Some.others.now c.in-Some.first.now _ (search rules) c.in_ok-opening.ensures.read c.in-None.is in
    of_some c.read_rest.result _ _ _ _ _ _ (λ e. all ∙ ap (placed first) e) (λ r ends h p. main_unit (card_lines_of c.args.lines.now) (routine_of r.0) (card_lines_of r.1.now) first all ends h p)
    c.read_rest.ensures.ends c.read_rest.ensures.header c.read_rest.ensures.place

pub returns-in-None-clause-refused : goal.returns-in-None-clause-refused
returns-in-None-clause-refused c =
    let all = begins_plain c.args.lines.now c.in-Some.others.now c.in-Some.first.now _ (search rules) c.in_ok-opening.ensures.read c.in-None.is in
    of_refusal c.read_rest.result _ _ (λ r is. refused_through (placed c.in-Some.first.now.place) (λ f. refl) (units_of (card_lines_of c.args.lines.now)) (rest_of (card_lines_of c.args.lines.now)) all r is) c.read_rest.ensures.refused

pub returns-in-Some-2-clause-read : goal.returns-in-Some-2-clause-read
returns-in-Some-2-clause-read c =
    let line = card_line_of c.in-Some.first.now in
    let others = card_lines_of c.in-Some.others.now in
    let header = header_of c.in-Some-2.header in
    let splits : c.args.lines.now ≡ c.in-Some.first.now ∷ c.in-Some.others.now = search rules in
    let opens = begins_headed c.in-Some.others.now c.in-Some.first.now _ c.in-Some-2.header c.in_ok-opening.ensures.read c.in-Some-2.is in
    subst (λ ls. IfOk c.read_rest-in-Some-2.result (λ o. MatchOption o (units_of (card_lines_of ls) ≡ Ok []) (λ r. IsUnitBefore (card_lines_of ls) (routine_of r.0) (card_lines_of r.1.now)))) (sym splits)
    (of_some c.read_rest-in-Some-2.result _ _ _ _ _ _ (λ e. opens ∙ ap (λ v. placed line.place (with_header header v)) e) (λ r ends h p. headed_unit line others header (routine_of r.0) (card_lines_of r.1.now) opens ends h p)
    c.read_rest-in-Some-2.ensures.ends c.read_rest-in-Some-2.ensures.header c.read_rest-in-Some-2.ensures.place)

pub returns-in-Some-2-clause-refused : goal.returns-in-Some-2-clause-refused
returns-in-Some-2-clause-refused c =
    let line = card_line_of c.in-Some.first.now in
    let others = card_lines_of c.in-Some.others.now in
    let header = header_of c.in-Some-2.header in
    let splits : c.args.lines.now ≡ c.in-Some.first.now ∷ c.in-Some.others.now = search rules in
    let opens = begins_headed c.in-Some.others.now c.in-Some.first.now _ c.in-Some-2.header c.in_ok-opening.ensures.read c.in-Some-2.is in
    let all = ap (λ ls. units_of (card_lines_of ls)) splits ∙ opens in
    of_refusal c.read_rest-in-Some-2.result _ _ (λ r is. refused_through (λ v. placed line.place (with_header header v)) (λ f. refl) (units_of (card_lines_of c.args.lines.now)) (rest_of others) all r is) c.read_rest-in-Some-2.ensures.refused
