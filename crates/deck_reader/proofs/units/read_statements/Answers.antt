-- Each statement goes behind those before it; a fault is that of all.
use Rattle.std.proofs.Common.{◌≡◌, [], ◌∷◌, ◌++◌, length, Err, sym, ap, ◌∙◌, subst, arith, rules}
use Rattle.std.proofs.lemmas.List.{map-append, nil_from_length}
use Rattle.std.specs.Prelude.{IfErr}
use Rattle.card_reader.specs.Told.{card_line_of, card_lines_of}
use Rattle.f66_tree.specs.Views.{line_of, lines_of}
use Rattle.deck_reader.specs.Units.{rest_of}
use Rattle.deck_reader.specs.Steps.{IsLineRefusal, lines_before}
use Rattle.deck_reader.proofs.UnitLemmas.{none_before, one_more}
use Rattle.deck_reader.proofs.LineLemmas.{statement_read, statement_refused, refused_behind}
use Rattle.deck_reader.proofs.units.read_statements.Goals as goal

pub returns-in_err-statement-clause-refused : goal.returns-in_err-statement-clause-refused
returns-in_err-statement-clause-refused c =
    let line = card_line_of c.in-Some.line.now in
    let others = card_lines_of c.in-Some.others.now in
    let gone : c.from_residual.result ≡ Err c.in_err-statement.field-0.0 = search rules in
    let splits : c.loop-line.left.now ≡ c.in-Some.line.now ∷ c.in-Some.others.now = search rules in
    let behind = c.loop-line.invariant.1 ∙ ap (λ ls. lines_before (lines_of c.loop-line.statements.items) (rest_of (card_lines_of ls))) splits in
    let refused = refused_behind (lines_of c.loop-line.statements.items) (rest_of (card_lines_of c.args.lines.now)) (rest_of (line ∷ others)) c.in_err-statement.field-0.0 behind
    (statement_refused line others c.in_err-statement.field-0.0 c.in_err-statement.ensures.refused c.if-line.false) in
    subst (λ r. IfErr r (IsLineRefusal (rest_of (card_lines_of c.args.lines.now)))) (sym gone) refused

pub loop-line-preserved : goal.loop-line-preserved
loop-line-preserved c =
    let line = card_line_of c.in-Some.line.now in
    let others = card_lines_of c.in-Some.others.now in
    let before = lines_of c.loop-line.statements.items in
    let said = line_of c.in_ok-statement.statement in
    let splits : c.loop-line.left.now ≡ c.in-Some.line.now ∷ c.in-Some.others.now = search rules in
    let pushed : c.push.new.self.items ≡ c.loop-line.statements.items ++ c.in_ok-statement.statement ∷ [] = search rules in
    let shorter = ap (λ ls. length ls) splits in
    let behind = c.loop-line.invariant.1 ∙ ap (λ ls. lines_before before (rest_of (card_lines_of ls))) splits in
    let read = behind ∙ ap (lines_before before) (statement_read line others said c.in_ok-statement.ensures.read c.if-line.false) ∙ sym (one_more before said (rest_of others)) in
    let all = sym (map-append line_of c.loop-line.statements.items (c.in_ok-statement.statement ∷ [])) ∙ ap lines_of (sym pushed) in
    (omega (arith, shorter, c.loop-line.invariant.0), read ∙ ap (λ ls. lines_before ls (rest_of others)) all)

pub returns-clause-read : goal.returns-clause-read
returns-clause-read c =
    let none = nil_from_length c.loop-line.left.now (search rules) in
    c.loop-line.invariant.1 ∙ ap (λ ls. lines_before (lines_of c.loop-line.statements.items) (rest_of (card_lines_of ls))) none ∙ none_before (lines_of c.loop-line.statements.items)
