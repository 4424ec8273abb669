-- The arms of the walk whose statements hold others.
use Rattle.std.proofs.Common.{suc, ◌∷◌, ◌++◌, [], None, false, ap, ◌∙◌}
use Rattle.f66_tree.specs.Views.{formula_of}
use Rattle.rat_tree.specs.Views.{command, commands, clauses}
use Rattle.rat_check.specs.Parts.{RepeatHead, Condition, part, parts_of, parts_in, clause_parts, with_labels}
use Rattle.rat_check.specs.FormViews.{depth_of, other_parts, until_parts}
use Rattle.rat_check.specs.PartViews.{survey_of}
use Rattle.rat_check.specs.Survey.{is_among}
use Rattle.rat_check.proofs.StatementLemmas.{block_parts, switch_parts, if_parts, repeat_parts, then_noted}
use Rattle.rat_check.proofs.PartLemmas.{behind, list_noted}
use Rattle.rat_check.proofs.LoopLemmas.{statement_passed, clause_passed}
use Rattle.rat_check.proofs.visit.+visit.Goals as goal

pub visit-returns-in_ok-note-in-Block : goal.visit-returns-in_ok-note-in-Block
visit-returns-in_ok-note-in-Block t c =
    let k = depth_of c.args.around.now in
    then_noted c.visit_list.result (survey_of c.args.survey.now) (survey_of c.note-in-Block.new.self) (survey_of c.visit_list.new.survey) (_ ∷ []) _
    (λ r. parts_in k (with_labels (commands c.deref.result.now) r) (commands c.deref.result.now)) c.in_ok-note-in-Block.ensures
    (block_parts k (is_among c.args.survey.now.reach) c.args.statement.now c.in-Block.list c.deref.result.now c.in-Block.is c.deref.ensures.value) c.visit_list.ensures

pub visit-returns-in_ok-note-in-Switch : goal.visit-returns-in_ok-note-in-Switch
visit-returns-in_ok-note-in-Switch t c =
    let k = depth_of c.args.around.now in
    then_noted c.visit_clauses.result (survey_of c.args.survey.now) (survey_of c.note-in-Switch.new.self) (survey_of c.visit_clauses.new.survey) (_ ∷ []) _
    (λ r. clause_parts k r false (clauses c.deref-in-Switch.result.now)) c.in_ok-note-in-Switch.ensures
    (switch_parts k (is_among c.args.survey.now.reach) c.args.statement.now c.in-Switch.value c.in-Switch.list c.deref-in-Switch.result.now c.in-Switch.is c.deref-in-Switch.ensures.value) c.visit_clauses.ensures

pub visit-returns-in_ok-visit-in-If : goal.visit-returns-in_ok-visit-in-If
visit-returns-in_ok-visit-in-If t c =
    let k = depth_of c.args.around.now in
    let s = survey_of c.args.survey.now in
    let r = is_among s.reach in
    let body = c.deref-in-If.result.now in
    let head = part k r c.args.statement.now.label c.args.statement.now.place (Condition (formula_of c.in-If.test)) in
    let first = behind s (survey_of c.note-in-If.new.self) (survey_of c.visit.new.survey) (head ∷ []) (λ q. parts_of k q None (command body)) c.in_ok-note-in-If.ensures c.in_ok-visit-in-If.ensures in
    then_noted c.visit_other.result s (survey_of c.visit.new.survey) (survey_of c.visit_other.new.survey) (head ∷ parts_of k r None (command body)) (parts_of k r None (command c.args.statement.now))
    (λ q. other_parts k q c.in-If.other) first
    (ap (λ x. head ∷ (parts_of k r None (command x) ++ other_parts k r c.in-If.other)) c.deref-in-If.ensures ∙ if_parts k r c.args.statement.now c.in-If.test c.in-If.body c.in-If.other c.in-If.is)
    c.visit_other.ensures

pub visit-returns-in_ok-visit-in-Repeat : goal.visit-returns-in_ok-visit-in-Repeat
visit-returns-in_ok-visit-in-Repeat t c =
    let k = depth_of c.args.around.now in
    let s = survey_of c.args.survey.now in
    let r = is_among s.reach in
    let body = c.deref-in-Repeat.result.now in
    let head = part k r c.args.statement.now.label c.args.statement.now.place RepeatHead in
    let first = behind s (survey_of c.note-in-Repeat.new.self) (survey_of c.visit-in-Repeat.new.survey) (head ∷ []) (λ q. parts_of (suc k) q None (command body)) c.in_ok-note-in-Repeat.ensures c.in_ok-visit-in-Repeat.ensures in
    then_noted c.note_until.result s (survey_of c.visit-in-Repeat.new.survey) (survey_of c.note_until.new.survey) (head ∷ parts_of (suc k) r None (command body)) (parts_of k r None (command c.args.statement.now))
    (λ q. until_parts k q c.in-Repeat.until) first
    (ap (λ x. head ∷ (parts_of (suc k) r None (command x) ++ until_parts k r c.in-Repeat.until)) c.deref-in-Repeat.ensures ∙ repeat_parts k r c.args.statement.now c.in-Repeat.body c.in-Repeat.until c.in-Repeat.is)
    c.note_until.ensures

pub visit_each-loop-statement-preserved : goal.visit_each-loop-statement-preserved
visit_each-loop-statement-preserved t c =
    let l = c.loop-statement in
    let next = statement_passed c.args.list.now l.statement-index c.statement-item.result (depth_of c.args.around.now) (survey_of c.args.survey.now) (survey_of l.survey) (survey_of c.visit.new.survey) _ c.loop-statement-test.true c.statement-item.is l.invariant.reach l.invariant.noted c.in_ok-visit.ensures in
    record { reach = next.0; noted = next.1 }

pub visit_clauses-loop-clause-preserved : goal.visit_clauses-loop-clause-preserved
visit_clauses-loop-clause-preserved t c =
    let l = c.loop-clause in
    let next = clause_passed c.args.list.now l.clause-index c.clause-item.result (depth_of c.args.around.now) l.seen (survey_of c.args.survey.now) (survey_of l.survey) (survey_of c.visit_clause.new.survey) _ c.loop-clause-test.true c.clause-item.is l.invariant.reach l.invariant.noted c.in_ok-visit_clause.ensures in
    record { reach = next.0; noted = next.1 }

pub visit_list-returns : goal.visit_list-returns
visit_list-returns t c =
    list_noted (survey_of c.args.survey.now) (survey_of c.enter.new.self) (survey_of c.visit_each.new.survey) (survey_of c.leave.new.self) (depth_of c.args.around.now) (commands c.args.list.now) c.in_ok-outside.outside
    c.in_ok-outside.ensures.outside c.in_ok-outside.ensures.inside c.in_ok-visit_each.ensures c.leave.ensures
