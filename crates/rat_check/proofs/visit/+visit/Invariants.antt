-- What is still to be noted of a list comes after what has been.
use Rattle.std.proofs.Common.{◌≡◌, drop}
use Rattle.rat_tree.specs.Views.{commands, clauses}
use Rattle.rat_check.specs.Parts.{parts_in, clause_parts}
use Rattle.rat_check.specs.FormViews.{depth_of}
use Rattle.rat_check.specs.PartViews.{survey_of}
use Rattle.rat_check.specs.Survey.{is_among, noting_all}
use Rattle.rat_check.proofs.visit.+visit.Given as goal

abbrev pub invariant-visit_each-loop-statement : goal.invariant-visit_each-loop-statement
invariant-visit_each-loop-statement l = record {
  reach : l.survey.reach ≡ l.initial.survey.reach;
  noted :
      noting_all (parts_in (depth_of l.around) (is_among l.initial.survey.reach) (commands (drop l.statement-index l.list))) (survey_of l.survey)
      ≡ noting_all (parts_in (depth_of l.around) (is_among l.initial.survey.reach) (commands l.list)) (survey_of l.initial.survey);
}

abbrev pub invariant-visit_clauses-loop-clause : goal.invariant-visit_clauses-loop-clause
invariant-visit_clauses-loop-clause l = record {
  reach : l.survey.reach ≡ l.initial.survey.reach;
  noted :
      noting_all (clause_parts (depth_of l.around) (is_among l.initial.survey.reach) l.seen (clauses (drop l.clause-index l.list))) (survey_of l.survey)
      ≡ noting_all (clause_parts (depth_of l.around) (is_among l.initial.survey.reach) l.initial.seen (clauses l.list)) (survey_of l.initial.survey);
}
