-- The walk sees all parts.
use Rattle.rat_tree.specs.Views.{commands}
use Rattle.rat_check.specs.PartViews.{survey_of}
use Rattle.rat_check.proofs.SurveyLemmas.{all_parts}
use Rattle.rat_check.proofs.unit_check.parts_of.Goals as goal

pub returns : goal.returns
returns c = all_parts (commands c.args.body.now) (survey_of c.in_ok-survey.survey) (survey_of c.visit_list.new.survey) c.in_ok-survey.ensures c.in_ok-visit_list.ensures
