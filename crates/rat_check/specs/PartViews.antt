-- The parts of a unit in memory, and what the checks know of them.
use Rattle.std.specs.Prelude.{ℕ, List, map}
use Rattle.f66_names.specs.DeclarationViews.{context_in, acts_in}
use Rattle.unit_rules.specs.declared.unit_names.UnitNames.{UnitNames}
use Rattle.rat_check.specs.declared.parts.Part as memory
use Rattle.rat_check.specs.declared.survey.Survey as walks
use Rattle.rat_check.specs.declared.before.Before as fronts
use Rattle.rat_check.specs.Parts.{Part}
use Rattle.rat_check.specs.Rules.{Before, UnitRules}
use Rattle.rat_check.specs.FormViews.{form_of}
use Rattle.rat_check.specs.Survey.{is_among, Survey}

abbrev pub part_of : memory.Part → Part
part_of p = record { label = p.label; place = p.place; form = form_of p.form; inside = p.inside; reached = p.reached }

abbrev pub parts_seen : List memory.Part → List Part
parts_seen parts = map part_of parts

abbrev pub survey_of : walks.Survey → Survey
survey_of s = record { reach = s.reach; parts = parts_seen s.parts.items }

abbrev pub before_of : fronts.Before → Before
before_of b = record { labels = is_among b.labels; begun = b.begun; said = b.said }

abbrev pub whole_by : UnitNames → List ℕ → UnitRules
whole_by names formats = record { context = context_in names.declarations; said = acts_in names.declarations; formats = is_among formats }
