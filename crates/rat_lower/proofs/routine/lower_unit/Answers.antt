-- The unit that a unit becomes serves for it.
use Rattle.std.proofs.Common.{[], refl, ap, ◌∙◌}
use Rattle.f66_tree.specs.Views.{lines_of}
use Rattle.rat_tree.specs.Views.{commands, rat_routine_of}
use Rattle.rat_check.specs.Parts.{unit_parts}
use Rattle.rat_check.specs.Survey.{own_labels}
use Rattle.rat_lower.proofs.Units.{code_serves}
use Rattle.rat_lower.proofs.routine.lower_unit.Goals as goal

pub returns : goal.returns
returns c =
    let u = rat_routine_of c.args.unit in
    let code = lines_of c.in_ok-statements.statements.items in
    let labels = c.in_ok-labels.ensures ∙ ap (λ body. own_labels (unit_parts (commands body)) []) c.deref.ensures.value in
    code_serves u c.in_ok-labels.labels.items c.deref-2.result.now c.args.finish c.in_ok-names.names code c.requires.accepted labels c.deref-2.ensures.value c.requires.room c.in_ok-statements.ensures.code c.in_ok-names.ensures.spare _ refl
    c.in_ok-statements.ensures.ends
