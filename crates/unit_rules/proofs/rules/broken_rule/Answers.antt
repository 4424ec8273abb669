-- An assignment to a place is told by the names that it uses.
use Rattle.std.proofs.Common.{ap, sym, ◌∙◌}
use Rattle.f66_tree.specs.Views.{act_of}
use Rattle.f66_names.specs.DeclarationViews.{context_in, acts_in}
use Rattle.unit_rules.proofs.AssignmentLemmas.{assignment_told}
use Rattle.unit_rules.proofs.rules.broken_rule.Goals as goal

pub returns-in-Assign : goal.returns-in-Assign
returns-in-Assign c =
    let d = c.args.names.now.declarations in
    assignment_told (context_in d) (acts_in d) c.args.i c.assignment_rule.result (act_of c.args.kind.now) _ _ (ap act_of c.in-Assign.is) (sym c.is_readable.ensures ∙ c.if-is_readable.true) c.assignment_rule.ensures
