-- What the tables know of the unit is what the rules ask of its parts.
use Rattle.std.proofs.Common.{[], ◌∙◌, ap, subst}
use Rattle.std.proofs.lemmas.Result.{IfOk-weaker}
use Rattle.f66_tree.specs.Views.{header_of}
use Rattle.rat_tree.specs.Views.{commands}
use Rattle.rat_check.specs.Parts.{unit_parts}
use Rattle.rat_check.specs.FirstFault.{Tells, fault_of_parts}
use Rattle.rat_check.specs.Survey.{own_labels}
use Rattle.rat_check.proofs.unit_check.check_with.Goals as goal

pub returns-clause-fault : goal.returns-clause-fault
returns-clause-fault c =
    let unit = c.args.unit.now in
    let d = c.in_ok-names.names.declarations in
    subst (Tells c.check_rules.result)
    (ap (fault_of_parts (header_of d.header.now) unit.place) c.requires ∙ ap (λ x. fault_of_parts (header_of x) unit.place (unit_parts (commands unit.body.items))) c.in_ok-names.ensures.header)
    c.check_rules.ensures.fault

pub returns-clause-labels : goal.returns-clause-labels
returns-clause-labels c = IfOk-weaker c.check_rules.result _ _ (λ labels told. told ∙ ap (λ vs. own_labels vs []) c.requires) c.check_rules.ensures.labels
