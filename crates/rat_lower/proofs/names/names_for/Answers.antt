-- All names are kept where there is a switch, and none is made yet.
use Rattle.std.proofs.Common.{arith}
use Rattle.std.proofs.lemmas.Result.{IfOk-weaker}
use Rattle.rat_tree.specs.Views.{rat_routine_of}
use Rattle.rat_lower.specs.Emitted.{unit_names}
use Rattle.rat_lower.proofs.Emitting.SpareNames.{all_kept, none_made, no_labels}
use Rattle.rat_lower.proofs.names.names_for.Goals as goal

pub returns-then-have_switch-clause-few : goal.returns-then-have_switch-clause-few
returns-then-have_switch-clause-few c =
    let xs = unit_names (rat_routine_of c.args.unit.now) in
    IfOk-weaker c.names_in.result _ _ (λ names is. omega (arith, all_kept xs names is)) c.names_in.ensures

pub returns-then-have_switch-clause-made : goal.returns-then-have_switch-clause-made
returns-then-have_switch-clause-made c = IfOk-weaker c.names_in.result _ _ (λ names is. none_made (unit_names (rat_routine_of c.args.unit.now)) names is) c.names_in.ensures

pub returns-then-have_switch-clause-labels : goal.returns-then-have_switch-clause-labels
returns-then-have_switch-clause-labels c = IfOk-weaker c.names_in.result _ _ (λ names is. no_labels (unit_names (rat_routine_of c.args.unit.now)) names is) c.names_in.ensures
