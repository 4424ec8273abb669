-- One group more.
use Rattle.std.proofs.Common.{◌++◌, ◌+◌, Some, drop, subst}
use Rattle.efl_tree.specs.Views.{type_of, vars_of, groups_of}
use Rattle.efl_scope.specs.Scopes.{group_variables}
use Rattle.efl_scope.proofs.TreeLemmas.{drop_next}
use Rattle.efl_initial_values.specs.Surveys.{Adds, variables_of}
use Rattle.efl_initial_values.proofs.AreaLemmas.{GroupsLeft, group_passed}
use Rattle.efl_initial_values.proofs.areas.add_groups.Goals as goal

pub loop-group-preserved : goal.loop-group-preserved
loop-group-preserved c = λ bs vs holds.
    let l = c.loop-group in
    let q = c.args.area.now in
    let all = c.args.groups.now in
    let g = c.group-item.result in
    let next = c.add_variables.new in
    let whole = vs ++ group_variables q bs (groups_of all) in
    group_passed whole q (type_of g.kind) (vars_of g.variables.items) g.place (groups_of (drop (l.group-index + 1) all)) l.members next.members l.areas next.areas
    (subst (λ xs. GroupsLeft whole q (groups_of xs) l.members l.areas) (drop_next all l.group-index g c.loop-group-test.true c.group-item.is) (l.invariant bs vs holds))
    (λ t. subst (λ xs. Adds (variables_of (Some q) t (vars_of xs)) l.members l.areas next.members next.areas) c.deref.ensures.value (c.in_ok-add_variables.ensures t))
