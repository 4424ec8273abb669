-- One variable more.
use Rattle.std.proofs.Common.{◌++◌, [], ◌∷◌, ◌+◌, drop, subst}
use Rattle.std.specs.Option.{option_map}
use Rattle.std.proofs.lemmas.List.{drop_all}
use Rattle.efl_tree.specs.Views.{var_of, vars_of}
use Rattle.efl_scope.specs.Scopes.{variable}
use Rattle.efl_scope.proofs.TreeLemmas.{drop_next}
use Rattle.efl_initial_values.specs.Surveys.{Notes, variables_of}
use Rattle.efl_initial_values.proofs.AreaLemmas.{Left, begun, passed, ended, variable_adds}
use Rattle.efl_initial_values.proofs.areas.add_variables.Goals as goal

pub loop-variable-init : goal.loop-variable-init
loop-variable-init c = λ t vs holds. begun vs (variables_of (option_map (λ a. a.now) c.args.area) t (vars_of c.args.list.now)) c.args.members.now c.args.areas.now holds

pub loop-variable-preserved : goal.loop-variable-preserved
loop-variable-preserved c = λ t vs holds.
    let l = c.loop-variable in
    let q = option_map (λ a. a.now) c.args.area in
    let list = c.args.list.now in
    let v = c.variable-item.result in
    let next = c.add_variable.new in
    let whole = vs ++ variables_of q t (vars_of list) in
    passed whole (variable [] q t (var_of v) ∷ []) (variables_of q t (vars_of (drop (l.variable-index + 1) list))) l.members next.members l.areas next.areas
    (subst (λ xs. Left whole (variables_of q t (vars_of xs)) l.members l.areas) (drop_next list l.variable-index v c.loop-variable-test.true c.variable-item.is) (l.invariant t vs holds))
    (variable_adds q t (var_of v) l.members next.members l.areas next.areas
    (subst (λ x. Notes q x l.members l.areas next.members next.areas) c.as_bytes.ensures c.in_ok-add_variable.ensures))

pub returns : goal.returns
returns c = λ t vs holds.
    let l = c.loop-variable in
    let q = option_map (λ a. a.now) c.args.area in
    let whole = vs ++ variables_of q t (vars_of c.args.list.now) in
    ended whole l.members l.areas
    (subst (λ xs. Left whole (variables_of q t (vars_of xs)) l.members l.areas) (drop_all l.variable-index c.args.list.now c.loop-variable-test.false) (l.invariant t vs holds))
