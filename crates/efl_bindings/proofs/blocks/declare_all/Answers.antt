-- One variable more.
use Rattle.std.proofs.Common.{◌+◌, drop, subst}
use Rattle.std.proofs.lemmas.List.{drop_all}
use Rattle.efl_tree.specs.Views.{var_of, vars_of}
use Rattle.efl_scope.proofs.TreeLemmas.{drop_next}
use Rattle.efl_bindings.proofs.TableLemmas.{VariablesLeft, Comes, IsNumber, variables_begun, variable_passed, variables_ended}
use Rattle.efl_bindings.proofs.blocks.declare_all.Goals as goal

pub loop-variable-init : goal.loop-variable-init
loop-variable-init c = variables_begun c.args.home.now c.args.kind c.args.table.now (vars_of c.args.list.now)

pub loop-variable-preserved : goal.loop-variable-preserved
loop-variable-preserved c =
    let l = c.loop-variable in
    let h = c.args.home.now in
    let k = c.args.kind in
    let list = c.args.list.now in
    let x = c.variable-item.result in
    let n = c.number.result in
    let new = c.declare.new.self in
    variable_passed h k c.args.table.now l.table new (vars_of list) (var_of x) (vars_of (drop (l.variable-index + 1) list)) n
    (subst (λ xs. VariablesLeft h k c.args.table.now (vars_of list) l.table (vars_of xs)) (drop_next list l.variable-index x c.loop-variable-test.true c.variable-item.is) l.invariant)
    (subst (λ y. IsNumber h y n) c.as_bytes-name.ensures c.number.ensures)
    (subst (λ y. Comes l.table y (record { variable = n; kind = k }) new) c.as_bytes-name.ensures c.in_ok-declare.ensures)

pub returns : goal.returns
returns c =
    let l = c.loop-variable in
    let list = c.args.list.now in
    variables_ended c.args.home.now c.args.kind c.args.table.now l.table (vars_of list)
    (subst (λ xs. VariablesLeft c.args.home.now c.args.kind c.args.table.now (vars_of list) l.table (vars_of xs)) (drop_all l.variable-index list c.loop-variable-test.false) l.invariant)
