-- One variable more.
use Rattle.std.proofs.Common.{◌+◌, drop, subst}
use Rattle.std.proofs.lemmas.List.{drop_all}
use Rattle.efl_tree.specs.Views.{var_of, vars_of}
use Rattle.efl_scope.proofs.TreeLemmas.{drop_next}
use Rattle.efl_blocks.specs.Made.{TakesBounds}
use Rattle.efl_blocks.proofs.DeclaredLemmas.{VariablesLeft, Comes, variables_begun, variable_passed, variables_ended}
use Rattle.efl_blocks.proofs.declared.add_variables.Goals as goal

pub loop-variable-init : goal.loop-variable-init
loop-variable-init c = variables_begun c.args.types.now c.args.kind c.args.block.now (vars_of c.args.list.now)

pub loop-variable-preserved : goal.loop-variable-preserved
loop-variable-preserved c =
    let l = c.loop-variable in
    let y = c.args.types.now in
    let k = c.args.kind in
    let list = c.args.list.now in
    let x = c.variable-item.result in
    let w = c.with_bounds.new.types in
    let d = c.in_ok-own.own in
    let new = c.declare.new.self in
    variable_passed y l.types w k d c.args.block.now l.block new (vars_of list) (var_of x) (vars_of (drop (l.variable-index + 1) list))
    (subst (λ xs. VariablesLeft y k c.args.block.now (vars_of list) l.types l.block (vars_of xs)) (drop_next list l.variable-index x c.loop-variable-test.true c.variable-item.is) l.invariant)
    (subst (λ bs. TakesBounds l.types k bs w d) c.deref.ensures.value c.in_ok-own.ensures)
    (subst (λ n. Comes l.block n d new) c.as_bytes.ensures c.in_ok-declare.ensures)

pub returns : goal.returns
returns c =
    let l = c.loop-variable in
    let y = c.args.types.now in
    let k = c.args.kind in
    let list = c.args.list.now in
    variables_ended y l.types k c.args.block.now l.block (vars_of list)
    (subst (λ xs. VariablesLeft y k c.args.block.now (vars_of list) l.types l.block (vars_of xs)) (drop_all l.variable-index list c.loop-variable-test.false) l.invariant)
