-- One group more.
use Rattle.std.proofs.Common.{◌+◌, drop, subst}
use Rattle.std.proofs.lemmas.List.{drop_all}
use Rattle.efl_tree.specs.Views.{type_of, vars_of, groups_of}
use Rattle.efl_scope.proofs.TreeLemmas.{drop_next}
use Rattle.efl_blocks.specs.DeclaredViews.{AddsList}
use Rattle.efl_blocks.proofs.DeclaredLemmas.{GroupsLeft, groups_begun, group_passed, groups_ended}
use Rattle.efl_blocks.proofs.declared.declare_groups.Goals as goal

pub loop-group-init : goal.loop-group-init
loop-group-init c = groups_begun c.args.types.now c.args.known.now c.args.block.now c.args.beyond.now (groups_of c.args.groups.now)

pub loop-group-preserved : goal.loop-group-preserved
loop-group-preserved c =
    let l = c.loop-group in
    let groups = c.args.groups.now in
    let g = c.group-item.result in
    let y = c.args.types.now in
    let known = c.args.known.now in
    let old = c.args.block.now in
    let beyond = c.args.beyond.now in
    let next = c.declare_list.new in
    group_passed y l.types next.types known l.known next.known old l.block next.block beyond (groups_of groups) (type_of g.kind) (vars_of g.variables.items) g.place (groups_of (drop (l.group-index + 1) groups))
    (subst (λ xs. GroupsLeft y known beyond old (groups_of groups) l.types l.known (groups_of xs) l.block) (drop_next groups l.group-index g c.loop-group-test.true c.group-item.is) l.invariant)
    (subst (λ vs. AddsList l.types l.known beyond l.block (type_of g.kind) (vars_of vs) next.types next.known next.block) c.deref.ensures.value c.in_ok-declare_list.ensures)

pub returns : goal.returns
returns c =
    let l = c.loop-group in
    let groups = c.args.groups.now in
    let y = c.args.types.now in
    let known = c.args.known.now in
    let old = c.args.block.now in
    let beyond = c.args.beyond.now in
    groups_ended y l.types known l.known old l.block beyond (groups_of groups)
    (subst (λ xs. GroupsLeft y known beyond old (groups_of groups) l.types l.known (groups_of xs) l.block) (drop_all l.group-index groups c.loop-group-test.false) l.invariant)
