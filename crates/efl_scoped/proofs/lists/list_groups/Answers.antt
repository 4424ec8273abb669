-- One group more.
use Rattle.std.proofs.Common.{◌+◌, drop, subst}
use Rattle.efl_tree.specs.Views.{type_of, vars_of, groups_of}
use Rattle.efl_scope.proofs.TreeLemmas.{drop_next}
use Rattle.efl_scoped.specs.Seen.{table_of, ListsVariables}
use Rattle.efl_scoped.proofs.SortLemmas.{GroupsListed, group_listed, listing_ended}
use Rattle.std.proofs.lemmas.List.{drop_all}
use Rattle.efl_scoped.proofs.lists.list_groups.Goals as goal

pub loop-group-preserved : goal.loop-group-preserved
loop-group-preserved c =
    let l = c.loop-group in
    let g = c.group-item.result in
    let groups = c.args.groups.now in
    let f = table_of c.args.numbers.now in
    let known = c.args.known.now in
    let old = c.args.sorts.now.items in
    let next = c.list_variables.new in
    group_listed f (table_of l.numbers) (table_of next.numbers) known l.known next.known (groups_of groups) old l.sorts.items next.sorts.items
    (type_of g.kind) (vars_of g.variables.items) g.place (groups_of (drop (l.group-index + 1) groups))
    (subst (λ xs. GroupsListed f known (groups_of groups) old (table_of l.numbers) l.known (groups_of xs) l.sorts.items) (drop_next groups l.group-index g c.loop-group-test.true c.group-item.is) l.invariant)
    (subst (λ vs. ListsVariables (table_of l.numbers) l.known (type_of g.kind) (vars_of vs) l.sorts.items (table_of next.numbers) next.known next.sorts.items) c.deref.ensures.value c.in_ok-list_variables.ensures)

pub returns : goal.returns
returns c =
    let l = c.loop-group in
    let f = table_of c.args.numbers.now in
    let groups = c.args.groups.now in
    listing_ended f (table_of l.numbers) c.args.known.now l.known (groups_of groups) c.args.sorts.now.items l.sorts.items
    (subst (λ xs. GroupsListed f c.args.known.now (groups_of groups) c.args.sorts.now.items (table_of l.numbers) l.known (groups_of xs) l.sorts.items)
    (drop_all l.group-index groups c.loop-group-test.false) l.invariant)
