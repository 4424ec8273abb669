-- One group more.
use Rattle.std.proofs.Common.{◌+◌, [], drop, subst, sym}
use Rattle.std.proofs.lemmas.List.{drop_all}
use Rattle.efl_tree.specs.Views.{type_of, vars_of, groups_of}
use Rattle.efl_scope.proofs.TreeLemmas.{drop_next}
use Rattle.efl_declarations.specs.Sees.{SeesList}
use Rattle.efl_declarations.proofs.SeenLemmas.{FaultsLeft, faults_begun, fault_passed, groups_seen}
use Rattle.efl_declarations.proofs.groups.see_groups.Goals as goal

pub loop-group-init : goal.loop-group-init
loop-group-init c = faults_begun c.args.types.now c.args.block.now c.args.beyond.now (groups_of c.args.groups.now)

pub loop-group-preserved : goal.loop-group-preserved
loop-group-preserved c =
    let l = c.loop-group in
    let groups = c.args.groups.now in
    let g = c.group-item.result in
    let y = c.args.types.now in
    let block = c.args.block.now in
    let beyond = c.args.beyond.now in
    let next = c.see_list.new in
    let more = c.in_ok-more.more in
    let rest = groups_of (drop (l.group-index + 1) groups) in
    subst (λ f. FaultsLeft y block beyond (groups_of groups) next.types next.block rest f) (sym c.or-fault.ensures)
    (fault_passed y l.types next.types block l.block next.block beyond (groups_of groups) (type_of g.kind) (vars_of g.variables.items) g.place rest l.fault more
    (subst (λ xs. FaultsLeft y block beyond (groups_of groups) l.types l.block (groups_of xs) l.fault) (drop_next groups l.group-index g c.loop-group-test.true c.group-item.is) l.invariant)
    (subst (λ vs. SeesList l.types l.block beyond g.place [] (type_of g.kind) (vars_of vs) next.types next.block more) c.deref.ensures.value c.in_ok-more.ensures))

pub returns : goal.returns
returns c =
    let l = c.loop-group in
    let groups = c.args.groups.now in
    let y = c.args.types.now in
    let block = c.args.block.now in
    let beyond = c.args.beyond.now in
    groups_seen y l.types block l.block beyond (groups_of groups) l.fault
    (subst (λ xs. FaultsLeft y block beyond (groups_of groups) l.types l.block (groups_of xs) l.fault) (drop_all l.group-index groups c.loop-group-test.false) l.invariant)
