-- One group more.
use Rattle.std.proofs.Common.{◌+◌, drop, subst}
use Rattle.std.proofs.lemmas.List.{drop_all}
use Rattle.efl_tree.specs.Views.{vars_of, groups_of}
use Rattle.efl_scope.specs.Parts.{names_of}
use Rattle.efl_scope.specs.Marks.{variables_listed}
use Rattle.efl_scope.proofs.TreeLemmas.{drop_next}
use Rattle.efl_blocks.specs.DeclaredViews.{NamesAll}
use Rattle.efl_blocks.proofs.DeclaredLemmas.{NamesLeft, names_begun, names_passed, names_ended}
use Rattle.efl_blocks.proofs.declared.name_groups.Goals as goal

pub loop-group-init : goal.loop-group-init
loop-group-init c = names_begun c.args.block.now (variables_listed (groups_of c.args.groups.now))

pub loop-group-preserved : goal.loop-group-preserved
loop-group-preserved c =
    let l = c.loop-group in
    let groups = c.args.groups.now in
    let g = c.group-item.result in
    names_passed c.args.block.now l.block c.name_variables.new.block (variables_listed (groups_of groups)) (names_of (vars_of g.variables.items)) (variables_listed (groups_of (drop (l.group-index + 1) groups)))
    (subst (λ xs. NamesLeft c.args.block.now (variables_listed (groups_of groups)) l.block (variables_listed (groups_of xs)))
    (drop_next groups l.group-index g c.loop-group-test.true c.group-item.is) l.invariant)
    (subst (λ vs. NamesAll l.block (names_of (vars_of vs)) c.name_variables.new.block) c.deref.ensures.value c.in_ok-name_variables.ensures)

pub returns : goal.returns
returns c =
    let l = c.loop-group in
    let groups = c.args.groups.now in
    names_ended c.args.block.now l.block (variables_listed (groups_of groups))
    (subst (λ xs. NamesLeft c.args.block.now (variables_listed (groups_of groups)) l.block (variables_listed (groups_of xs))) (drop_all l.group-index groups c.loop-group-test.false) l.invariant)
