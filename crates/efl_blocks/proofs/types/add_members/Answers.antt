-- One member more.
use Rattle.std.proofs.Common.{◌+◌, drop, refl, sym, subst}
use Rattle.std.proofs.lemmas.List.{drop_all}
use Rattle.efl_tree.specs.Views.{var_of, vars_of}
use Rattle.efl_scope.proofs.TreeLemmas.{drop_next}
use Rattle.efl_blocks.specs.Made.{TakesBounds}
use Rattle.efl_blocks.proofs.MemberLemmas.{MembersLeft, members_begun, member_passed, members_ended}
use Rattle.efl_blocks.proofs.types.add_members.Goals as goal

pub loop-variable-init : goal.loop-variable-init
loop-variable-init c = members_begun c.args.types.now c.args.kind (vars_of c.args.list.now) c.args.members.now.items

pub loop-variable-preserved : goal.loop-variable-preserved
loop-variable-preserved c =
    let l = c.loop-variable in
    let y = c.args.types.now in
    let k = c.args.kind in
    let list = c.args.list.now in
    let x = c.variable-item.result in
    let w = c.with_bounds.new.types in
    let rest = vars_of (drop (l.variable-index + 1) list) in
    subst (λ all. MembersLeft y k (vars_of list) c.args.members.now.items w rest all) (sym c.in_ok-push.ensures.items)
    (member_passed y l.types w k c.in_ok-own.own (vars_of list) (var_of x) rest c.args.members.now.items l.members.items _
    (subst (λ xs. MembersLeft y k (vars_of list) c.args.members.now.items l.types (vars_of xs) l.members.items) (drop_next list l.variable-index x c.loop-variable-test.true c.variable-item.is) l.invariant)
    (subst (λ bs. TakesBounds l.types k bs w c.in_ok-own.own) c.deref.ensures.value c.in_ok-own.ensures) refl c.as_bytes.ensures)

pub returns : goal.returns
returns c =
    let l = c.loop-variable in
    let y = c.args.types.now in
    let k = c.args.kind in
    let list = c.args.list.now in
    members_ended y l.types k (vars_of list) c.args.members.now.items l.members.items
    (subst (λ xs. MembersLeft y k (vars_of list) c.args.members.now.items l.types (vars_of xs) l.members.items) (drop_all l.variable-index list c.loop-variable-test.false) l.invariant)
