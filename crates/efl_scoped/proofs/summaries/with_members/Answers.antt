-- One member more is told.
use Rattle.std.proofs.Common.{◌+◌, ◌∷◌, drop, subst}
use Rattle.efl_tree.specs.Views.{var_of, vars_of}
use Rattle.efl_scope.proofs.TreeLemmas.{drop_next}
use Rattle.efl_scoped.specs.Seen.{table_of, IsBounded}
use Rattle.efl_scoped.proofs.MemberLemmas.{MembersLeft, member_passed}
use Rattle.efl_scoped.proofs.summaries.with_members.Goals as goal

pub loop-variable-preserved : goal.loop-variable-preserved
loop-variable-preserved c =
    let l = c.loop-variable in
    let f = table_of c.args.numbers.now in
    let vs = vars_of c.args.list.now in
    let rest = drop (l.variable-index + 1) c.args.list.now in
    let left : MembersLeft f c.args.before c.args.kind vs (table_of l.numbers) (vars_of (c.variable-item.result ∷ rest)) l.so_far =
    subst (λ x. MembersLeft f c.args.before c.args.kind vs (table_of l.numbers) (vars_of x) l.so_far)
    (drop_next c.args.list.now l.variable-index c.variable-item.result c.loop-variable-test.true c.variable-item.is) l.invariant in
    member_passed f (table_of l.numbers) (table_of c.bounded.new.numbers) (table_of c.with_member.new.numbers) c.args.before c.args.kind l.so_far c.in_ok-member.member c.in_ok-so_far.so_far
    vs (var_of c.variable-item.result) (vars_of rest) left
    (subst (λ bs. IsBounded (table_of l.numbers) c.args.kind bs (table_of c.bounded.new.numbers) c.in_ok-member.member) c.deref.ensures.value c.in_ok-member.ensures)
    c.in_ok-so_far.ensures
