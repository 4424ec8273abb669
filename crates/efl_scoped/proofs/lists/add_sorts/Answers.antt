-- One variable more.
use Rattle.std.proofs.Common.{◌++◌, ◌∷◌, [], take, sym, subst}
use Rattle.efl_tree.specs.Views.{var_of, vars_of}
use Rattle.efl_scoped.specs.Seen.{table_of, IsBounded}
use Rattle.efl_scoped.proofs.SortLemmas.{SortsLeft, sort_passed, sorts_ended, variables_next, variables_all}
use Rattle.efl_scoped.proofs.lists.add_sorts.Goals as goal

pub loop-variable-preserved : goal.loop-variable-preserved
loop-variable-preserved c =
    let l = c.loop-variable in
    let f = table_of c.args.numbers.now in
    let h = table_of c.bounded.new.numbers in
    let old = c.args.sorts.now.items in
    let list = c.args.list.now in
    let x = c.variable-item.result in
    subst (λ vs. SortsLeft f c.args.kind old h vs c.push.new.self.items) (sym (variables_next list l.variable-index x c.loop-variable-test.true c.variable-item.is))
    (subst (SortsLeft f c.args.kind old h (vars_of (take l.variable-index list) ++ var_of x ∷ [])) (sym c.in_ok-push.ensures.items)
    (sort_passed f (table_of l.numbers) h c.args.kind c.in_ok-one.one c.sort.result old l.sorts.items (vars_of (take l.variable-index list)) (var_of x) l.invariant
    (subst (λ bs. IsBounded (table_of l.numbers) c.args.kind bs h c.in_ok-one.one) c.deref.ensures.value c.in_ok-one.ensures) c.sort.ensures))

pub returns : goal.returns
returns c =
    let l = c.loop-variable in
    sorts_ended (table_of c.args.numbers.now) (table_of l.numbers) c.args.kind c.args.sorts.now.items l.sorts.items (vars_of (take l.variable-index c.args.list.now)) (vars_of c.args.list.now)
    (variables_all c.args.list.now l.variable-index c.loop-variable-test.false) l.invariant
