-- One formal more.
use Rattle.std.proofs.Common.{◌+◌, drop, subst}
use Rattle.std.proofs.lemmas.List.{drop_all}
use Rattle.efl_scope.proofs.TreeLemmas.{drop_next}
use Rattle.efl_bindings.specs.Bindings.{kind_by}
use Rattle.efl_bindings.proofs.TableLemmas.{Comes, IsNumber}
use Rattle.efl_bindings.proofs.OuterLemmas.{FormalsLeft, formals_begun, formal_passed, formals_ended}
use Rattle.efl_bindings.proofs.outer.declare_formals.Goals as goal

pub loop-formal-init : goal.loop-formal-init
loop-formal-init c = formals_begun c.args.home.now c.args.letters.now c.args.table.now c.args.formals.now

pub loop-formal-preserved : goal.loop-formal-preserved
loop-formal-preserved c =
    let l = c.loop-formal in
    let h = c.args.home.now in
    let letters = c.args.letters.now in
    let list = c.args.formals.now in
    let x = c.formal-item.result in
    let n = c.number.result in
    let new = c.declare.new.self in
    formal_passed h letters c.args.table.now l.table new list x (drop (l.formal-index + 1) list) n
    (subst (λ xs. FormalsLeft h letters c.args.table.now list l.table xs) (drop_next list l.formal-index x c.loop-formal-test.true c.formal-item.is) l.invariant)
    (subst (λ y. IsNumber h y n) c.as_bytes-name.ensures c.number.ensures)
    (subst (λ y. Comes l.table y (record { variable = n; kind = kind_by letters y }) new) c.as_bytes-name.ensures
    (subst (λ k. Comes l.table c.as_bytes-name.result.now (record { variable = n; kind = k }) new) c.kind.ensures c.in_ok-declare.ensures))

pub returns : goal.returns
returns c =
    let l = c.loop-formal in
    let list = c.args.formals.now in
    formals_ended c.args.home.now c.args.letters.now c.args.table.now l.table list
    (subst (λ xs. FormalsLeft c.args.home.now c.args.letters.now c.args.table.now list l.table xs) (drop_all l.formal-index list c.loop-formal-test.false) l.invariant)
