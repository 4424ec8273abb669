-- Constant by constant.
use Rattle.std.proofs.Common.{pos, ◌+◌, drop, get_or, subst}
use Rattle.std.proofs.lemmas.List.{drop_all, get_or_default}
use Rattle.efl_scope.proofs.TreeLemmas.{drop_next}
use Rattle.efl_statements.proofs.ClauseLemmas.{HasSeen, seen_none, seen_next, seen_all}
use Rattle.efl_statements.proofs.clauses.add_all.Goals as goal

pub loop-constant-init : goal.loop-constant-init
loop-constant-init c = λ before has. seen_none before c.args.constants.now c.args.chosen.now has

pub loop-constant-preserved : goal.loop-constant-preserved
loop-constant-preserved c = λ before has.
    let l = c.loop-constant in
    let list = c.args.constants.now in
    let x = get_or list l.constant-index (pos 0) in
    let left = drop (l.constant-index + 1) list in
    let is = drop_next list l.constant-index x c.loop-constant-test.true (get_or_default list l.constant-index (pos 0) x c.loop-constant-test.true) in
    seen_next before list x left l.chosen c.add.new.chosen l.again c.in_ok-is_new.is_new c.is_either-again.result
    (subst (λ xs. HasSeen before list xs l.chosen l.again) is (l.invariant before has)) c.in_ok-is_new.ensures.added c.in_ok-is_new.ensures.updates c.is_either-again.ensures

pub returns : goal.returns
returns c = λ before has.
    let l = c.loop-constant in
    let list = c.args.constants.now in
    seen_all before list (drop l.constant-index list) l.chosen l.again (drop_all l.constant-index list c.loop-constant-test.false) (l.invariant before has)
