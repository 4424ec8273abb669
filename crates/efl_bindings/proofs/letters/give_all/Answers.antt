-- One range more.
use Rattle.std.proofs.Common.{ℕ, ◌+◌, drop, get_or, subst}
use Rattle.std.proofs.lemmas.List.{drop_all, get_or_default}
use Rattle.efl_scope.proofs.TreeLemmas.{drop_next}
use Rattle.efl_bindings.proofs.LetterLemmas.{RangesLeft, ranges_begun, range_passed, ranges_ended}
use Rattle.efl_bindings.proofs.letters.give_all.Goals as goal

pub loop-range-init : goal.loop-range-init
loop-range-init c = ranges_begun c.args.kind c.args.letters.now c.args.ranges.now

pub loop-range-preserved : goal.loop-range-preserved
loop-range-preserved c =
    let l = c.loop-range in
    let list = c.args.ranges.now in
    let r : ℕ × ℕ = get_or list l.range-index (0, 0) in
    range_passed c.args.kind c.args.letters.now l.letters c.give.new.self list r (drop (l.range-index + 1) list)
    (subst (λ xs. RangesLeft c.args.kind c.args.letters.now list l.letters xs)
    (drop_next list l.range-index r c.loop-range-test.true (get_or_default list l.range-index (0, 0) r c.loop-range-test.true)) l.invariant)
    c.in_ok-give.ensures

pub returns : goal.returns
returns c =
    let l = c.loop-range in
    let list = c.args.ranges.now in
    ranges_ended c.args.kind c.args.letters.now l.letters list
    (subst (λ xs. RangesLeft c.args.kind c.args.letters.now list l.letters xs) (drop_all l.range-index list c.loop-range-test.false) l.invariant)
