-- One range more.
use Rattle.std.proofs.Common.{◌≡◌, ◌+◌, ◌∷◌, suc, drop, get_or, sym, ap, ◌∙◌, arith}
use Rattle.std.proofs.Math.Seq.{drop-cons}
use Rattle.efl_whole.specs.Roles.{with_letters}
use Rattle.efl_whole.specs.RoleViews.{letters_of}
use Rattle.efl_whole.proofs.listing.add_letters.Goals as goal

pub loop-range-preserved : goal.loop-range-preserved
loop-range-preserved c =
    let l = c.loop-range in
    let all = c.args.ranges.now in
    let i = l.range-index in
    let e : suc i ≡ i + 1 = omega arith in
    ap (with_letters c.args.role (drop (i + 1) all)) c.in_ok-add_range.ensures
    ∙ sym (ap (λ rs. with_letters c.args.role rs (letters_of l.letters)) (drop-cons all i (0, 0) c.loop-range-test.true ∙ ap (λ m. get_or all i (0, 0) ∷ drop m all) e))
    ∙ l.invariant
