-- The ranks are those that fall along each call.
use Rattle.std.proofs.Common.{ℕ, slice_index_or, subst}
use Rattle.code_layout.specs.Spreading.{AreKept}
use Rattle.code_layout.proofs.SpreadLemmas.{laid_out}
use Rattle.code_layout.proofs.placing.placed.Goals as goal

pub returns : goal.returns
returns c =
    let t = c.args.tables.now in
    let m = c.in_ok-spread.spread in
    let rank : ℕ → ℕ = λ u. slice_index_or c.in_ok-ranks.ranks.items u 0 in
    let kept : AreKept t.linked.now rank m = subst (λ xs. AreKept t.linked.now (λ u. slice_index_or xs u 0) m) c.deref.ensures.value c.in_ok-spread.ensures.kept in
    record {
      rank = rank;
      falls = c.in_ok-ranks.ensures.fall;
      laid = laid_out t c.enter_all.new.spread rank c.requires.presets (c.in_ok-enter_all.ensures rank kept);
    }
