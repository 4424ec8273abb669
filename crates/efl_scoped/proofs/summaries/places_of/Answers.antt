-- One bound more is counted.
use Rattle.std.proofs.Common.{◌*◌, ◌+◌, drop, ap, sym, ◌∙◌, arith}
use Rattle.efl_scope.specs.DataTypes.{elements, many_from, low_of}
use Rattle.efl_scope.proofs.TreeLemmas.{drop_next}
use Rattle.efl_scoped.specs.Told.{capped}
use Rattle.efl_scoped.proofs.BoundLemmas.{bound_at, bound_is}
use Rattle.efl_scoped.proofs.CountLemmas.{bound_counted}
use Rattle.efl_scoped.proofs.summaries.places_of.Goals as goal

pub loop-bound-preserved : goal.loop-bound-preserved
loop-bound-preserved c =
    let l = c.loop-bound in
    let bs = c.args.bounds.now in
    let new = c.min-places-in-loop-bound in
    let product = c.saturating_mul in
    record {
      counted = bound_counted (elements (drop (l.bound-index + 1) bs)) l.places c.many.result (many_from (low_of (bound_at bs l.bound-index)) (bound_at bs l.bound-index).high) new.result (capped (elements bs * c.args.element))
          (sym (ap (λ xs. capped (elements xs * l.places)) (drop_next bs l.bound-index (bound_at bs l.bound-index) c.loop-bound-test.true (bound_is bs l.bound-index c.loop-bound-test.true))) ∙ l.invariant.counted)
          c.many.ensures (omega (arith, new.ensures, product.ensures));
      small = omega (arith, new.ensures);
    }
