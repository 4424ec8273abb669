-- Bound by bound.
use Rattle.std.proofs.Common.{◌+◌, ◌&&◌, drop, refl, sym, ap, ◌∙◌}
use Rattle.std.proofs.lemmas.List.{drop_all}
use Rattle.efl_scope.proofs.TreeLemmas.{drop_next}
use Rattle.efl_scoped.proofs.BoundLemmas.{bound_at, bound_is}
use Rattle.efl_types.specs.Declarations.{are_bounds}
use Rattle.efl_statements.specs.Bounds.{is_bound}
use Rattle.efl_statements.proofs.BoundLemmas.{and_assoc, and_true, last_is, bounds_next}
use Rattle.efl_statements.proofs.sizes.are_bounds.Goals as goal

pub loop-i-init : goal.loop-i-init
loop-i-init c = refl

pub loop-i-preserved : goal.loop-i-preserved
loop-i-preserved c =
    let l = c.loop-i in
    let formal = c.args.is_formal in
    let list = c.args.bounds.now in
    let x = bound_at list l.i in
    let behind = drop (l.i + 1) list in
    let rest = are_bounds formal behind in
    ap (λ b. b && rest) (c.are_both-all.ensures ∙ ap (λ b. l.all && b) (c.is_bound.ensures ∙ ap (λ last. is_bound formal last x) (last_is list l.i c.loop-i-test.true)))
    ∙ and_assoc l.all _ rest
    ∙ ap (λ b. l.all && b) (sym (bounds_next formal x behind))
    ∙ ap (λ xs. l.all && are_bounds formal xs) (sym (drop_next list l.i x c.loop-i-test.true (bound_is list l.i c.loop-i-test.true))) ∙ l.invariant

pub returns : goal.returns
returns c =
    let l = c.loop-i in
    sym (and_true l.all) ∙ ap (λ xs. l.all && are_bounds c.args.is_formal xs) (sym (drop_all l.i c.args.bounds.now c.loop-i-test.false)) ∙ l.invariant
