-- Each unit's code stands behind that of those before it.
use Rattle.std.proofs.Common.{◌≡◌, ◌<◌, ◌∷◌, ◌∙◌, ℕ, List, length, slice_index_or, sym, ap, subst}
use Rattle.std.proofs.lemmas.List.{length-map}
use Rattle.f66_tree.specs.Views.{routine_of}
use Rattle.code_gen.specs.LayingOut.{before}
use Rattle.code_gen.specs.Statements.{unit_size}
use Rattle.code_layout.specs.Order.{others_of}
use Rattle.code_layout.specs.Spreading.{spread_of}
use Rattle.code_layout.proofs.EnterLemmas.{starts_entered}
use Rattle.code_layout.proofs.entering.enter.Goals as goal

pub returns : goal.returns
returns c = λ rank kept sized main_in.
    let l = c.args.linked.now in
    let all = c.units-all.result.now in
    let us = l.calls.units.now in
    let f : ℕ → ℕ = λ u. slice_index_or c.args.sizes.now u 0 in
    let g : ℕ → ℕ = unit_size (spread_of l rank) in
    let starts = c.in_ok-starts.starts.items in
    let same : length all ≡ length us = ap length c.units-all.ensures in
    let order : List ℕ = l.main ∷ others_of l.main (length us) in
    let first : c.deref.result.now ≡ order = c.deref.ensures.value ∙ c.in_ok-order.ensures ∙ ap (λ k. l.main ∷ others_of l.main k) same in
    let second : c.deref-2.result.now ≡ order = c.deref-2.ensures.value ∙ c.in_ok-order.ensures ∙ ap (λ k. l.main ∷ others_of l.main k) same in
    let long : length starts ≡ length us = c.in_ok-starts.ensures.many ∙ same in
    let each : (u d : ℕ) → u < length us → slice_index_or starts u d ≡ before f order u = λ u d lt.
    c.in_ok-starts.ensures.each u d (subst (λ k. u < k) (sym same) lt) ∙ ap (λ vs. before f vs u) first in
    let last : c.in_ok-end.end ≡ before f order (length us) = c.in_ok-end.ensures ∙ ap (λ vs. before f vs (length all)) second ∙ ap (before f order) same in
    record {
      kept = record { spares = kept.spares; loops = kept.loops };
      starts = λ u.
          starts_entered l.main (length us) main_in f g starts c.in_ok-end.end sized long each last u
          ∙ ap (λ k. before g (l.main ∷ others_of l.main k) u) (sym (length-map us routine_of));
    }
