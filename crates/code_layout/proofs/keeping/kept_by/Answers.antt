-- The numbers are those of the ranks.
use Rattle.std.proofs.Common.{◌≡◌, ◌<◌, ◌+◌, ◌∷◌, ◌∙◌, ℕ, length, slice_index_or, sym, ap, subst}
use Rattle.std.proofs.lemmas.List.{length-map}
use Rattle.f66_tree.specs.Views.{routine_of}
use Rattle.code_gen.specs.LayingOut.{beneath}
use Rattle.code_layout.specs.Order.{others_of}
use Rattle.code_layout.specs.Ranked.{bound_of}
use Rattle.code_layout.specs.Tabled.{order_in}
use Rattle.code_layout.proofs.KeptLemmas.{spares_kept, loops_kept}
use Rattle.code_layout.proofs.keeping.kept_by.Goals as goal

pub returns-clause-kept : goal.returns-clause-kept
returns-clause-kept c =
    let l = c.args.linked.now in
    let ranks = c.args.ranks.now in
    let rooms = c.args.rooms.now in
    let needs = c.args.needs.now in
    let spares = c.in_ok-spares.spares.items in
    let loops = c.in_ok-loops.loops.items in
    let bound : c.in_ok-bound.bound ≡ bound_of l = c.in_ok-bound.ensures in
    let order : c.deref.result.now ≡ order_in l =
    c.deref.ensures.value ∙ c.in_ok-order.ensures ∙ ap (λ n. l.main ∷ others_of l.main n) (c.requires.many ∙ sym (length-map l.calls.units.now routine_of)) in
    let each : (u d : ℕ) → u < length ranks → slice_index_or spares u d ≡ bound_of l + beneath (λ w. slice_index_or ranks w 0) (λ w. slice_index_or needs w 0) (order_in l) (slice_index_or ranks u 0) = λ u d lt.
    c.in_ok-spares.ensures.each u d lt
    ∙ ap (λ us. c.in_ok-bound.bound + beneath (λ w. slice_index_or ranks w 0) (λ w. slice_index_or needs w 0) us (slice_index_or ranks u 0)) order
    ∙ ap (λ n. n + beneath (λ w. slice_index_or ranks w 0) (λ w. slice_index_or needs w 0) (order_in l) (slice_index_or ranks u 0)) bound in
    let sums : (u d : ℕ) → u < length spares → slice_index_or loops u d ≡ slice_index_or spares u d + slice_index_or rooms u 0 =
    subst (λ xs. (u d : ℕ) → u < length xs → slice_index_or loops u d ≡ slice_index_or xs u d + slice_index_or rooms u 0) c.deref-2.ensures.value c.in_ok-loops.ensures.each in
    let long : length loops ≡ length spares = c.in_ok-loops.ensures.many ∙ ap length c.deref-2.ensures.value in
    record {
      spares = λ u. ap (λ d. slice_index_or spares u d) bound ∙ spares_kept l ranks rooms needs spares loops c.requires.many c.requires.rooms c.requires.needs c.in_ok-spares.ensures.many each u;
      loops = λ u. ap (λ d. slice_index_or loops u d) bound ∙ loops_kept l ranks rooms needs spares loops c.requires.many c.requires.rooms c.requires.needs c.in_ok-spares.ensures.many each sums long u;
    }
