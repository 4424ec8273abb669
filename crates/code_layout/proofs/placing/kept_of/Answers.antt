-- Each unit has its rooms, and what is no unit has none.
use Rattle.std.proofs.Common.{◌<◌, ◌∙◌, slice_index_or, sym, ap, subst}
use Rattle.code_layout.proofs.KeptLemmas.{rooms_all, needs_all}
use Rattle.code_layout.proofs.placing.kept_of.Goals as goal

pub kept_by-requires-clause-rooms : goal.kept_by-requires-clause-rooms
kept_by-requires-clause-rooms c =
    let t = c.args.tables.now in
    let l = t.linked.now in
    let rooms = c.in_ok-rooms in
    λ u. ap (λ xs. slice_index_or xs u 0) c.deref.ensures.value
    ∙ rooms_all l rooms.rooms.items (rooms.ensures.many ∙ t.many) (λ v d lt. rooms.ensures.each v d (subst (λ n. v < n) (sym t.many) lt)) u

pub kept_by-requires-clause-needs : goal.kept_by-requires-clause-needs
kept_by-requires-clause-needs c =
    let t = c.args.tables.now in
    let l = t.linked.now in
    let needs = c.in_ok-needs in
    λ u. ap (λ xs. slice_index_or xs u 0) c.deref-2.ensures.value
    ∙ needs_all l needs.needs.items (needs.ensures.many ∙ t.many) (λ v d lt. needs.ensures.each v d (subst (λ n. v < n) (sym t.many) lt)) u
