-- A statement's code begins behind the entry, within the unit's code.
use Rattle.std.proofs.Common.{◌≡◌, ◌+◌, ◌∙◌, ap, sym, arith, slice_get, Some, None, option_copied}
use Rattle.rule_table.proofs.WordLemmas.{got_at}
use Rattle.code_emit.specs.Places.{starts}
use Rattle.code_emit.proofs.PlaceLemmas.{place_by, place_behind, place_end, some_size, start_within}
use Rattle.code_emit.proofs.placed_unit.PlacedUnitCodedUnit.place.Goals as goal

pub overflow_add-result : goal.overflow_add-result
overflow_add-result g c =
    let s = c.args.self.now in
    let y = g.N.NamedUnit.layout s.named.now in
    let u = g.N.NamedUnit.number s.named.now in
    let n = c.args.statement in
    let found : slice_get (starts y u) n ≡ Some c.in-Some.start.now =
    ap (λ xs. slice_get xs n) (sym (c.deref.ensures.value ∙ s.placed)) ∙ sym (got_at c.deref.result.now n c.get.result c.get.ensures.lookup) ∙ ap option_copied c.in-Some.is in
    let within = start_within y u n c.in-Some.start.now found in
    let size = s.sized in
    let fits = s.fits in
    omega arith

pub overflow_sub-result : goal.overflow_sub-result
overflow_sub-result g c =
    let s = c.args.self.now in
    let some = some_size (g.N.NamedUnit.layout s.named.now) (g.N.NamedUnit.number s.named.now) in
    let size = s.sized in
    omega arith

pub returns-in-Some : goal.returns-in-Some
returns-in-Some g c =
    let s = c.args.self.now in
    let y = g.N.NamedUnit.layout s.named.now in
    let u = g.N.NamedUnit.number s.named.now in
    let n = c.args.statement in
    let o = c.in-Some.start.now in
    let found : slice_get (starts y u) n ≡ Some o =
    ap (λ xs. slice_get xs n) (sym (c.deref.ensures.value ∙ s.placed)) ∙ sym (got_at c.deref.result.now n c.get.result c.get.ensures.lookup) ∙ ap option_copied c.in-Some.is in
    ap (λ e. e + o) s.entered ∙ place_by y u n o found

pub returns-in-None : goal.returns-in-None
returns-in-None g c =
    let s = c.args.self.now in
    let y = g.N.NamedUnit.layout s.named.now in
    let u = g.N.NamedUnit.number s.named.now in
    let n = c.args.statement in
    let found : slice_get (starts y u) n ≡ None =
    ap (λ xs. slice_get xs n) (sym (c.deref.ensures.value ∙ s.placed)) ∙ sym (got_at c.deref.result.now n c.get.result c.get.ensures.lookup) ∙ ap option_copied c.in-None.is in
    place_end y u s.entry s.places.size s.entered s.sized ∙ place_behind y u n found
