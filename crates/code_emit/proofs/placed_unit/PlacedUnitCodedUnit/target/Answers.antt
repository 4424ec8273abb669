-- The statement with the label, or the unit's end.
use Rattle.std.proofs.Common.{rules, ◌≡◌, ◌∙◌, ap, sym, arith, nat_eq, Some, None}
use Rattle.std.specs.HashMap.{get}
use Rattle.code_gen.specs.Statements.{place_of}
use Rattle.code_emit.proofs.PlaceLemmas.{place_end, some_size}
use Rattle.code_emit.proofs.TurnLemmas.{number_found, number_none}
use Rattle.code_emit.proofs.placed_unit.PlacedUnitCodedUnit.target.Goals as goal

pub overflow_sub-result : goal.overflow_sub-result
overflow_sub-result g c =
    let s = c.args.self.now in
    let some = some_size (g.N.NamedUnit.layout s.named.now) (g.N.NamedUnit.number s.named.now) in
    let size = s.sized in
    omega arith

pub returns-in-Some : goal.returns-in-Some
returns-in-Some g c =
    let s = c.args.self.now in
    let y = g.N.NamedUnit.layout s.named.now in
    let u = g.N.NamedUnit.number s.named.now in
    let l = c.args.label in
    let found : get nat_eq s.labels.numbers l ≡ Some c.in-Some.number.now = search rules in
    c.place.ensures ∙ ap (place_of y u) (sym (number_found l (y.lines u) (get nat_eq s.labels.numbers l) c.in-Some.number.now found (s.numbered l)))

pub returns-in-None : goal.returns-in-None
returns-in-None g c =
    let s = c.args.self.now in
    let y = g.N.NamedUnit.layout s.named.now in
    let u = g.N.NamedUnit.number s.named.now in
    let l = c.args.label in
    let found : get nat_eq s.labels.numbers l ≡ None = search rules in
    place_end y u s.entry s.places.size s.entered s.sized ∙ ap (place_of y u) (sym (number_none l (y.lines u) (get nat_eq s.labels.numbers l) found (s.numbered l)))
