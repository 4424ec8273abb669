-- The labels are the blocks of the unit, and their rows say how many places they have.
use Rattle.std.proofs.Common.{◌≡◌, ℕ, List, Option, length, map, option_map, sym, arith}
use Rattle.std.proofs.lemmas.List.{length-map}
use Rattle.std.specs.HashMap.{get_by}
use Rattle.std.specs.Str.{bytes_eq}
use Rattle.f66_tree.specs.Syntax.{Par}
use Rattle.f66_tree.specs.Views.{par_of, routine_of}
use Rattle.storage_rules.specs.Reach.{AreSeatsOf, AreLabelSizes}
use Rattle.storage_rules.proofs.SizeLemmas.{labels_are, are_sizes}
use Rattle.storage_rules.proofs.blocks.blocks_by_table.Goals as goal

pub sizes_of-requires-clause-inside : goal.sizes_of-requires-clause-inside
sizes_of-requires-clause-inside c =
    let table = c.in_ok-table.table in
    let l = c.in_ok-table.ensures.listed in
    let many = l.2.many in
    let few = l.1.few in
    let rows = l.1.many in
    let seats = c.in_ok-seats.ensures.many in
    let labels : length (map (λ k. k.now) table.labels.items) ≡ length table.labels.items = length-map table.labels.items (λ k. k.now) in
    rw (c.deref-3.ensures.value, c.deref-4.ensures.value) (omega (arith, many, few, rows, seats, labels))

pub sizes_of-requires-clause-classes : goal.sizes_of-requires-clause-classes
sizes_of-requires-clause-classes c =
    let many = c.in_ok-ends.ensures.many in
    let e = c.deref.ensures.value in
    rw (c.deref-4.ensures.value, c.deref-6.ensures.value) (λ a lt. (let i = c.in_ok-seats.ensures.seated.inside a lt in rw (many, e) i))

pub returns-clause-labels : goal.returns-clause-labels
returns-clause-labels c =
    let r = routine_of c.args.unit.now in
    let table = c.in_ok-table.table in
    let find : List ℕ → Option ℕ = λ q. get_by (λ k. bytes_eq q k.now) table.rows in
    let blocks : List ℕ → Option ℕ = λ q. get_by (λ k. bytes_eq q k.now) table.areas in
    let dims : List ℕ → Option (List Par) = λ q. option_map (λ ps. map par_of ps.now) (get_by (λ k. bytes_eq q k.now) table.dims) in
    let l = c.in_ok-table.ensures.listed in
    λ q. labels_are r find blocks dims table.sizes.items table.count l.0 (map (λ k. k.now) table.labels.items) c.requires.ready l.1 l.2 q

pub returns-clause-sizes : goal.returns-clause-sizes
returns-clause-sizes c =
    let r = routine_of c.args.unit.now in
    let table = c.in_ok-table.table in
    let find : List ℕ → Option ℕ = λ q. get_by (λ k. bytes_eq q k.now) table.rows in
    let blocks : List ℕ → Option ℕ = λ q. get_by (λ k. bytes_eq q k.now) table.areas in
    let dims : List ℕ → Option (List Par) = λ q. option_map (λ ps. map par_of ps.now) (get_by (λ k. bytes_eq q k.now) table.dims) in
    let labels = map (λ k. k.now) table.labels.items in
    let sizes = table.sizes.items in
    let seats = c.in_ok-seats.seats.items in
    let l = c.in_ok-table.ensures.listed in
    let s : AreSeatsOf r find blocks dims sizes table.count seats = c.in_ok-seats.ensures in
    let long : length table.labels.items ≡ length labels = sym (length-map table.labels.items (λ k. k.now)) in
    let h : AreLabelSizes seats sizes labels (length labels) (λ q. get_by (λ k. bytes_eq q k.now) c.in_ok-sizes.sizes) =
    rw long at (rw (c.deref-3.ensures.value, c.deref-4.ensures.value, c.deref-5.ensures.value) at c.in_ok-sizes.ensures) in
    are_sizes r find blocks dims sizes table.count l.0 labels c.requires.ready l.1 l.2 seats s (λ q. get_by (λ k. bytes_eq q k.now) c.in_ok-sizes.sizes) h
