-- The table of the unit serves the walk, the numbers and the fault.
use Rattle.std.proofs.Common.{◌≡◌, ℕ, List, Option, Some, length, map, option_map, arith, inl, inr, rules}
use Rattle.std.specs.HashMap.{get_by}
use Rattle.std.specs.Str.{bytes_eq}
use Rattle.std.proofs.lemmas.List.{length-map}
use Rattle.std.specs.List.{slice_get}
use Rattle.f66_tree.specs.Syntax.{Par}
use Rattle.f66_program.specs.Association.{unit_ties}
use Rattle.offset_classes.specs.Links.{IsBad, IsFirstBad}
use Rattle.storage_assoc.specs.Answers.{NumberRightly, RefuseRightly}
use Rattle.f66_program.specs.Mentions.{context_of}
use Rattle.f66_tree.specs.Views.{par_of, routine_of}
use Rattle.storage_assoc.specs.Tables.{IsTable}
use Rattle.storage_assoc.specs.Walks.{LinesLinked}
use Rattle.storage_assoc.proofs.BridgeLemmas.{bad_links}
use Rattle.storage_assoc.proofs.TableLemmas.{within, some_counts, bad_at_last, indexed, first_bad, associated, number_below, too_many}
use Rattle.storage_assoc.proofs.associating.associate_by.Goals as goal

pub number_units-requires-clause-within : goal.number_units-requires-clause-within
number_units-requires-clause-within c =
    let r = routine_of c.args.unit.now in
    let find : List ℕ → Option ℕ = λ q. get_by (λ k. bytes_eq q k.now) c.args.table.rows in
    let blocks : List ℕ → Option ℕ = λ q. get_by (λ k. bytes_eq q k.now) c.args.table.areas in
    let dims : List ℕ → Option (List Par) = λ q. option_map (λ ps. map par_of ps.now) (get_by (λ k. bytes_eq q k.now) c.args.table.dims) in
    let sizes = c.args.table.sizes.items in
    let count = c.args.table.count in
    let rows = c.requires.0 in
    let index = c.requires.1 in
    let t : IsTable r find blocks dims sizes count rows index = c.requires.2 in
    let links = c.in-Ok.walked.links.items in
    let counts = c.in-Ok.walked.counts.items in
    let fills = c.in-Ok.ensures.0 in
    let linked : LinesLinked find blocks dims sizes r.lines fills links counts = rw (c.deref.ensures.value, c.deref-2.ensures.value) at c.in-Ok.ensures.1 in
    let w = linked 0 (context_of r) rows index t.tabled in
    rw (c.deref-3.ensures.value, c.deref-4.ensures.value) (within r find blocks dims sizes count rows index t fills links counts w)

pub bad_fault-requires-clause-within : goal.bad_fault-requires-clause-within
bad_fault-requires-clause-within c =
    let r = routine_of c.args.unit.now in
    let find : List ℕ → Option ℕ = λ q. get_by (λ k. bytes_eq q k.now) c.args.table.rows in
    let blocks : List ℕ → Option ℕ = λ q. get_by (λ k. bytes_eq q k.now) c.args.table.areas in
    let dims : List ℕ → Option (List Par) = λ q. option_map (λ ps. map par_of ps.now) (get_by (λ k. bytes_eq q k.now) c.args.table.dims) in
    let sizes = c.args.table.sizes.items in
    let count = c.args.table.count in
    let rows = c.requires.0 in
    let index = c.requires.1 in
    let t : IsTable r find blocks dims sizes count rows index = c.requires.2 in
    let links = c.in-Ok.walked.links.items in
    let counts = c.in-Ok.walked.counts.items in
    let fills = c.in-Ok.ensures.0 in
    let linked : LinesLinked find blocks dims sizes r.lines fills links counts = rw (c.deref.ensures.value, c.deref-2.ensures.value) at c.in-Ok.ensures.1 in
    let w = linked 0 (context_of r) rows index t.tabled in
    let e : c.len-in_default-found.result ≡ length sizes = search rules in
    rw (c.deref-in_default-found.ensures.value, e) (within r find blocks dims sizes count rows index t fills links counts w)

pub bad_fault-requires-clause-counts : goal.bad_fault-requires-clause-counts
bad_fault-requires-clause-counts c =
    let r = routine_of c.args.unit.now in
    let find : List ℕ → Option ℕ = λ q. get_by (λ k. bytes_eq q k.now) c.args.table.rows in
    let blocks : List ℕ → Option ℕ = λ q. get_by (λ k. bytes_eq q k.now) c.args.table.areas in
    let dims : List ℕ → Option (List Par) = λ q. option_map (λ ps. map par_of ps.now) (get_by (λ k. bytes_eq q k.now) c.args.table.dims) in
    let sizes = c.args.table.sizes.items in
    let count = c.args.table.count in
    let rows = c.requires.0 in
    let index = c.requires.1 in
    let t : IsTable r find blocks dims sizes count rows index = c.requires.2 in
    let links = c.in-Ok.walked.links.items in
    let counts = c.in-Ok.walked.counts.items in
    let fills = c.in-Ok.ensures.0 in
    let linked : LinesLinked find blocks dims sizes r.lines fills links counts = rw (c.deref.ensures.value, c.deref-2.ensures.value) at c.in-Ok.ensures.1 in
    let w = linked 0 (context_of r) rows index t.tabled in
    rw (c.deref-in_default-found.ensures.value, c.deref-in_default-found-2.ensures.value) w.within

pub bad_fault-requires-clause-rising : goal.bad_fault-requires-clause-rising
bad_fault-requires-clause-rising c =
    let r = routine_of c.args.unit.now in
    let find : List ℕ → Option ℕ = λ q. get_by (λ k. bytes_eq q k.now) c.args.table.rows in
    let blocks : List ℕ → Option ℕ = λ q. get_by (λ k. bytes_eq q k.now) c.args.table.areas in
    let dims : List ℕ → Option (List Par) = λ q. option_map (λ ps. map par_of ps.now) (get_by (λ k. bytes_eq q k.now) c.args.table.dims) in
    let sizes = c.args.table.sizes.items in
    let count = c.args.table.count in
    let rows = c.requires.0 in
    let index = c.requires.1 in
    let t : IsTable r find blocks dims sizes count rows index = c.requires.2 in
    let links = c.in-Ok.walked.links.items in
    let counts = c.in-Ok.walked.counts.items in
    let fills = c.in-Ok.ensures.0 in
    let linked : LinesLinked find blocks dims sizes r.lines fills links counts = rw (c.deref.ensures.value, c.deref-2.ensures.value) at c.in-Ok.ensures.1 in
    let w = linked 0 (context_of r) rows index t.tabled in
    rw c.deref-in_default-found-2.ensures.value w.rising

pub bad_fault-requires-clause-many : goal.bad_fault-requires-clause-many
bad_fault-requires-clause-many c =
    let r = routine_of c.args.unit.now in
    let find : List ℕ → Option ℕ = λ q. get_by (λ k. bytes_eq q k.now) c.args.table.rows in
    let blocks : List ℕ → Option ℕ = λ q. get_by (λ k. bytes_eq q k.now) c.args.table.areas in
    let dims : List ℕ → Option (List Par) = λ q. option_map (λ ps. map par_of ps.now) (get_by (λ k. bytes_eq q k.now) c.args.table.dims) in
    let sizes = c.args.table.sizes.items in
    let count = c.args.table.count in
    let rows = c.requires.0 in
    let index = c.requires.1 in
    let t : IsTable r find blocks dims sizes count rows index = c.requires.2 in
    let links = c.in-Ok.walked.links.items in
    let counts = c.in-Ok.walked.counts.items in
    let fills = c.in-Ok.ensures.0 in
    let linked : LinesLinked find blocks dims sizes r.lines fills links counts = rw (c.deref.ensures.value, c.deref-2.ensures.value) at c.in-Ok.ensures.1 in
    let w = linked 0 (context_of r) rows index t.tabled in
    rw (c.deref-in_default-found-2.ensures.value, c.deref-in_default-found-3.ensures.value) (rw length-map at w.many)

pub bad_fault-requires-clause-some : goal.bad_fault-requires-clause-some
bad_fault-requires-clause-some c =
    let r = routine_of c.args.unit.now in
    let find : List ℕ → Option ℕ = λ q. get_by (λ k. bytes_eq q k.now) c.args.table.rows in
    let blocks : List ℕ → Option ℕ = λ q. get_by (λ k. bytes_eq q k.now) c.args.table.areas in
    let dims : List ℕ → Option (List Par) = λ q. option_map (λ ps. map par_of ps.now) (get_by (λ k. bytes_eq q k.now) c.args.table.dims) in
    let sizes = c.args.table.sizes.items in
    let count = c.args.table.count in
    let rows = c.requires.0 in
    let index = c.requires.1 in
    let t : IsTable r find blocks dims sizes count rows index = c.requires.2 in
    let links = c.in-Ok.walked.links.items in
    let counts = c.in-Ok.walked.counts.items in
    let fills = c.in-Ok.ensures.0 in
    let linked : LinesLinked find blocks dims sizes r.lines fills links counts = rw (c.deref.ensures.value, c.deref-2.ensures.value) at c.in-Ok.ensures.1 in
    let w = linked 0 (context_of r) rows index t.tabled in
    let refuse : RefuseRightly count links = rw (c.in_default-found.is, c.deref-3.ensures.value) at c.in-Ok-number_units.ensures.numbered in
    let bad : IsBad count links = bad_links (unit_ties 0 r) links rows index count (indexed r find blocks dims sizes count rows index t fills links counts w) (refuse (unit_ties 0 r) rows index (indexed r find blocks dims sizes count rows index t fills links counts w)) in
    rw c.deref-in_default-found-2.ensures.value (some_counts r find blocks dims sizes count rows index t fills links counts w bad)

pub bad_fault-requires-clause-bad : goal.bad_fault-requires-clause-bad
bad_fault-requires-clause-bad c =
    let r = routine_of c.args.unit.now in
    let find : List ℕ → Option ℕ = λ q. get_by (λ k. bytes_eq q k.now) c.args.table.rows in
    let blocks : List ℕ → Option ℕ = λ q. get_by (λ k. bytes_eq q k.now) c.args.table.areas in
    let dims : List ℕ → Option (List Par) = λ q. option_map (λ ps. map par_of ps.now) (get_by (λ k. bytes_eq q k.now) c.args.table.dims) in
    let sizes = c.args.table.sizes.items in
    let count = c.args.table.count in
    let rows = c.requires.0 in
    let index = c.requires.1 in
    let t : IsTable r find blocks dims sizes count rows index = c.requires.2 in
    let links = c.in-Ok.walked.links.items in
    let counts = c.in-Ok.walked.counts.items in
    let fills = c.in-Ok.ensures.0 in
    let linked : LinesLinked find blocks dims sizes r.lines fills links counts = rw (c.deref.ensures.value, c.deref-2.ensures.value) at c.in-Ok.ensures.1 in
    let w = linked 0 (context_of r) rows index t.tabled in
    let refuse : RefuseRightly count links = rw (c.in_default-found.is, c.deref-3.ensures.value) at c.in-Ok-number_units.ensures.numbered in
    let bad : IsBad count links = bad_links (unit_ties 0 r) links rows index count (indexed r find blocks dims sizes count rows index t fills links counts w) (refuse (unit_ties 0 r) rows index (indexed r find blocks dims sizes count rows index t fills links counts w)) in
    rw (c.deref-in_default-found.ensures.value, c.deref-in_default-found-2.ensures.value) (bad_at_last r find blocks dims sizes count rows index t fills links counts w bad)

pub returns-in_default-found-clause-refused : goal.returns-in_default-found-clause-refused
returns-in_default-found-clause-refused c =
    let r = routine_of c.args.unit.now in
    let find : List ℕ → Option ℕ = λ q. get_by (λ k. bytes_eq q k.now) c.args.table.rows in
    let blocks : List ℕ → Option ℕ = λ q. get_by (λ k. bytes_eq q k.now) c.args.table.areas in
    let dims : List ℕ → Option (List Par) = λ q. option_map (λ ps. map par_of ps.now) (get_by (λ k. bytes_eq q k.now) c.args.table.dims) in
    let sizes = c.args.table.sizes.items in
    let count = c.args.table.count in
    let rows = c.requires.0 in
    let index = c.requires.1 in
    let t : IsTable r find blocks dims sizes count rows index = c.requires.2 in
    let links = c.in-Ok.walked.links.items in
    let counts = c.in-Ok.walked.counts.items in
    let fills = c.in-Ok.ensures.0 in
    let linked : LinesLinked find blocks dims sizes r.lines fills links counts = rw (c.deref.ensures.value, c.deref-2.ensures.value) at c.in-Ok.ensures.1 in
    let w = linked 0 (context_of r) rows index t.tabled in
    let fault = c.in-Ok-bad_fault.fault in
    let s : (step : ℕ) × IsFirstBad count links counts step × (option_map (λ s. s.place) (slice_get r.lines step) ≡ Some fault.place) =
    rw (c.deref-in_default-found.ensures.value, c.deref-in_default-found-2.ensures.value, c.deref-in_default-found-3.ensures.value) at c.in-Ok-bad_fault.ensures.step in
    inl (record { kind = c.in-Ok-bad_fault.ensures.kind.0; number = c.in-Ok-bad_fault.ensures.kind.1; line = s.0; first = first_bad r find blocks dims sizes count rows index t fills links counts w s.0 s.1; place = s.2 })

pub returns-then-numbers-gt-MOST-clause-refused : goal.returns-then-numbers-gt-MOST-clause-refused
returns-then-numbers-gt-MOST-clause-refused c =
    let r = routine_of c.args.unit.now in
    let find : List ℕ → Option ℕ = λ q. get_by (λ k. bytes_eq q k.now) c.args.table.rows in
    let blocks : List ℕ → Option ℕ = λ q. get_by (λ k. bytes_eq q k.now) c.args.table.areas in
    let dims : List ℕ → Option (List Par) = λ q. option_map (λ ps. map par_of ps.now) (get_by (λ k. bytes_eq q k.now) c.args.table.dims) in
    let sizes = c.args.table.sizes.items in
    let count = c.args.table.count in
    let rows = c.requires.0 in
    let index = c.requires.1 in
    let t : IsTable r find blocks dims sizes count rows index = c.requires.2 in
    let links = c.in-Ok.walked.links.items in
    let counts = c.in-Ok.walked.counts.items in
    let fills = c.in-Ok.ensures.0 in
    let linked : LinesLinked find blocks dims sizes r.lines fills links counts = rw (c.deref.ensures.value, c.deref-2.ensures.value) at c.in-Ok.ensures.1 in
    let w = linked 0 (context_of r) rows index t.tabled in
    let firsts = c.in-Some.numbers.firsts.items in
    let total = c.in-Some.numbers.total in
    let n : NumberRightly count links sizes firsts total = rw (c.in-Some.is, c.deref-3.ensures.value, c.deref-4.ensures.value) at c.in-Ok-number_units.ensures.numbered in
    inr (too_many r find blocks dims sizes count rows index t fills links counts w firsts total n c.limit_fault.result c.limit_fault.ensures.kind.0 c.limit_fault.ensures.kind.1 c.limit_fault.ensures.place c.if-numbers-gt-MOST.true)

pub returns-clause-associated : goal.returns-clause-associated
returns-clause-associated c =
    let r = routine_of c.args.unit.now in
    let find : List ℕ → Option ℕ = λ q. get_by (λ k. bytes_eq q k.now) c.args.table.rows in
    let blocks : List ℕ → Option ℕ = λ q. get_by (λ k. bytes_eq q k.now) c.args.table.areas in
    let dims : List ℕ → Option (List Par) = λ q. option_map (λ ps. map par_of ps.now) (get_by (λ k. bytes_eq q k.now) c.args.table.dims) in
    let sizes = c.args.table.sizes.items in
    let count = c.args.table.count in
    let rows = c.requires.0 in
    let index = c.requires.1 in
    let t : IsTable r find blocks dims sizes count rows index = c.requires.2 in
    let links = c.in-Ok.walked.links.items in
    let counts = c.in-Ok.walked.counts.items in
    let fills = c.in-Ok.ensures.0 in
    let linked : LinesLinked find blocks dims sizes r.lines fills links counts = rw (c.deref.ensures.value, c.deref-2.ensures.value) at c.in-Ok.ensures.1 in
    let w = linked 0 (context_of r) rows index t.tabled in
    let firsts = c.in-Some.numbers.firsts.items in
    let total = c.in-Some.numbers.total in
    let n : NumberRightly count links sizes firsts total = rw (c.in-Some.is, c.deref-3.ensures.value, c.deref-4.ensures.value) at c.in-Ok-number_units.ensures.numbered in
    associated r find blocks dims sizes count rows index t fills links counts w firsts total n (let q = c.if-numbers-gt-MOST.false in omega (arith, q))

pub invariant_of-result : goal.invariant_of-result
invariant_of-result c =
    let r = routine_of c.args.unit.now in
    let find : List ℕ → Option ℕ = λ q. get_by (λ k. bytes_eq q k.now) c.args.table.rows in
    let blocks : List ℕ → Option ℕ = λ q. get_by (λ k. bytes_eq q k.now) c.args.table.areas in
    let dims : List ℕ → Option (List Par) = λ q. option_map (λ ps. map par_of ps.now) (get_by (λ k. bytes_eq q k.now) c.args.table.dims) in
    let sizes = c.args.table.sizes.items in
    let count = c.args.table.count in
    let rows = c.requires.0 in
    let index = c.requires.1 in
    let t : IsTable r find blocks dims sizes count rows index = c.requires.2 in
    let links = c.in-Ok.walked.links.items in
    let counts = c.in-Ok.walked.counts.items in
    let fills = c.in-Ok.ensures.0 in
    let linked : LinesLinked find blocks dims sizes r.lines fills links counts = rw (c.deref.ensures.value, c.deref-2.ensures.value) at c.in-Ok.ensures.1 in
    let w = linked 0 (context_of r) rows index t.tabled in
    let firsts = c.in-Some.numbers.firsts.items in
    let total = c.in-Some.numbers.total in
    let n : NumberRightly count links sizes firsts total = rw (c.in-Some.is, c.deref-3.ensures.value, c.deref-4.ensures.value) at c.in-Ok-number_units.ensures.numbered in
    let is = associated r find blocks dims sizes count rows index t fills links counts w firsts total n (let q = c.if-numbers-gt-MOST.false in omega (arith, q)) in
    let many : length firsts ≡ length sizes = rw (c.in-Some.is, c.deref-4.ensures.value) at c.in-Ok-number_units.ensures.many in
    record {
      inside = λ x i e. (let f = (t.sized.finds 0 x i e).0 in let m = t.sized.many in (omega (arith, f, m), omega (arith, f, m, many)));
      fits = λ x i o e o_in. (let l = number_below r find sizes firsts total is x i o e o_in in omega (arith, l));
    }
