-- The links are those of the unit's ties, and never clash.
use Rattle.std.proofs.Common.{◌≡◌, ℕ, List, Option, length, map, option_map, ◌∙◌, arith}
use Rattle.std.specs.HashMap.{get_by}
use Rattle.std.specs.Str.{bytes_eq}
use Rattle.std.specs.List.{All}
use Rattle.f66_tree.specs.Syntax.{Par}
use Rattle.f66_tree.specs.Views.{par_of, routine_of}
use Rattle.f66_program.specs.Association.{unit_ties}
use Rattle.f66_program.specs.Mentions.{context_of}
use Rattle.offset_classes.specs.Links.{AreSeated, IsClash, IsWithin, clashes}
use Rattle.storage_assoc.specs.Tables.{IsTable}
use Rattle.storage_assoc.specs.Walks.{LinesLinked}
use Rattle.storage_assoc.proofs.BridgeLemmas.{bad_ties}
use Rattle.storage_assoc.proofs.TableLemmas.{indexed, within}
use Rattle.storage_rules.proofs.blocks.seats_of.Goals as goal

pub seats_by-requires-clause-within : goal.seats_by-requires-clause-within
seats_by-requires-clause-within c =
    let r = routine_of c.args.unit.now in
    let find : List ℕ → Option ℕ = λ q. get_by (λ k. bytes_eq q k.now) c.args.table.now.rows in
    let blocks : List ℕ → Option ℕ = λ q. get_by (λ k. bytes_eq q k.now) c.args.table.now.areas in
    let dims : List ℕ → Option (List Par) = λ q. option_map (λ ps. map par_of ps.now) (get_by (λ k. bytes_eq q k.now) c.args.table.now.dims) in
    let sizes = c.args.table.now.sizes.items in
    let count = c.args.table.now.count in
    let rows = c.requires.table.0 in
    let index = c.requires.table.1 in
    let t : IsTable r find blocks dims sizes count rows index = c.requires.table.2 in
    let links = c.in_ok-walked.walked.links.items in
    let counts = c.in_ok-walked.walked.counts.items in
    let fills = c.in_ok-walked.ensures.0 in
    let linked : LinesLinked find blocks dims sizes r.lines fills links counts = rw (c.deref.ensures.value, c.deref-2.ensures.value) at c.in_ok-walked.ensures.1 in
    let n : c.len-2.result ≡ length sizes = grind arith in
    let all : All (IsWithin (length sizes)) links = within r find blocks dims sizes count rows index t fills links counts (linked 0 (context_of r) rows index t.tabled) in
    rw (c.deref-3.ensures.value, n) all

pub unreachable-requires : goal.unreachable-requires
unreachable-requires c =
    let r = routine_of c.args.unit.now in
    let find : List ℕ → Option ℕ = λ q. get_by (λ k. bytes_eq q k.now) c.args.table.now.rows in
    let blocks : List ℕ → Option ℕ = λ q. get_by (λ k. bytes_eq q k.now) c.args.table.now.areas in
    let dims : List ℕ → Option (List Par) = λ q. option_map (λ ps. map par_of ps.now) (get_by (λ k. bytes_eq q k.now) c.args.table.now.dims) in
    let sizes = c.args.table.now.sizes.items in
    let count = c.args.table.now.count in
    let rows = c.requires.table.0 in
    let index = c.requires.table.1 in
    let t : IsTable r find blocks dims sizes count rows index = c.requires.table.2 in
    let links = c.in_ok-walked.walked.links.items in
    let counts = c.in_ok-walked.walked.counts.items in
    let fills = c.in_ok-walked.ensures.0 in
    let linked : LinesLinked find blocks dims sizes r.lines fills links counts = rw (c.deref.ensures.value, c.deref-2.ensures.value) at c.in_ok-walked.ensures.1 in
    let clash : IsClash links = rw (c.in_default.is, c.deref-3.ensures.value) at c.in_ok-seats.ensures in
    c.requires.well (bad_ties (unit_ties 0 r) links rows index count (indexed r find blocks dims sizes count rows index t fills links counts (linked 0 (context_of r) rows index t.tabled)) (clashes clash))

pub returns : goal.returns
returns c =
    let r = routine_of c.args.unit.now in
    let find : List ℕ → Option ℕ = λ q. get_by (λ k. bytes_eq q k.now) c.args.table.now.rows in
    let blocks : List ℕ → Option ℕ = λ q. get_by (λ k. bytes_eq q k.now) c.args.table.now.areas in
    let dims : List ℕ → Option (List Par) = λ q. option_map (λ ps. map par_of ps.now) (get_by (λ k. bytes_eq q k.now) c.args.table.now.dims) in
    let sizes = c.args.table.now.sizes.items in
    let count = c.args.table.now.count in
    let links = c.in_ok-walked.walked.links.items in
    let counts = c.in_ok-walked.walked.counts.items in
    let fills = c.in_ok-walked.ensures.0 in
    let linked : LinesLinked find blocks dims sizes r.lines fills links counts = rw (c.deref.ensures.value, c.deref-2.ensures.value) at c.in_ok-walked.ensures.1 in
    let n : c.len-2.result ≡ length sizes = grind arith in
    let v : (length c.in-Some.seats.items ≡ c.len-2.result) × AreSeated links c.in-Some.seats.items = rw (c.in-Some.is, c.deref-3.ensures.value) at c.in_ok-seats.ensures in
    record {
      many = v.0 ∙ n;
      links = links;
      seated = v.1;
      indexed = λ rows index t. indexed r find blocks dims sizes count rows index t fills links counts (linked 0 (context_of r) rows index t.tabled);
    }
