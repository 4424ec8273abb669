-- The links of the unit lie within its rows.
use Rattle.std.proofs.Common.{ℕ, List, Option, map, option_map}
use Rattle.std.specs.HashMap.{get_by}
use Rattle.std.specs.Str.{bytes_eq}
use Rattle.f66_tree.specs.Syntax.{Par}
use Rattle.f66_tree.specs.Views.{par_of, routine_of}
use Rattle.f66_program.specs.Mentions.{context_of}
use Rattle.storage_assoc.specs.Tables.{IsTable}
use Rattle.storage_assoc.specs.Walks.{LinesLinked}
use Rattle.storage_assoc.proofs.TableLemmas.{within}
use Rattle.program_storage.proofs.unit_links.add_unit_links.Goals as goal

pub add_links-requires : goal.add_links-requires
add_links-requires c =
    let r = routine_of c.args.unit.now in
    let table = c.args.table.now in
    let find : List ℕ → Option ℕ = λ q. get_by (λ k. bytes_eq q k.now) table.rows in
    let blocks : List ℕ → Option ℕ = λ q. get_by (λ k. bytes_eq q k.now) table.areas in
    let dims : List ℕ → Option (List Par) = λ q. option_map (λ ps. map par_of ps.now) (get_by (λ k. bytes_eq q k.now) table.dims) in
    let sizes = table.sizes.items in
    let rows = c.requires.table.0 in
    let index = c.requires.table.1 in
    let t : IsTable r find blocks dims sizes table.count rows index = c.requires.table.2 in
    let links = c.in_ok-walked.walked.links.items in
    let counts = c.in_ok-walked.walked.counts.items in
    let fills = c.in_ok-walked.ensures.0 in
    let linked : LinesLinked find blocks dims sizes r.lines fills links counts = rw (c.deref.ensures.value, c.deref-2.ensures.value) at c.in_ok-walked.ensures.1 in
    let w = linked 0 (context_of r) rows index t.tabled in
    rw (c.deref-3.ensures.value, c.requires.many) (within r find blocks dims sizes table.count rows index t fills links counts w)

pub returns : goal.returns
returns c =
    let r = routine_of c.args.unit.now in
    let table = c.args.table.now in
    let find : List ℕ → Option ℕ = λ q. get_by (λ k. bytes_eq q k.now) table.rows in
    let blocks : List ℕ → Option ℕ = λ q. get_by (λ k. bytes_eq q k.now) table.areas in
    let dims : List ℕ → Option (List Par) = λ q. option_map (λ ps. map par_of ps.now) (get_by (λ k. bytes_eq q k.now) table.dims) in
    let linked : LinesLinked find blocks dims table.sizes.items r.lines c.in_ok-walked.ensures.0 c.in_ok-walked.walked.links.items c.in_ok-walked.walked.counts.items =
    rw (c.deref.ensures.value, c.deref-2.ensures.value) at c.in_ok-walked.ensures.1 in
    record {
      links = c.in_ok-walked.walked.links.items;
      fills = c.in_ok-walked.ensures.0;
      counts = c.in_ok-walked.walked.counts.items;
      linked = linked;
      added = rw c.deref-3.ensures.value at c.in_ok-add_links.ensures;
    }
