-- The rows and links of one unit more.
use Rattle.std.proofs.Common.{ℕ, List, Option, map, option_map}
use Rattle.std.specs.HashMap.{get_by}
use Rattle.std.specs.Str.{bytes_eq}
use Rattle.f66_tree.specs.Syntax.{Par}
use Rattle.f66_tree.specs.Views.{par_of, routine_of}
use Rattle.program_storage.specs.Whole.{AreUnitLinks}
use Rattle.program_storage.proofs.PartLemmas.{part_more}
use Rattle.program_storage.proofs.gathering.add_unit.Goals as goal

pub returns-clause-added : goal.returns-clause-added
returns-clause-added c = λ rs count part.
    let r = routine_of c.args.unit.now in
    let table = c.in_ok-table.table in
    let all : List ℕ → Option ℕ = λ q. get_by (λ k. bytes_eq q k.now) c.args.blocks.now in
    let find : List ℕ → Option ℕ = λ q. get_by (λ k. bytes_eq q k.now) table.rows in
    let blocks : List ℕ → Option ℕ = λ q. get_by (λ k. bytes_eq q k.now) table.areas in
    let dims : List ℕ → Option (List Par) = λ q. option_map (λ ps. map par_of ps.now) (get_by (λ k. bytes_eq q k.now) table.dims) in
    let listed = c.in_ok-table.ensures.listed in
    let links : AreUnitLinks find blocks dims table.sizes.items r.lines c.in_ok-whole.whole.items c.args.all.now.links.items c.add_unit_links.new.links.items =
    rw c.deref.ensures.value at c.in_ok-add_unit_links.ensures in
    part_more rs all count c.args.all.now _ part r blocks dims table.sizes.items table.count listed.0 (map (λ q. q.now) table.labels.items) c.requires.ready
    _ listed.1 listed.2 c.in_ok-whole.ensures.whole c.requires.named links c.in_ok-push.ensures.items c.in_ok-whole.ensures.sizes
