-- One name more gives its link.
use Rattle.std.proofs.Common.{◌≡◌, ◌∙◌, ◌+◌, ℕ, List, map, take, ap, arith, rules, slice_index, w64, Option}
use Rattle.std.proofs.lemmas.Int.{to_z-of_z}
use Rattle.std.proofs.lemmas.Grind.{common_steps}
use Rattle.std.specs.HashMap.{get_by}
use Rattle.std.specs.Str.{bytes_eq}
use Rattle.f66_tree.specs.Views.{declared_of}
use Rattle.storage_assoc.proofs.ListLemmas.{linked_more, taken_more}
use Rattle.storage_assoc.proofs.commons.list_links.Goals as goal

pub loop-declared-preserved : goal.loop-declared-preserved
loop-declared-preserved c =
    let v = c.loop-declared.invariant in
    let list = c.args.list.now in
    let i = c.loop-declared.declared-index in
    let e = taken_more declared_of list i c.declared-item.result c.loop-declared-test.true c.declared-item.is in
    let find : List ℕ → Option ℕ = λ q. get_by (λ k. bytes_eq q k.now) c.args.rows.now in
    record {
      linked = rw e (linked_more find c.args.sizes.now c.args.block c.args.start (map declared_of (take i list)) (declared_of c.declared-item.result) _ c.loop-declared.links.items _ c.loop-declared.at _ v.linked
          (rw (c.row_of-row.ensures, to_z-of_z w64 c.in_ok-by.by (search rules) ∙ c.in_ok-by.ensures.0) at c.in_ok-add_link.ensures) (ap (λ r. c.loop-declared.at + slice_index c.args.sizes.now r) c.row_of-row.ensures));
    }

pub returns : goal.returns
returns c =
    let list = c.args.list.now in
    let end : take c.loop-declared.declared-index list ≡ list = grind (arith, common_steps) in
    rw end at c.loop-declared.invariant.linked
