-- One group more gives its links.
use Rattle.std.proofs.Common.{◌≡◌, ℕ, List, Option, map, take, option_map, arith}
use Rattle.std.proofs.lemmas.Grind.{common_steps}
use Rattle.std.specs.HashMap.{get_by}
use Rattle.std.specs.Str.{bytes_eq}
use Rattle.f66_tree.specs.Syntax as forms
use Rattle.f66_tree.specs.Views.{formula_of, par_of}
use Rattle.storage_assoc.proofs.GroupLemmas.{groups_more}
use Rattle.storage_assoc.proofs.ListLemmas.{taken_more}
use Rattle.storage_assoc.proofs.equivalences.all_links.Goals as goal

pub loop-group-preserved : goal.loop-group-preserved
loop-group-preserved c =
    let find : List ℕ → Option ℕ = λ q. get_by (λ k. bytes_eq q k.now) c.args.rows.now in
    let dims : List ℕ → Option (List forms.Par) = λ q. option_map (λ ps. map par_of ps.now) (get_by (λ k. bytes_eq q k.now) c.args.dims.now) in
    let groups = c.args.groups.now in
    let i = c.loop-group.group-index in
    let e = taken_more (λ group. map formula_of group.items) groups i c.group-item.result c.loop-group-test.true c.group-item.is in
    rw e (groups_more find dims (map (λ group. map formula_of group.items) (take i groups)) (map formula_of c.group-item.result.items) _ c.loop-group.links.items _ c.loop-group.invariant
    (rw c.deref.ensures.value at c.in_ok-group_links.ensures))

pub returns : goal.returns
returns c =
    let end : take c.loop-group.group-index c.args.groups.now ≡ c.args.groups.now = grind (arith, common_steps) in
    rw end at c.loop-group.invariant
