-- One member more is linked to the first.
use Rattle.std.proofs.Common.{◌≡◌, ℕ, List, Option, map, take, option_map, arith}
use Rattle.std.proofs.lemmas.Grind.{common_steps}
use Rattle.std.specs.HashMap.{get_by}
use Rattle.std.specs.Str.{bytes_eq}
use Rattle.f66_tree.specs.Syntax as forms
use Rattle.f66_tree.specs.Views.{formula_of, par_of}
use Rattle.storage_assoc.proofs.GroupLemmas.{no_more, first_one, one_more, group_done}
use Rattle.storage_assoc.proofs.ListLemmas.{taken_more}
use Rattle.storage_assoc.proofs.equivalences.group_links.Goals.{in-Some+in-Some-first+in_ok-tie_places-in-Some-first, in-Some+in-None, in_default}
use Rattle.storage_assoc.proofs.equivalences.group_links.Goals as goal

pub loop-e-preserved : goal.loop-e-preserved
loop-e-preserved c =
    let find : List ℕ → Option ℕ = λ q. get_by (λ k. bytes_eq q k.now) c.args.rows.now in
    let dims : List ℕ → Option (List forms.Par) = λ q. option_map (λ ps. map par_of ps.now) (get_by (λ k. bytes_eq q k.now) c.args.dims.now) in
    let group = c.args.group.now in
    let i = c.loop-e.e-index in
    let e = taken_more formula_of group i c.e-item.result c.loop-e-test.true c.e-item.is in
    let es = map formula_of (take i group) in
    let m = c.in_ok-member.ensures in
    rw e (elim c.match-branch-2.branch [
      | in-Some+in-Some-first+in_ok-tie_places-in-Some-first w ↦ rw (w.links-is, w.first-is) (let v = rw w.in-Some-first.is at c.loop-e.invariant in
          rw w.in-Some-first.is (one_more find dims es (formula_of c.e-item.result) w.in-Some-first.one w.in-Some.member _ c.loop-e.links.items _ v (rw w.in-Some.is at m) w.in_ok-tie_places-in-Some-first.ensures))
      | in-Some+in-None w ↦ rw (w.links-is, w.first-is) (first_one find dims es (formula_of c.e-item.result) w.in-Some.member _ _ (rw w.in-None.is at c.loop-e.invariant) (rw w.in-Some.is at m))
      | in_default w ↦ rw (w.links-is, w.first-is) (no_more find dims es (formula_of c.e-item.result) c.loop-e.first _ _ c.loop-e.invariant (rw w.in_default.is at m))
    ])

pub returns : goal.returns
returns c =
    let find : List ℕ → Option ℕ = λ q. get_by (λ k. bytes_eq q k.now) c.args.rows.now in
    let dims : List ℕ → Option (List forms.Par) = λ q. option_map (λ ps. map par_of ps.now) (get_by (λ k. bytes_eq q k.now) c.args.dims.now) in
    let end : take c.loop-e.e-index c.args.group.now ≡ c.args.group.now = grind (arith, common_steps) in
    group_done find dims (map formula_of c.args.group.now) c.loop-e.first _ c.loop-e.links.items (rw end at c.loop-e.invariant)
