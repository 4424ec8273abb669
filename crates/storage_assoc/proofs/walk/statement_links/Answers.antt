-- The links of COMMON and of EQUIVALENCE are the ties of the statement.
use Rattle.std.proofs.Common.{ℕ, List, Option, map, option_map}
use Rattle.std.proofs.lemmas.Result.{on_ok_weaker}
use Rattle.std.specs.HashMap.{get_by}
use Rattle.std.specs.Str.{bytes_eq}
use Rattle.f66_tree.specs.Syntax as forms
use Rattle.f66_tree.specs.Views.{area_of, formula_of, par_of}
use Rattle.storage_assoc.proofs.WalkLemmas.{commons_act, groups_act}
use Rattle.storage_assoc.proofs.walk.statement_links.Goals as goal

pub returns-in-Common-clause-linked : goal.returns-in-Common-clause-linked
returns-in-Common-clause-linked c =
    let find : List ℕ → Option ℕ = λ q. get_by (λ k. bytes_eq q k.now) c.args.rows.now in
    let blocks : List ℕ → Option ℕ = λ q. get_by (λ k. bytes_eq q k.now) c.args.blocks.now in
    let dims : List ℕ → Option (List forms.Par) = λ q. option_map (λ ps. map par_of ps.now) (get_by (λ k. bytes_eq q k.now) c.args.dims.now) in
    rw c.in-Common.is (on_ok_weaker c.area_links.result (commons_act find blocks dims c.args.sizes.now (map area_of c.in-Common.areas.items) _ _ _ _) (rw c.deref.ensures.value at c.area_links.ensures.linked))

pub returns-in-Equivalence-clause-linked : goal.returns-in-Equivalence-clause-linked
returns-in-Equivalence-clause-linked c =
    let find : List ℕ → Option ℕ = λ q. get_by (λ k. bytes_eq q k.now) c.args.rows.now in
    let blocks : List ℕ → Option ℕ = λ q. get_by (λ k. bytes_eq q k.now) c.args.blocks.now in
    let dims : List ℕ → Option (List forms.Par) = λ q. option_map (λ ps. map par_of ps.now) (get_by (λ k. bytes_eq q k.now) c.args.dims.now) in
    rw c.in-Equivalence.is (on_ok_weaker c.all_links.result (groups_act find blocks dims c.args.sizes.now (map (λ group. map formula_of group.items) c.in-Equivalence.groups.items) _ _ _)
    (rw c.deref-in-Equivalence.ensures.value at c.all_links.ensures))
