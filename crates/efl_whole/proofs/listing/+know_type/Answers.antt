-- The structures within a shape, and then its own name.
use Rattle.std.proofs.Common.{◌+◌, drop, sym, ap, ◌∙◌}
use Rattle.std.proofs.lemmas.List.{drop_all}
use Rattle.std.proofs.lemmas.Result.{on_ok_weaker}
use Rattle.efl_scope.proofs.TreeLemmas.{shape_is, drop_next}
use Rattle.efl_tree.specs.Views.{groups_of}
use Rattle.efl_whole.specs.Roles.{with_structure_if, behind_type, behind_groups}
use Rattle.efl_whole.specs.RoleViews.{roles_of}
use Rattle.efl_whole.proofs.listing.+know_type.Goals as goal

pub know_type-returns-in_ok-know_groups-in-Shape : goal.know_type-returns-in_ok-know_groups-in-Shape
know_type-returns-in_ok-know_groups-in-Shape t c =
    on_ok_weaker c.know_if_any.result
    (λ e. e ∙ ap (with_structure_if c.in-Shape.name) c.in_ok-know_groups-in-Shape.ensures
    ∙ ap (λ x. behind_type x (roles_of c.args.names.now)) (shape_is c.args.kind.now c.in-Shape.name c.in-Shape.groups c.deref.result.now c.in-Shape.is c.deref.ensures.value))
    c.know_if_any.ensures

pub know_groups-loop-group-preserved : goal.know_groups-loop-group-preserved
know_groups-loop-group-preserved t c =
    let l = c.loop-group in
    let all = c.args.groups.now in
    ap (behind_groups (groups_of (drop (l.group-index + 1) all))) c.in_ok-know_type.ensures
    ∙ sym (ap (λ gs. behind_groups (groups_of gs) (roles_of l.names)) (drop_next all l.group-index c.group-item.result c.loop-group-test.true c.group-item.is))
    ∙ l.invariant

pub know_groups-returns : goal.know_groups-returns
know_groups-returns t c =
    let l = c.loop-group in
    sym (ap (λ gs. behind_groups (groups_of gs) (roles_of l.names)) (drop_all l.group-index c.args.groups.now c.loop-group-test.false)) ∙ l.invariant
