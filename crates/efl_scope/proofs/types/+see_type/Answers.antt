-- The groups of a shape, and then its name; and one group more.
use Rattle.std.proofs.Common.{◌+◌, drop, sym, ap, ◌∙◌}
use Rattle.std.proofs.lemmas.Result.{on_ok_weaker}
use Rattle.efl_tree.specs.Views.{type_of, vars_of, groups_of}
use Rattle.efl_scope.specs.Sights.{knowing_in, type_seen, members_seen}
use Rattle.efl_scope.specs.NameViews.{names_in, declared_of}
use Rattle.efl_scope.specs.BlockViews.{known_of}
use Rattle.efl_scope.specs.WalkViews.{walk_of, sight_of}
use Rattle.efl_scope.proofs.TreeLemmas.{shape_is, drop_next, group_passed}
use Rattle.efl_scope.proofs.types.+see_type.Goals as goal

pub see_type-returns-in_ok-see_members-in-Shape : goal.see_type-returns-in_ok-see_members-in-Shape
see_type-returns-in_ok-see_members-in-Shape t c =
    let out = known_of c.args.outside.now in
    on_ok_weaker c.know_if_any.result
    (λ e. ap (λ known. record { known = known; walk = walk_of c.see_members.new.walk }) (e out) ∙ ap (knowing_in c.args.kept c.in-Shape.name) c.in_ok-see_members-in-Shape.ensures
    ∙ ap (λ x. type_seen c.args.kept x (sight_of c.args.kinds.now c.args.outside.now c.args.walk.now))
    (shape_is c.args.kind.now c.in-Shape.name c.in-Shape.groups c.deref.result.now c.in-Shape.is c.deref.ensures.value))
    c.know_if_any.ensures

pub see_members-loop-group-preserved : goal.see_members-loop-group-preserved
see_members-loop-group-preserved t c =
    let l = c.loop-group in
    let g = c.group-item.result in
    let rest = groups_of (drop (l.group-index + 1) c.args.groups.now) in
    let s = sight_of l.kinds c.args.outside.now l.walk in
    group_passed c.args.kept (type_of g.kind) (vars_of g.variables.items) g.place rest s (sight_of l.kinds c.args.outside.now c.note_group.new.walk)
    (sight_of c.see_type.new.kinds c.args.outside.now c.see_type.new.walk) (names_in l.declared.names) (declared_of c.note_group.new.declared)
    c.in_ok-note_group.ensures.names (ap (λ w. record { known = s.known; walk = w }) c.in_ok-note_group.ensures.part) c.in_ok-see_type.ensures
    ∙ sym (ap (λ gs. members_seen c.args.kept (names_in l.declared.names) (groups_of gs) s) (drop_next c.args.groups.now l.group-index g c.loop-group-test.true c.group-item.is))
    ∙ l.invariant
