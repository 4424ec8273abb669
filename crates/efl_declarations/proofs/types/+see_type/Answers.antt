-- Types, and one group more.
use Rattle.std.proofs.Common.{◌+◌, [], drop, subst, sym}
use Rattle.std.proofs.lemmas.List.{drop_all}
use Rattle.efl_tree.specs.Views.{type_of, vars_of, groups_of}
use Rattle.efl_scope.proofs.TreeLemmas.{drop_next, shape_is}
use Rattle.efl_blocks.specs.Made.{TakesMembers}
use Rattle.efl_blocks.proofs.ShapeLemmas.{GroupsLeft, groups_begun, group_passed, groups_ended}
use Rattle.efl_declarations.specs.Sees.{SeesType, SeesSizes}
use Rattle.efl_declarations.proofs.SeenLemmas.{FaultsLeft, shape_seen, list_seen, made_later, list_later, faults_begun, fault_passed, faults_told}
use Rattle.efl_declarations.proofs.types.+see_type.Goals as goal

pub see_type-returns-in_ok-know_if_any-in-Shape : goal.see_type-returns-in_ok-know_if_any-in-Shape
see_type-returns-in_ok-know_if_any-in-Shape t c =
    let y = c.args.types.now in
    let z = c.see_structure.new.types in
    let block = c.args.block.now in
    let beyond = c.args.beyond.now in
    let s = c.in_ok-seen-in-Shape.seen in
    subst (λ x. SeesType y block beyond x z c.know_if_any.new.block s) (shape_is c.args.kind.now c.in-Shape.name c.in-Shape.groups c.deref.result.now c.in-Shape.is c.deref.ensures.value)
    (shape_seen y z block c.see_structure.new.block c.know_if_any.new.block beyond c.in-Shape.name (groups_of c.deref.result.now) s c.in_ok-seen-in-Shape.ensures c.in_ok-know_if_any-in-Shape.ensures)

pub see_structure-loop-group-init : goal.see_structure-loop-group-init
see_structure-loop-group-init t c = record {
  made = groups_begun c.args.types.now c.args.block.now c.args.beyond.now (groups_of c.args.groups.now) c.new-members.result.items c.new-members.ensures.items;
  faults = faults_begun c.args.types.now c.args.block.now c.args.beyond.now (groups_of c.args.groups.now);
}

pub see_structure-loop-group-preserved : goal.see_structure-loop-group-preserved
see_structure-loop-group-preserved t c =
    let l = c.loop-group in
    let g = c.group-item.result in
    let groups = c.args.groups.now in
    let gs = groups_of groups in
    let vs = vars_of g.variables.items in
    let rest = groups_of (drop (l.group-index + 1) groups) in
    let y = c.args.types.now in
    let z = c.see_type.new.types in
    let w = c.see_sizes.new.types in
    let v = c.take_members.new.types in
    let before = c.args.block.now in
    let after = c.see_type.new.block in
    let beyond = c.args.beyond.now in
    let s = c.in_ok-seen.seen in
    let own = c.in_ok-own.own in
    let sized : SeesSizes z g.place [] s vs w own = subst (λ xs. SeesSizes z g.place [] s (vars_of xs) w own) c.deref.ensures.value c.in_ok-own.ensures in
    let took : TakesMembers w l.so_far s.kind vs l.members.items v c.in_ok-so_far.so_far c.take_members.new.members.items =
    subst (λ xs. TakesMembers w l.so_far s.kind (vars_of xs) l.members.items v c.in_ok-so_far.so_far c.take_members.new.members.items) c.deref-in-loop-group.ensures.value c.in_ok-so_far.ensures in
    let next = drop_next groups l.group-index g c.loop-group-test.true c.group-item.is in
    record {
      made = group_passed y l.types w v before l.block after beyond gs (type_of g.kind) vs g.place rest l.members.items c.take_members.new.members.items l.so_far c.in_ok-so_far.so_far s.kind
          (subst (λ xs. GroupsLeft y before beyond gs l.types l.block (groups_of xs) l.members.items l.so_far) next l.invariant.made)
          (made_later l.types z w l.block after beyond (type_of g.kind) s.kind c.in_ok-seen.ensures.made sized.later) took;
      faults = subst (λ f. FaultsLeft y before beyond gs v after rest f) (sym c.or-fault.ensures)
          (fault_passed y l.types v before l.block after beyond gs (type_of g.kind) vs g.place rest l.fault own
          (subst (λ xs. FaultsLeft y before beyond gs l.types l.block (groups_of xs) l.fault) next l.invariant.faults)
          (list_later l.types w v l.block after beyond g.place [] (type_of g.kind) vs own
          (list_seen l.types z w l.block after beyond g.place [] (type_of g.kind) vs s own c.in_ok-seen.ensures sized) took.later));
    }

pub see_structure-returns : goal.see_structure-returns
see_structure-returns t c =
    let l = c.loop-group in
    let groups = c.args.groups.now in
    let gs = groups_of groups in
    let y = c.args.types.now in
    let z = c.add_structure.new.types in
    let before = c.args.block.now in
    let beyond = c.args.beyond.now in
    let end = drop_all l.group-index groups c.loop-group-test.false in
    record {
      made = groups_ended y l.types z before l.block beyond gs l.members.items l.so_far c.in_ok-kind.kind
          (subst (λ xs. GroupsLeft y before beyond gs l.types l.block (groups_of xs) l.members.items l.so_far) end l.invariant.made) c.in_ok-kind.ensures;
      tells = faults_told y l.types before l.block beyond gs l.fault (subst (λ xs. FaultsLeft y before beyond gs l.types l.block (groups_of xs) l.fault) end l.invariant.faults);
    }
