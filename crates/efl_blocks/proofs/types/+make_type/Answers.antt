-- Types, and one group more.
use Rattle.std.proofs.Common.{◌+◌, drop, subst, sym, refl, inl, inr}
use Rattle.std.proofs.lemmas.Result.{IfOk-weaker}
use Rattle.std.proofs.lemmas.List.{drop_all}
use Rattle.efl_tree.specs.Syntax as efl
use Rattle.efl_tree.specs.Views.{type_of, vars_of, groups_of}
use Rattle.efl_scope.proofs.TreeLemmas.{drop_next, shape_is}
use Rattle.efl_scope.specs.Scopes.{structured, shape_named}
use Rattle.efl_scoped.specs.Seen.{table_of}
use Rattle.efl_blocks.specs.Within.{IsIn}
use Rattle.efl_blocks.specs.Made.{MakesType, MakesStructure, TakesMembers, AddsStructure}
use Rattle.efl_blocks.proofs.ShapeLemmas.{GroupsLeft, plain_made, shape_made, groups_begun, group_passed, groups_ended}
use Rattle.efl_blocks.proofs.types.+make_type.Goals as goal

pub make_type-returns-in-Integer : goal.make_type-returns-in-Integer
make_type-returns-in-Integer t c =
    let y = c.args.types.now in
    let block = c.args.block.now in
    let beyond = c.args.beyond.now in
    subst (λ x. MakesType y block beyond (type_of x) y block c.integers.result) (sym c.in-Integer.is)
    (plain_made y block beyond efl.Integer c.integers.result (λ bs is. c.integers.ensures y) (λ bs. refl))

pub make_type-returns-in-Logical : goal.make_type-returns-in-Logical
make_type-returns-in-Logical t c =
    let y = c.args.types.now in
    let block = c.args.block.now in
    let beyond = c.args.beyond.now in
    subst (λ x. MakesType y block beyond (type_of x) y block c.truths.result) (sym c.in-Logical.is)
    (plain_made y block beyond efl.Logical c.truths.result (λ bs is. c.truths.ensures y) (λ bs. refl))

pub make_type-returns-in-Real : goal.make_type-returns-in-Real
make_type-returns-in-Real t c =
    let y = c.args.types.now in
    let block = c.args.block.now in
    let beyond = c.args.beyond.now in
    let none = c.nothing.ensures (table_of y.numbers) y.structures.list.items in
    elim c.in-Real.is [
      | inl long ↦ subst (λ x. MakesType y block beyond (type_of x) y block c.nothing.result) (sym long.1)
          (plain_made y block beyond (efl.Real long.0) c.nothing.result (λ bs is. none) (λ bs. refl))
      | inr long ↦ subst (λ x. MakesType y block beyond (type_of x) y block c.nothing.result) (sym long.1)
          (plain_made y block beyond (efl.Complex long.0) c.nothing.result (λ bs is. none) (λ bs. refl))
    ]

pub make_type-returns-in-Named : goal.make_type-returns-in-Named
make_type-returns-in-Named t c =
    let y = c.args.types.now in
    let block = c.args.block.now in
    let beyond = c.args.beyond.now in
    subst (λ x. MakesType y block beyond (type_of x) y block c.named.result) (sym c.in-Named.is)
    (plain_made y block beyond (efl.Named c.in-Named.name) c.named.result
    (λ bs is. subst (λ x. IsIn y (structured (shape_named bs x)) c.named.result) c.as_bytes.ensures (c.named.ensures y bs is)) (λ bs. refl))

pub make_type-returns-in_ok-know_if_any-in-Shape : goal.make_type-returns-in_ok-know_if_any-in-Shape
make_type-returns-in_ok-know_if_any-in-Shape t c =
    let y = c.args.types.now in
    let z = c.make_structure.new.types in
    let block = c.args.block.now in
    let beyond = c.args.beyond.now in
    let d = c.in_ok-made-in-Shape.made in
    subst (λ x. MakesType y block beyond x z c.know_if_any.new.block d) (shape_is c.args.kind.now c.in-Shape.name c.in-Shape.groups c.deref.result.now c.in-Shape.is c.deref.ensures.value)
    (shape_made y z block c.make_structure.new.block c.know_if_any.new.block beyond c.in-Shape.name (groups_of c.deref.result.now) d c.in_ok-made-in-Shape.ensures c.in_ok-know_if_any-in-Shape.ensures)

pub make_structure-loop-group-init : goal.make_structure-loop-group-init
make_structure-loop-group-init t c =
    groups_begun c.args.types.now c.args.block.now c.args.beyond.now (groups_of c.args.groups.now) c.new-members.result.items c.new-members.ensures.items

pub make_structure-loop-group-preserved : goal.make_structure-loop-group-preserved
make_structure-loop-group-preserved t c =
    let l = c.loop-group in
    let g = c.group-item.result in
    let groups = c.args.groups.now in
    let rest = drop (l.group-index + 1) groups in
    let y = c.args.types.now in
    let w = c.make_type.new.types in
    let v = c.take_members.new.types in
    let before = c.args.block.now in
    let beyond = c.args.beyond.now in
    group_passed y l.types w v before l.block c.make_type.new.block beyond (groups_of groups) (type_of g.kind) (vars_of g.variables.items) g.place (groups_of rest)
    l.members.items c.take_members.new.members.items l.so_far c.in_ok-so_far.so_far c.in_ok-kind.kind
    (subst (λ xs. GroupsLeft y before beyond (groups_of groups) l.types l.block (groups_of xs) l.members.items l.so_far)
    (drop_next groups l.group-index g c.loop-group-test.true c.group-item.is) l.invariant)
    c.in_ok-kind.ensures
    (subst (λ vs. TakesMembers w l.so_far c.in_ok-kind.kind (vars_of vs) l.members.items v c.in_ok-so_far.so_far c.take_members.new.members.items) c.deref.ensures.value c.in_ok-so_far.ensures)

pub make_structure-returns : goal.make_structure-returns
make_structure-returns t c =
    let l = c.loop-group in
    let groups = c.args.groups.now in
    let y = c.args.types.now in
    let before = c.args.block.now in
    let beyond = c.args.beyond.now in
    let z = c.add_structure.new.types in
    IfOk-weaker c.add_structure.result (λ d. AddsStructure l.types l.so_far l.members.items z d) (λ d. MakesStructure y before beyond (groups_of groups) z l.block d)
    (λ d added. groups_ended y l.types z before l.block beyond (groups_of groups) l.members.items l.so_far d
    (subst (λ xs. GroupsLeft y before beyond (groups_of groups) l.types l.block (groups_of xs) l.members.items l.so_far) (drop_all l.group-index groups c.loop-group-test.false) l.invariant) added)
    c.add_structure.ensures
