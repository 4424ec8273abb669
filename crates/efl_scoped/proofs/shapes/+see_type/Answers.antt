-- Types, and one group more.
use Rattle.std.proofs.Common.{◌+◌, drop, subst, sym, refl, inl, inr}
use Rattle.efl_tree.specs.Syntax as efl
use Rattle.efl_tree.specs.Views.{type_of, vars_of, groups_of}
use Rattle.efl_scope.proofs.TreeLemmas.{drop_next, shape_is}
use Rattle.efl_scope.specs.Scopes.{structured, shape_named}
use Rattle.efl_scoped.specs.Told.{Tells}
use Rattle.efl_scoped.specs.Seen.{table_of, SeesType, AddsMembers}
use Rattle.efl_scoped.proofs.ShapeLemmas.{GroupsLeft, beginning, plain_seen, shape_seen, group_passed}
use Rattle.efl_scoped.proofs.shapes.+see_type.Goals as goal

pub see_type-returns-in-Integer : goal.see_type-returns-in-Integer
see_type-returns-in-Integer t c =
    let f = table_of c.args.numbers.now in
    let known = c.args.known.now in
    subst (λ x. SeesType f known (type_of x) f known c.integer.result) (sym c.in-Integer.is) (plain_seen f known efl.Integer c.integer.result (λ bs k. c.integer.ensures f) (λ bs. refl))

pub see_type-returns-in-Logical : goal.see_type-returns-in-Logical
see_type-returns-in-Logical t c =
    let f = table_of c.args.numbers.now in
    let known = c.args.known.now in
    subst (λ x. SeesType f known (type_of x) f known c.logical.result) (sym c.in-Logical.is) (plain_seen f known efl.Logical c.logical.result (λ bs k. c.logical.ensures f) (λ bs. refl))

pub see_type-returns-in-Real : goal.see_type-returns-in-Real
see_type-returns-in-Real t c =
    let f = table_of c.args.numbers.now in
    let known = c.args.known.now in
    elim c.in-Real.is [
      | inl long ↦ subst (λ x. SeesType f known (type_of x) f known c.no_type.result) (sym long.1) (plain_seen f known (efl.Real long.0) c.no_type.result (λ bs k. c.no_type.ensures f) (λ bs. refl))
      | inr long ↦ subst (λ x. SeesType f known (type_of x) f known c.no_type.result) (sym long.1) (plain_seen f known (efl.Complex long.0) c.no_type.result (λ bs k. c.no_type.ensures f) (λ bs. refl))
    ]

pub see_type-returns-in-Named : goal.see_type-returns-in-Named
see_type-returns-in-Named t c =
    let f = table_of c.args.numbers.now in
    let known = c.args.known.now in
    subst (λ x. SeesType f known (type_of x) f known c.named.result) (sym c.in-Named.is)
    (plain_seen f known (efl.Named c.in-Named.name) c.named.result
    (λ bs k. subst (λ x. Tells f (structured (shape_named bs x)) c.named.result) c.as_bytes.ensures (c.named.ensures f bs k)) (λ bs. refl))

pub see_type-returns-in_ok-know_if_any-in-Shape : goal.see_type-returns-in_ok-know_if_any-in-Shape
see_type-returns-in_ok-know_if_any-in-Shape t c =
    let f = table_of c.args.numbers.now in
    let g = table_of c.see_members.new.numbers in
    let known = c.args.known.now in
    let s = c.in_ok-shape-in-Shape.shape in
    subst (λ x. SeesType f known x g c.know_if_any.new.self s) (shape_is c.args.kind.now c.in-Shape.name c.in-Shape.groups c.deref.result.now c.in-Shape.is c.deref.ensures.value)
    (shape_seen f g known c.see_members.new.known c.know_if_any.new.self c.in-Shape.name (groups_of c.deref.result.now) s c.in_ok-shape-in-Shape.ensures c.in_ok-know_if_any-in-Shape.ensures)

pub see_members-loop-group-preserved : goal.see_members-loop-group-preserved
see_members-loop-group-preserved t c =
    let l = c.loop-group in
    let g = c.group-item.result in
    let groups = c.args.groups.now in
    let rest = drop (l.group-index + 1) groups in
    let f = table_of c.args.numbers.now in
    let known = c.args.known.now in
    let middle = table_of c.see_type.new.numbers in
    let last = table_of c.with_members.new.numbers in
    group_passed f (table_of l.numbers) middle last known l.known c.see_type.new.known (groups_of groups) beginning l.so_far c.in_ok-so_far.so_far c.in_ok-kind.kind
    (type_of g.kind) (vars_of g.variables.items) g.place (groups_of rest)
    (subst (λ xs. GroupsLeft f known (groups_of groups) beginning (table_of l.numbers) l.known (groups_of xs) l.so_far)
    (drop_next groups l.group-index g c.loop-group-test.true c.group-item.is) l.invariant)
    c.in_ok-kind.ensures
    (subst (λ vs. AddsMembers middle l.so_far c.in_ok-kind.kind (vars_of vs) last c.in_ok-so_far.so_far) c.deref.ensures.value c.in_ok-so_far.ensures)
