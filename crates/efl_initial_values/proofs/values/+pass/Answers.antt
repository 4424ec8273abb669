-- Members and elements one after the other.
use Rattle.std.proofs.Common.{◌≡◌, [], drop, sym, subst, refl, ◌∙◌, arith}
use Rattle.std.proofs.lemmas.List.{drop_all}
use Rattle.efl_types.specs.Presets.{repeated, kinds_of, kinds_in}
use Rattle.efl_expressions.specs.TypeViews.{AreMembers}
use Rattle.efl_expressions.proofs.TypeLemmas.{structure_is, scalar_is, nothing_is, is_there, one_got, none_got}
use Rattle.efl_initial_values.specs.Filling.{Passes}
use Rattle.efl_initial_values.proofs.PassLemmas.{MembersLeft, members_begun, members_done, member_at, left_done, structures_begun, structure_misfits, structure_passed, structures_done, one_small, past_is, no_elements, no_structures, scalars_passed, nothing_passed, structure_told, no_depth}
use Rattle.efl_initial_values.proofs.values.+pass.Goals as goal

-- ---- members ----

pub pass_members-loop-member-init : goal.pass_members-loop-member-init
pass_members-loop-member-init t c = λ f ms made deep few. members_begun f c.args.structures.now.list.items c.args.depth c.args.values.now c.args.from ms c.args.members.now made deep few

pub pass_members-returns-in-None : goal.pass_members-returns-in-None
pass_members-returns-in-None t c = λ f ms made deep few.
    let l = c.loop-member in
    let next = member_at f c.args.structures.now.list.items c.args.depth c.args.values.now c.args.from (kinds_in ms) l.progress c.args.members.now l.member-index _ c.loop-member-test.true (l.invariant f ms made deep few) in
    next.misfits (c.in-None.ensures f next.kind next.count next.made next.deep next.total next.few)

pub pass_members-loop-member-preserved : goal.pass_members-loop-member-preserved
pass_members-loop-member-preserved t c = λ f ms made deep few.
    let l = c.loop-member in
    let next = member_at f c.args.structures.now.list.items c.args.depth c.args.values.now c.args.from (kinds_in ms) l.progress c.args.members.now l.member-index _ c.loop-member-test.true (l.invariant f ms made deep few) in
    next.passes c.in-Some.passed (c.in-Some.ensures f next.kind next.count next.made next.deep next.total next.few)

pub pass_members-returns : goal.pass_members-returns
pass_members-returns t c = λ f ms made deep few.
    let l = c.loop-member in
    let ss = c.args.structures.now.list.items in
    let past : drop l.member-index c.args.members.now ≡ [] = drop_all l.member-index c.args.members.now c.loop-member-test.false in
    members_done f ss c.args.depth c.args.values.now c.args.from (kinds_in ms) l.progress
    (subst (MembersLeft f ss c.args.depth c.args.values.now c.args.from (kinds_in ms) l.progress) past (l.invariant f ms made deep few))

-- ---- structures ----

pub pass_structures-returns-then-places-eq0 : goal.pass_structures-returns-then-places-eq0
pass_structures-returns-then-places-eq0 t c = λ f ms n made deep is total few. no_structures c.args.values.now c.args.from n ms c.args.places is c.if-places-eq0.true

pub pass_structures-loop-left-init : goal.pass_structures-loop-left-init
pass_structures-loop-left-init t c = λ f ms n made deep is total few.
    structures_begun c.args.values.now c.args.from _ ms n c.args.places c.args.total _ c.min-skipped.result _ (omega (arith, c.if-places-eq0.false)) is total refl c.min-skipped.ensures c.without-skip.ensures refl refl

pub pass_structures-returns-then-is_done : goal.pass_structures-returns-then-is_done
pass_structures-returns-then-is_done t c = λ f ms n made deep is total few.
    let l = c.loop-left in
    let so_far = l.invariant f ms n made deep is total few in
    left_done c.args.values.now c.args.from (repeated n (kinds_in ms)) l.progress (repeated l.left (kinds_in ms)) so_far.kinds (past_is _ l.progress.next.number (sym c.is_done.ensures ∙ c.if-is_done.true))

pub pass_structures-returns-in-None : goal.pass_structures-returns-in-None
pass_structures-returns-in-None t c = λ f ms n made deep is total few.
    let l = c.loop-left in
    let so_far = l.invariant f ms n made deep is total few in
    let small = one_small l.left n c.args.places c.loop-left-test.true so_far.few (omega (arith, total, few)) in
    structure_misfits c.args.values.now c.args.from n (kinds_in ms) l.progress l.left c.loop-left-test.true so_far (c.in-None.ensures f ms made deep (omega (arith, small, is)))

pub pass_structures-loop-left-preserved : goal.pass_structures-loop-left-preserved
pass_structures-loop-left-preserved t c = λ f ms n made deep is total few.
    let l = c.loop-left in
    let so_far = l.invariant f ms n made deep is total few in
    let small = one_small l.left n c.args.places c.loop-left-test.true so_far.few (omega (arith, total, few)) in
    structure_passed c.args.values.now c.args.from n (kinds_in ms) l.progress c.in-Some.passed l.left c.loop-left-test.true so_far (c.in-Some.ensures f ms made deep (omega (arith, small, is)))

pub pass_structures-returns : goal.pass_structures-returns
pass_structures-returns t c = λ f ms n made deep is total few.
    let l = c.loop-left in
    structures_done c.args.values.now c.args.from n (kinds_in ms) l.progress l.left c.loop-left-test.false (l.invariant f ms n made deep is total few)

-- ---- elements ----

pub pass_elements-returns-then-total-eq0 : goal.pass_elements-returns-then-total-eq0
pass_elements-returns-then-total-eq0 t c = λ f u n made deep total few. no_elements c.args.values.now c.args.from n u c.args.total total c.if-total-eq0.true

pub pass_elements-returns-in-NoType : goal.pass_elements-returns-in-NoType
pass_elements-returns-in-NoType t c = λ f u n made deep total few.
    nothing_passed c.args.values.now c.args.from n u (nothing_is f c.args.structures.now.list.items u c.args.element made c.in-NoType.is)

pub pass_elements-returns-in-Scalar : goal.pass_elements-returns-in-Scalar
pass_elements-returns-in-Scalar t c = λ f u n made deep total few.
    scalars_passed c.args.values.now c.args.from n c.args.total u c.in-Scalar.kind c.pass.result (scalar_is f c.args.structures.now.list.items u c.args.element c.in-Scalar.kind made c.in-Scalar.is) total c.pass.ensures

pub pass_elements-returns-in-None : goal.pass_elements-returns-in-None
pass_elements-returns-in-None t c = λ f u n made deep total few.
    let ss = c.args.structures.now.list.items in
    let got = none_got ss c.deref.result.now c.in-Structured.number c.deref.ensures.value c.in-None.ensures.lookup.3 in
    absurd (is_there f ss u c.args.element c.in-Structured.number made c.in-Structured.is got)

pub pass_elements-returns-then-depth-eq0 : goal.pass_elements-returns-then-depth-eq0
pass_elements-returns-then-depth-eq0 t c = λ f u n made deep total few.
    let ss = c.args.structures.now.list.items in
    let s = c.in-Some.structure.now in
    let got = one_got ss c.deref.result.now c.in-Structured.number s c.deref.ensures.value c.in-Some.ensures.lookup.3.0 c.in-Some.ensures.lookup.1 in
    let one = structure_is f ss u c.args.element c.in-Structured.number s made c.in-Structured.is got in
    absurd (no_depth u one.members c.args.depth one.is deep c.if-depth-eq0.true)

pub pass_elements-returns-else-depth-eq0 : goal.pass_elements-returns-else-depth-eq0
pass_elements-returns-else-depth-eq0 t c = λ f u n made deep total few.
    let ss = c.args.structures.now.list.items in
    let s = c.in-Some.structure.now in
    let got = one_got ss c.deref.result.now c.in-Structured.number s c.deref.ensures.value c.in-Some.ensures.lookup.3.0 c.in-Some.ensures.lookup.1 in
    let one = structure_is f ss u c.args.element c.in-Structured.number s made c.in-Structured.is got in
    let kept = subst (AreMembers f ss one.members) (sym c.deref-in-Some.ensures.value) one.made in
    let told = structure_told u one.members n c.args.depth s.summary.places c.args.total one.is deep one.told.places total few c.if-total-eq0.false in
    subst (λ v. Passes c.args.values.now c.args.from (repeated n (kinds_of v)) c.pass_structures.result) (sym one.is) (c.pass_structures.ensures f one.members n kept told.deep told.size told.total few)
