-- The first member of the name is found.
use Rattle.std.proofs.Common.{◌≡◌, [], drop, sym, subst, ◌∙◌, arith}
use Rattle.std.proofs.lemmas.List.{drop_all}
use Rattle.efl_initial_values.proofs.PlaceLemmas.{BeforeLeft, before_begun, before_none, before_here, before_next}
use Rattle.efl_initial_values.proofs.offsets.before_member.Goals as goal

pub loop-member-init : goal.loop-member-init
loop-member-init c = λ f ss ms made. before_begun f ss c.args.name.now ms c.args.members.now made

pub returns-then-eq : goal.returns-then-eq
returns-then-eq c = λ f ss ms made.
    let l = c.loop-member in
    before_here f ss c.args.name.now ms l.before c.min.result c.args.members.now l.member-index _ c.loop-member-test.true (l.invariant f ss ms made) (sym c.eq.ensures ∙ c.if-eq.true) (omega (arith, c.min.ensures))

pub loop-member-preserved : goal.loop-member-preserved
loop-member-preserved c = λ f ss ms made.
    let l = c.loop-member in
    before_next f ss c.args.name.now ms l.before c.add-before.result c.args.members.now l.member-index _ c.loop-member-test.true (l.invariant f ss ms made) (sym c.eq.ensures ∙ c.if-eq.false) c.add-before.ensures

pub returns : goal.returns
returns c = λ f ss ms made.
    let l = c.loop-member in
    let past : drop l.member-index c.args.members.now ≡ [] = drop_all l.member-index c.args.members.now c.loop-member-test.false in
    before_none f ss c.args.name.now ms l.before (subst (BeforeLeft f ss c.args.name.now ms l.before) past (l.invariant f ss ms made))
