-- The first member of the name is found.
use Rattle.std.proofs.Common.{◌≡◌, [], drop, sym, subst, ◌∙◌}
use Rattle.efl_expressions.specs.TypeViews.{IsType}
use Rattle.std.proofs.lemmas.List.{drop_all}
use Rattle.efl_expressions.proofs.TypeLemmas.{Left, left_none, left_next}
use Rattle.efl_expressions.proofs.types.named.Goals as goal

pub loop-member-preserved : goal.loop-member-preserved
loop-member-preserved c = λ f ss ms made.
    left_next f ss c.args.name.now ms c.args.members.now c.loop-member.member-index _ c.loop-member-test.true (c.loop-member.invariant f ss ms made) (sym c.eq.ensures ∙ c.if-eq.false)

pub returns : goal.returns
returns c = λ f ss ms made.
    let l = c.loop-member in
    let past : drop l.member-index c.args.members.now ≡ [] = drop_all l.member-index c.args.members.now c.loop-member-test.false in
    let none = left_none f ss c.args.name.now ms (subst (Left f ss c.args.name.now ms) past (l.invariant f ss ms made)) in
    subst (λ t. IsType f ss t c.nothing.result) (sym none) (c.nothing.ensures f ss)
