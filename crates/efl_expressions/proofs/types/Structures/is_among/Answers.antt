-- The first member of the type is found.
use Rattle.std.proofs.Common.{◌≡◌, [], drop, sym, subst, ◌∙◌}
use Rattle.efl_types.specs.Expressions.{element_of}
use Rattle.std.proofs.lemmas.List.{drop_all}
use Rattle.efl_expressions.proofs.TypeLemmas.{LeftAmong, among_at, among_none}
use Rattle.efl_expressions.proofs.types.Structures.is_among.Goals as goal

pub returns-then-agrees : goal.returns-then-agrees
returns-then-agrees c = λ f t ms apart told made.
    let one = among_at f c.args.self.now.list.items t ms c.args.members.now c.loop-member.member-index _ c.loop-member-test.true (c.loop-member.invariant f t ms apart told made) in
    sym (one.found (sym (c.agrees.ensures f t (element_of one.kind) apart told (c.element.ensures f one.kind one.is).told) ∙ c.if-agrees.true))

pub loop-member-preserved : goal.loop-member-preserved
loop-member-preserved c = λ f t ms apart told made.
    let one = among_at f c.args.self.now.list.items t ms c.args.members.now c.loop-member.member-index _ c.loop-member-test.true (c.loop-member.invariant f t ms apart told made) in
    one.other (sym (c.agrees.ensures f t (element_of one.kind) apart told (c.element.ensures f one.kind one.is).told) ∙ c.if-agrees.false)

pub returns : goal.returns
returns c = λ f t ms apart told made.
    let ss = c.args.self.now.list.items in
    let l = c.loop-member in
    let past : drop l.member-index c.args.members.now ≡ [] = drop_all l.member-index c.args.members.now c.loop-member-test.false in
    sym (among_none f ss t ms (subst (LeftAmong f ss t ms) past (l.invariant f t ms apart told made)))
