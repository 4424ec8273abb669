-- Only a structure has members.
use Rattle.std.proofs.Common.{sym, subst}
use Rattle.efl_types.specs.Types.{member_type}
use Rattle.efl_expressions.specs.TypeViews.{Is, IsType, AreMembers}
use Rattle.efl_expressions.proofs.TypeLemmas.{structure_is, is_there, one_got, none_got, no_member, bounds_none, bounds_some}
use Rattle.efl_expressions.proofs.types.Structures.member.Goals as goal

pub returns-then-not-is_empty : goal.returns-then-not-is_empty
returns-then-not-is_empty c = λ f t made.
    let ss = c.args.self.now.list.items in
    let d = c.args.kind.now in
    let some = bounds_some c.is_empty.result d.bounds.now c.is_empty.ensures c.if-not-is_empty.true in
    subst (λ u. IsType f ss u c.nothing.result) (sym (no_member f ss t d.bounds.now d.element c.args.name.now made.made (λ i none is. some none))) (c.nothing.ensures f ss)

pub returns-in-None : goal.returns-in-None
returns-in-None c = λ f t made.
    let ss = c.args.self.now.list.items in
    let d = c.args.kind.now in
    let none = bounds_none c.is_empty.result d.bounds.now c.is_empty.ensures c.if-not-is_empty.false in
    let got = none_got ss c.deref.result.now c.in-Structured.number c.deref.ensures.value c.in-None.ensures.lookup.3 in
    absurd (is_there f ss t d.element c.in-Structured.number (subst (λ cs. Is f ss t cs d.element) none made.made) c.in-Structured.is got)

pub returns-in-Some : goal.returns-in-Some
returns-in-Some c = λ f t made.
    let ss = c.args.self.now.list.items in
    let d = c.args.kind.now in
    let s = c.in-Some.structure.now in
    let none = bounds_none c.is_empty.result d.bounds.now c.is_empty.ensures c.if-not-is_empty.false in
    let got = one_got ss c.deref.result.now c.in-Structured.number s c.deref.ensures.value c.in-Some.ensures.lookup.3.0 c.in-Some.ensures.lookup.1 in
    let one = structure_is f ss t d.element c.in-Structured.number s (subst (λ cs. Is f ss t cs d.element) none made.made) c.in-Structured.is got in
    let kept = subst (AreMembers f ss one.members) (sym c.deref-in-Some.ensures.value) one.made in
    subst (λ u. IsType f ss (member_type c.args.name.now u) c.named.result) (sym one.is) (c.named.ensures f ss one.members kept)

pub returns-in_default : goal.returns-in_default
returns-in_default c = λ f t made.
    let ss = c.args.self.now.list.items in
    let d = c.args.kind.now in
    subst (λ u. IsType f ss u c.nothing-in_default.result) (sym (no_member f ss t d.bounds.now d.element c.args.name.now made.made (λ i none is. c.in_default.not-Structured i is))) (c.nothing-in_default.ensures f ss)
