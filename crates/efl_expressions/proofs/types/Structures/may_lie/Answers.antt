-- Only a structure can lie there, and only over one of its types.
use Rattle.std.proofs.Common.{◌≡◌, Some, sym, subst, ◌∙◌, ap}
use Rattle.std.specs.List.{slice_get}
use Rattle.efl_types.specs.Expressions.{element_of, may_lie}
use Rattle.efl_expressions.specs.TypeViews.{Is, AreMembers}
use Rattle.efl_expressions.proofs.TypeLemmas.{structure_is, one_got, lies_among, bounds_none}
use Rattle.efl_expressions.proofs.types.Structures.may_lie.Goals as goal

pub returns-in-Some : goal.returns-in-Some
returns-in-Some c = λ f t u apart left made.
    let ss = c.args.self.now.list.items in
    let s = c.in-Some.structure.now in
    let got : slice_get ss c.in-Structured.number ≡ Some s = one_got ss c.deref.result.now c.in-Structured.number s c.deref.ensures.value c.in-Some.ensures.lookup.3.0 c.in-Some.ensures.lookup.1 in
    let none = bounds_none c.is_empty.result c.args.structure.now.bounds.now c.is_empty.ensures c.if-not-is_empty.false in
    let one = structure_is f ss u c.args.structure.now.element c.in-Structured.number s (subst (λ cs. Is f ss u cs c.args.structure.now.element) none made.made) c.in-Structured.is got in
    let kept = subst (AreMembers f ss one.members) (sym c.deref-in-Some.ensures.value) one.made in
    let lacks = sym (c.lacks_type.ensures t (c.form.ensures f ss t left)) ∙ c.if-lacks_type.false in
    c.is_among.ensures f (element_of t) one.members apart (c.element.ensures f t left).told kept ∙ sym (ap (may_lie t) one.is ∙ lies_among t one.members lacks)
