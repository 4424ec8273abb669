-- Scalars are known, structures are told of.
use Rattle.std.proofs.Common.{◌≡◌, Some, None, sym, subst}
use Rattle.std.specs.List.{slice_get}
use Rattle.efl_scoped.specs.Told.{Tells}
use Rattle.efl_expressions.proofs.TypeLemmas.{scalar_is, nothing_is, structure_is, is_there, one_got, none_got}
use Rattle.efl_expressions.proofs.types.Structures.summary.Goals as goal

pub returns-in-NoType : goal.returns-in-NoType
returns-in-NoType c = λ f t made.
    subst (λ u. Tells f u c.no_type.result) (sym (nothing_is f c.args.self.now.list.items t c.args.element made c.in-NoType.is)) (c.no_type.ensures f)

pub returns-in-Scalar : goal.returns-in-Scalar
returns-in-Scalar c = λ f t made.
    subst (λ u. Tells f u c.scalar.result) (sym (scalar_is f c.args.self.now.list.items t c.args.element c.in-Scalar.kind made c.in-Scalar.is)) (c.scalar.ensures f)

pub returns-in-None : goal.returns-in-None
returns-in-None c = λ f t made.
    let ss = c.args.self.now.list.items in
    let got : slice_get ss c.in-Structured.number ≡ None = none_got ss c.deref.result.now c.in-Structured.number c.deref.ensures.value c.in-None.ensures.lookup.3 in
    absurd (is_there f ss t c.args.element c.in-Structured.number made c.in-Structured.is got)

pub returns-in-Some : goal.returns-in-Some
returns-in-Some c = λ f t made.
    let ss = c.args.self.now.list.items in
    let s = c.in-Some.structure.now in
    let got : slice_get ss c.in-Structured.number ≡ Some s = one_got ss c.deref.result.now c.in-Structured.number s c.deref.ensures.value c.in-Some.ensures.lookup.3.0 c.in-Some.ensures.lookup.1 in
    let one = structure_is f ss t c.args.element c.in-Structured.number s made c.in-Structured.is got in
    subst (λ u. Tells f u s.summary) (sym one.is) one.told
