-- Each kind is told of.
use Rattle.std.proofs.Common.{sym, subst}
use Rattle.efl_scope.specs.DataTypes.{Scalar}
use Rattle.efl_scoped.specs.Told.{Tells}
use Rattle.efl_places.proofs.typed.summary_of.Goals as goal

pub returns-in-Integer : goal.returns-in-Integer
returns-in-Integer c = λ f. subst (λ k. Tells f (Scalar k) c.integer.result) (sym c.in-Integer.is) (c.integer.ensures f)

pub returns-in-Logical : goal.returns-in-Logical
returns-in-Logical c = λ f. subst (λ k. Tells f (Scalar k) c.logical.result) (sym c.in-Logical.is) (c.logical.ensures f)
