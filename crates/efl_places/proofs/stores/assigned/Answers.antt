-- With an operator or without.
use Rattle.std.proofs.Common.{sym, subst}
use Rattle.efl_tree.specs.Syntax.{Assign}
use Rattle.efl_expressions.specs.Checks.{IsChecked}
use Rattle.efl_places.proofs.stores.assigned.Goals as goal

pub returns-in-None : goal.returns-in-None
returns-in-None c = λ f ss n p a is value.
    subst (λ o. IsChecked n (Assign o p a) c.assigned_plainly.result) (sym c.in-None.is) (c.assigned_plainly.ensures f ss n p a is value)

pub returns-in-Some : goal.returns-in-Some
returns-in-Some c = λ f ss n p a is value.
    subst (λ o. IsChecked n (Assign o p a) c.assigned_by.result) (sym c.in-Some.is) (c.assigned_by.ensures f ss n p a is value)
