-- The formula of an element or a function's value.
use Rattle.std.proofs.Common.{ap, ◌∙◌}
use Rattle.f66_tree.specs.Syntax.{Item}
use Rattle.f66_tree.specs.Views.{formulas_of}
use Rattle.f66_tree.proofs.Rows.{item_formula}
use Rattle.f66_tree.proofs.expression.applied.Goals as goal

pub returns : goal.returns
returns c = item_formula c.in_ok-new.field-0 ∙ ap (λ v. Item v.0 (formulas_of v.1.items)) c.in_ok-new.ensures.ok
