-- What the check of an expression tells: the form of its type, and the first rule that it breaks.
use Rattle.std.specs.Prelude.{◌≡◌}
use Rattle.efl_tree.specs.Syntax.{EflExpr}
use Rattle.efl_types.specs.Signatures.{Names}
use Rattle.efl_types.specs.Types.{type_of}
use Rattle.efl_types.specs.Expressions.{faults}
use Rattle.efl_expressions.specs.declared.checks.Checked.{Checked}
use Rattle.efl_expressions.specs.Forms.{form_of}
use Rattle.efl_expressions.specs.FirstRule.{first_rule}

pub record IsChecked (n : Names) (e : EflExpr) (c : Checked) : Type 0 where
  pub form : form_of (type_of n e) ≡ c.form
  pub rule : first_rule (faults n e) ≡ c.rule
