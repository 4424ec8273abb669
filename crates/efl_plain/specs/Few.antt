-- How many labels the units of a program may have: those that stand in a procedure and those that are made for it fit the five digits of
-- a label.
use Rattle.std.specs.Prelude.{◌≡◌, ℕ, ◌+◌, ◌≤◌, true, length}
use Rattle.efl_tree.specs.Syntax.{EflProgram}
use Rattle.efl_typed.specs.Typing.{bodies_of}
use Rattle.routes.specs.Code as code
use Rattle.efl_lowered.specs.Labels.{all_labels}
use Rattle.efl_lowered.specs.Lowering.{routes_of}
use Rattle.efl_lowered.specs.Facts.{is_unit}
use Rattle.efl_naming.specs.Choice.{naming_of}

abbrev pub HasFewLabels : EflProgram → Type 0
HasFewLabels p = (n : ℕ) → is_unit p n ≡ true → length (all_labels (bodies_of p n)) + code.all_labels (routes_of (naming_of p) p n) ≤ 99999
