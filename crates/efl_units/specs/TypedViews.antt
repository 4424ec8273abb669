-- The variables and functions of each type, of each procedure.
use Rattle.std.specs.Prelude.{◌≡◌, ◌<◌, ℕ, length, option_map, slice_get, Some}
use Rattle.ground.specs.declared.value.Kind.{Kind}
use Rattle.ground.specs.declared.value.Kind.TheVariants.{Integer, Logical}
use Rattle.efl_tree.specs.Syntax.{EflProgram}
use Rattle.efl_scope.specs.Marks.{program_variables}
use Rattle.efl_lowered.specs.Lowering.{variables_in, functions_in}
use Rattle.efl_units.specs.declared.kinds.OfKind.{OfKind}
use Rattle.efl_units.specs.declared.kinds.Typed.{Typed}
use Rattle.efl_units.specs.Groups.{groups_of}
use Rattle.efl_units.specs.Once.{each_once}

pub record AreOfKind (p : EflProgram) (k : Kind) (t : OfKind) : Type 0 where
  pub variables : (n : ℕ) → n < length p.procedures → slice_get (groups_of t.variables.items) n ≡ Some (variables_in (program_variables p) n k)
  pub functions : (n : ℕ) → n < length p.procedures → option_map each_once (slice_get (groups_of t.functions.items) n) ≡ Some (functions_in p n k)

pub record AreTyped (p : EflProgram) (t : Typed) : Type 0 where
  pub integers : AreOfKind p Integer t.integers
  pub logicals : AreOfKind p Logical t.logicals
