-- Bounds one by one.
use Rattle.std.specs.Prelude.{Bool, ◌&&◌, ◌||◌}
use Rattle.efl_tree.specs.declared.declaration.EflBound.{EflBound}
use Rattle.efl_scope.specs.DataTypes.{is_closed}
use Rattle.efl_types.specs.Declarations.{is_open}

-- a bound may stand there, in a formal or not, as the last one or not
abbrev pub is_bound : Bool → Bool → EflBound → Bool
is_bound formal last b = is_closed b || ((formal && last) && is_open b)
