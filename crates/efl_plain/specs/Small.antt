-- When a program needs little storage: so little that the units that it becomes have no more storage units than there may be.
use Rattle.std.specs.Prelude.{◌≤◌, ℕ, ◌+◌, ◌*◌, length}
use Rattle.std.specs.List.{sum_by, range_with_len}
use Rattle.efl_tree.specs.Syntax.{EflProgram}
use Rattle.efl_scope.specs.Marks.{program_variables}
use Rattle.efl_types.specs.Whole.{edges_of}
use Rattle.efl_typed.specs.Typing.{bodies_of}
use Rattle.efl_lowered.specs.Needs.{all_need}

-- of a procedure its temporaries of each type, with one more of each, and its own name, which may hold a value
abbrev pub unit_storage : EflProgram → ℕ → ℕ
unit_storage p n = 2 * (all_need (bodies_of p n) 0 + 1) + 1

-- No more than these: one for each variable, one for each call, since a unit declares the functions that it calls, and those of each
-- procedure.
abbrev pub most_storage : EflProgram → ℕ
most_storage p = length (program_variables p) + length (edges_of p) + sum_by (unit_storage p) (range_with_len 0 (length p.procedures))

abbrev pub HasLittleStorage : EflProgram → Type 0
HasLittleStorage p = most_storage p ≤ 2000000
