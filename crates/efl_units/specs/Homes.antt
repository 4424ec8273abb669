-- The names of variables in memory.
use Rattle.std.specs.Prelude.{ℕ, nat_eq, Bool, ◌&&◌, Option, is_none, if◌then◌else◌}
use Rattle.efl_tree.specs.Syntax.{Text}
use Rattle.efl_variables.specs.declared.variables.Variable.{Variable}
use Rattle.efl_naming.specs.Choice.{is_kept, made}

-- where procedures have these numbers by their names
abbrev pub keeps_name_in : (Text → Option ℕ) → Variable → Bool
keeps_name_in numbers x = nat_eq x.home 0 && (is_kept x.name && is_none (numbers x.name))

abbrev pub home_in : (Text → Option ℕ) → ℕ → Variable → Text
home_in numbers v x = if keeps_name_in numbers x then x.name else made 89 v
