-- So far the names of the variables before are added.
use Rattle.std.proofs.Common.{◌≡◌, ◌++◌, drop, map}
use Rattle.efl_emit.specs.Names.{home_of}
use Rattle.efl_units.proofs.name_lists.add_homes.Given as goal

abbrev pub invariant-loop-variable : goal.invariant-loop-variable
invariant-loop-variable l = l.names.items ++ map (home_of l.naming) (drop l.variable-index l.variables) ≡ l.initial.names.items ++ map (home_of l.naming) l.variables
