-- What stands before has given its names.
use Rattle.std.proofs.Common.{◌≡◌, ◌++◌, drop}
use Rattle.efl_tree.specs.Views.{vars_of}
use Rattle.efl_scope.specs.Parts.{names_of}
use Rattle.efl_storage.specs.Named.{texts_of}
use Rattle.efl_storage.proofs.listed.list_variables.Given as goal

abbrev pub invariant-loop-variable : goal.invariant-loop-variable
invariant-loop-variable l = texts_of l.names.items ++ names_of (vars_of (drop l.variable-index l.list)) ≡ texts_of l.initial.names.items ++ names_of (vars_of l.list)
