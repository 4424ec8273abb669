-- So far the names of the functions before are added, each once.
use Rattle.std.proofs.Common.{◌≡◌, ◌++◌, drop, map}
use Rattle.efl_emit.specs.Names.{callee_of}
use Rattle.efl_units.specs.Once.{once_behind, each_once}
use Rattle.efl_units.proofs.name_lists.add_callees.Given as goal

abbrev pub invariant-loop-function : goal.invariant-loop-function
invariant-loop-function l = l.names.items ++ map (callee_of l.naming) (once_behind l.last (drop l.function-index l.functions)) ≡ l.initial.names.items ++ map (callee_of l.naming) (each_once l.functions)
