-- What stands before has given its names.
use Rattle.std.proofs.Common.{◌≡◌, ◌++◌, drop}
use Rattle.efl_tree.specs.Views.{groups_of}
use Rattle.efl_scope.specs.Marks.{variables_listed}
use Rattle.efl_storage.specs.Named.{texts_of}
use Rattle.efl_storage.proofs.listed.list_groups.Given as goal

abbrev pub invariant-loop-group : goal.invariant-loop-group
invariant-loop-group l = texts_of l.names.items ++ variables_listed (groups_of (drop l.group-index l.groups)) ≡ texts_of l.initial.names.items ++ variables_listed (groups_of l.groups)
