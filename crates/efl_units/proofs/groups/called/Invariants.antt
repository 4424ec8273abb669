-- So far the functions before are in the groups of their callers.
use Rattle.std.proofs.Common.{◌≡◌, [], drop, map, replicate}
use Rattle.efl_tree.specs.Views.{procedure_of}
use Rattle.efl_units.specs.Groups.{called_in, groups_of, put_all}
use Rattle.efl_units.proofs.groups.called.Given as goal

abbrev pub invariant-loop-number : goal.invariant-loop-number
invariant-loop-number l =
    put_all (called_in l.kind (groups_of l.callers) l.number (map procedure_of (drop l.number l.procedures))) (groups_of l.groups.items)
    ≡ put_all (called_in l.kind (groups_of l.callers) 0 (map procedure_of l.procedures)) (replicate l.count [])
