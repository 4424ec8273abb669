-- So far the variables before are in their groups.
use Rattle.std.proofs.Common.{◌≡◌, [], drop, replicate}
use Rattle.efl_units.specs.Groups.{groups_of, owned_in, put_all}
use Rattle.efl_units.proofs.groups.owned.Given as goal

abbrev pub invariant-loop-number : goal.invariant-loop-number
invariant-loop-number l = put_all (owned_in l.kind l.number (drop l.number l.variables)) (groups_of l.groups.items) ≡ put_all (owned_in l.kind 0 l.variables) (replicate l.count [])
