-- So far the number is in the groups before.
use Rattle.std.proofs.Common.{◌≡◌, drop, map}
use Rattle.efl_units.specs.Groups.{groups_of, put_all}
use Rattle.efl_units.proofs.groups.put_each_of.Given as goal

abbrev pub invariant-loop-group : goal.invariant-loop-group
invariant-loop-group l = put_all (map (λ n. (n, l.number)) (drop l.group-index l.list)) (groups_of l.groups) ≡ put_all (map (λ n. (n, l.number)) l.list) (groups_of l.initial.groups)
