-- So far the calls before are in their groups.
use Rattle.std.proofs.Common.{◌≡◌, [], drop, map, replicate}
use Rattle.efl_units.specs.Groups.{groups_of, put_all}
use Rattle.efl_units.proofs.groups.callers.Given as goal

abbrev pub invariant-loop-edge : goal.invariant-loop-edge
invariant-loop-edge l = put_all (map (λ e. (e.to, e.from)) (drop l.edge-index l.edges)) (groups_of l.groups.items) ≡ put_all (map (λ e. (e.to, e.from)) l.edges) (replicate l.count [])
