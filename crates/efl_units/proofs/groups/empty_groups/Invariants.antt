-- So far as many groups are empty.
use Rattle.std.proofs.Common.{◌≡◌, [], replicate}
use Rattle.efl_units.specs.Groups.{groups_of}
use Rattle.efl_units.proofs.groups.empty_groups.Given as goal

abbrev pub invariant-loop : goal.invariant-loop
invariant-loop l = groups_of l.groups.items ≡ replicate l.counter []
