-- The values before are there, up to so many.
use Rattle.std.proofs.Common.{◌≡◌, map, take}
use Rattle.f66_tree.specs.Views.{initial_of}
use Rattle.f66_program.specs.Initial.{values_of}
use Rattle.storage_rules.specs.Presets.{content_seen}
use Rattle.storage_rules.proofs.constants.values_of.Given as goal

abbrev pub invariant-loop-count : goal.invariant-loop-count
invariant-loop-count l = map content_seen l.values.items ≡ take l.fn.most (values_of (map initial_of (take l.count-index l.list)))
