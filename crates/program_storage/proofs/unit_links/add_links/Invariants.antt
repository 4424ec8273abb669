-- The links before are added.
use Rattle.std.proofs.Common.{◌≡◌, ◌++◌, map, take}
use Rattle.program_storage.specs.Whole.{relinked}
use Rattle.program_storage.proofs.unit_links.add_links.Given as goal

abbrev pub invariant-loop-link : goal.invariant-loop-link
invariant-loop-link l = l.links.items ≡ l.initial.links.items ++ map (relinked l.whole) (take l.link-index l.more)
