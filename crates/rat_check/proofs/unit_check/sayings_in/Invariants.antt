-- What the parts before say.
use Rattle.std.proofs.Common.{◌≡◌, take}
use Rattle.f66_tree.specs.Views.{header_of}
use Rattle.f66_names.specs.ActViews.{acts_of}
use Rattle.rat_check.specs.Said.{said_in}
use Rattle.rat_check.specs.PartViews.{parts_seen}
use Rattle.rat_check.proofs.unit_check.sayings_in.Given as goal

abbrev pub invariant-loop-part : goal.invariant-loop-part
invariant-loop-part l = acts_of l.sayings.items ≡ said_in (header_of l.header) (parts_seen (take l.part-index l.parts))
