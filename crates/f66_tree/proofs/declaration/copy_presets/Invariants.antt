-- The parts before are copied.
use Rattle.std.proofs.Common.{◌≡◌, map, take}
use Rattle.f66_tree.specs.Views.{preset_of}
use Rattle.f66_tree.proofs.declaration.copy_presets.Given as goal

abbrev pub invariant-loop-part : goal.invariant-loop-part
invariant-loop-part l = map preset_of l.copies.items ≡ map preset_of (take l.part-index l.list)
