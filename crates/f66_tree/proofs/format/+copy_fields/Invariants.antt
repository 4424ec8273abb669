-- The fields before are copied.
use Rattle.std.proofs.Common.{◌≡◌, map, take}
use Rattle.f66_tree.specs.Views.{field_then}
use Rattle.f66_tree.proofs.format.+copy_fields.Given as goal

abbrev pub invariant-copy_fields-loop-field : goal.invariant-copy_fields-loop-field
invariant-copy_fields-loop-field l = map field_then l.copies.items ≡ map field_then (take l.field-index l.list)
