-- The fields so far, and those of the items that are left.
use Rattle.std.proofs.Common.{◌≡◌, drop}
use Rattle.stmt_reader.specs.Formats.{fields_of}
use Rattle.stmt_formats.specs.States.{items_of, onto_fields}
use Rattle.stmt_formats.proofs.fields.+fields.Given as goal

abbrev pub invariant-fields-loop-item : goal.invariant-fields-loop-item
invariant-fields-loop-item l = onto_fields l.fields.items (fields_of (items_of (drop l.item-index l.items))) ≡ fields_of (items_of l.items)
