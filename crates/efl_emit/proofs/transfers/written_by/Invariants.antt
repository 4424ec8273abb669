-- So far the fields of the items before are listed.
use Rattle.std.proofs.Common.{◌≡◌, drop, map, ◌++◌}
use Rattle.f66_tree.specs.Views.{field_then, strung}
use Rattle.efl_typed_tree.specs.Views.{write_item_of}
use Rattle.efl_emit.specs.Transfers.{written_field}
use Rattle.efl_emit.proofs.transfers.written_by.Given as goal

abbrev pub invariant-loop-item : goal.invariant-loop-item
invariant-loop-item l =
    strung (map field_then l.fields.items ++ map (λ x. written_field (write_item_of x)) (drop l.item-index l.items)) ≡ strung (map (λ x. written_field (write_item_of x)) l.items)
