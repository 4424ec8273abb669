-- The code so far with that of the fields to come is that of the format; so for the place to which control goes back, and whether it may.
use Rattle.std.proofs.Common.{◌≡◌, ◌≤◌, ◌++◌, drop, map, length}
use Rattle.format_io.specs.Places.{plan_code}
use Rattle.format_io.proofs.Parts.{list_code, list_depth, list_place, list_cycles}
use Rattle.std.specs.Prelude.{false}
use Rattle.format_io.proofs.layout.lay.Given as goal

abbrev pub invariant-loop-field : goal.invariant-loop-field
invariant-loop-field l =
    (map plan_code l.ops.items ++ list_code 0 (drop l.field-index l.fields.items) ≡ list_code 0 l.fields.items)
    × (list_depth (drop l.field-index l.fields.items) ≤ 2)
    × (list_place l.start (length l.ops.items) (drop l.field-index l.fields.items) ≡ list_place 0 0 l.fields.items)
    × (list_cycles l.cycles (drop l.field-index l.fields.items) ≡ list_cycles false l.fields.items)
