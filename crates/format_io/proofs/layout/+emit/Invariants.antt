-- The code of the parts so far, with that of the parts to come, is that of all parts.
use Rattle.std.proofs.Common.{◌≡◌, ◌≤◌, ◌+◌, ◌++◌, drop, map}
use Rattle.format_io.specs.Places.{plan_code}
use Rattle.format_io.proofs.Parts.{list_code, list_depth}
use Rattle.format_io.proofs.layout.+emit.Given as goal

abbrev pub invariant-loop-part : goal.invariant-loop-part
invariant-loop-part l =
    (map plan_code l.body.items ++ list_code (l.level + 1) (drop l.part-index l.part-items) ≡ list_code (l.level + 1) l.part-items)
    × (l.level + 1 + list_depth (drop l.part-index l.part-items) ≤ 2)
