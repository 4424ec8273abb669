-- Where the parts that are left nest within the levels, the whole field does.
use Rattle.std.proofs.Common.{◌≤◌, ◌-◌, drop}
use Rattle.format_io.specs.Places.{depth}
use Rattle.format_io.specs.OneField.{one}
use Rattle.format_io.proofs.Parts.{list_depth}
use Rattle.f66_cases.proofs.transfers.+nests_within.Given as goal

abbrev pub invariant-loop-part : goal.invariant-loop-part
invariant-loop-part l = list_depth (drop l.part-index l.part-items) ≤ l.levels - 1 → depth (one l.field) ≤ l.levels
