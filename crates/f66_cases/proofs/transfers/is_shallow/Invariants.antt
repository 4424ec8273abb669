-- Where the fields that are left nest at most two deep, all do.
use Rattle.std.proofs.Common.{◌≤◌, drop}
use Rattle.f66_tree.specs.Views.{fields_of}
use Rattle.format_io.specs.Places.{depth}
use Rattle.format_io.proofs.Parts.{list_depth}
use Rattle.f66_cases.proofs.transfers.is_shallow.Given as goal

abbrev pub invariant-loop-field : goal.invariant-loop-field
invariant-loop-field l = list_depth (drop l.field-index l.fields.items) ≤ 2 → depth (fields_of l.fields.items) ≤ 2
