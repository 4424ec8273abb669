-- Those before are printed.
use Rattle.std.proofs.Common.{◌≡◌, drop}
use Rattle.f66_tree.specs.Views.{fields_of}
use Rattle.f66_names.specs.Shapes.{are_printed}
use Rattle.f66_names.proofs.shapes.+are_printed.Given as goal

abbrev pub invariant-are_printed-loop-field : goal.invariant-are_printed-loop-field
invariant-are_printed-loop-field l = are_printed (fields_of (drop l.field-index l.fields)) ≡ are_printed (fields_of l.fields)
