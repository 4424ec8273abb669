-- Those before are fit.
use Rattle.std.proofs.Common.{◌≡◌, drop}
use Rattle.f66_tree.specs.Views.{fields_of}
use Rattle.f66_names.specs.StoreRules.{are_fit}
use Rattle.f66_names.proofs.formats.+are_fit.Given as goal

abbrev pub invariant-are_fit-loop-field : goal.invariant-are_fit-loop-field
invariant-are_fit-loop-field l = are_fit l.deep (fields_of (drop l.field-index l.fields)) ≡ are_fit l.deep (fields_of l.fields)
