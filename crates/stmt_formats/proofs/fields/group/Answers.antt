-- A group in memory.
use Rattle.std.proofs.Common.{ℕ, Some, ap, sym, ◌∙◌}
use Rattle.f66_tree.specs.Fields.{Group}
use Rattle.f66_tree.specs.Views.{fields_of}
use Rattle.f66_tree.proofs.Rows.{group_fields}
use Rattle.stmt_reader.specs.Formats.{grouped}
use Rattle.stmt_formats.specs.States.{fields_if}
use Rattle.stmt_formats.proofs.fields.group.Goals as goal

pub returns-in-Some : goal.returns-in-Some
returns-in-Some c =
    ap Some (group_fields c.count_of.result c.in-Some.fields)
    ∙ ap (λ (n : ℕ). Some (Group n (fields_of c.in-Some.fields.items))) c.count_of.ensures
    ∙ sym (ap (λ o. grouped c.args.count (fields_if o)) c.in-Some.is)
