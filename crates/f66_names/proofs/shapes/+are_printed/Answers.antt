-- A field with another character, one without, and a group.
use Rattle.std.proofs.Common.{◌&&◌, ◌+◌, drop, ap, sym, ◌∙◌}
use Rattle.f66_tree.specs.Views.{fields_of}
use Rattle.f66_names.specs.Shapes.{are_printed}
use Rattle.f66_names.proofs.FormatLemmas.{and_end, group_seen, printed_on}
use Rattle.f66_names.proofs.shapes.+are_printed.Goals as goal

pub are_printed-returns-then-not-is_printed_field : goal.are_printed-returns-then-not-is_printed_field
are_printed-returns-then-not-is_printed_field t c =
    let xs = c.args.fields.now in
    let i = c.loop-field.field-index in
    sym (sym c.loop-field.invariant ∙ printed_on xs i c.field-item.result c.loop-field-test.true c.field-item.is
    ∙ ap (λ b. b && are_printed (fields_of (drop (i + 1) xs))) (sym c.is_printed_field.ensures ∙ c.if-not-is_printed_field.true))

pub are_printed-loop-field-preserved : goal.are_printed-loop-field-preserved
are_printed-loop-field-preserved t c =
    let xs = c.args.fields.now in
    let i = c.loop-field.field-index in
    ap (λ b. b && are_printed (fields_of (drop (i + 1) xs))) (sym (sym c.is_printed_field.ensures ∙ c.if-not-is_printed_field.false))
    ∙ sym (printed_on xs i c.field-item.result c.loop-field-test.true c.field-item.is) ∙ c.loop-field.invariant

pub is_printed_field-returns-in-Group : goal.is_printed_field-returns-in-Group
is_printed_field-returns-in-Group t c =
    c.are_printed.ensures ∙ sym (and_end (are_printed (fields_of c.deref.result.now)))
    ∙ group_seen are_printed c.args.field.now c.in-Group.field-0 c.in-Group.inside c.deref.result.now c.in-Group.is c.deref.ensures.value
