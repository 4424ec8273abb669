-- A field that is not fit, one that is, and a group.
use Rattle.std.proofs.Common.{◌&&◌, ◌+◌, drop, ap, sym, ◌∙◌}
use Rattle.f66_tree.specs.Views.{fields_of}
use Rattle.f66_names.specs.StoreRules.{are_fit}
use Rattle.f66_names.proofs.FormatLemmas.{group_seen, fit_on}
use Rattle.f66_names.proofs.formats.+are_fit.Goals as goal

pub are_fit-returns-then-not-is_fit : goal.are_fit-returns-then-not-is_fit
are_fit-returns-then-not-is_fit t c =
    let xs = c.args.fields.now in
    let i = c.loop-field.field-index in
    sym (sym c.loop-field.invariant ∙ fit_on c.args.deep xs i c.field-item.result c.loop-field-test.true c.field-item.is
    ∙ ap (λ b. b && are_fit c.args.deep (fields_of (drop (i + 1) xs))) (sym c.is_fit.ensures ∙ c.if-not-is_fit.true))

pub are_fit-loop-field-preserved : goal.are_fit-loop-field-preserved
are_fit-loop-field-preserved t c =
    let xs = c.args.fields.now in
    let i = c.loop-field.field-index in
    ap (λ b. b && are_fit c.args.deep (fields_of (drop (i + 1) xs))) (sym (sym c.is_fit.ensures ∙ c.if-not-is_fit.false))
    ∙ sym (fit_on c.args.deep xs i c.field-item.result c.loop-field-test.true c.field-item.is) ∙ c.loop-field.invariant

pub is_fit-returns-in-Group : goal.is_fit-returns-in-Group
is_fit-returns-in-Group t c =
    c.is_fit_group.ensures
    ∙ group_seen (are_fit c.args.deep) c.args.field.now c.in-Group.count c.in-Group.inside c.deref.result.now c.in-Group.is c.deref.ensures.value
