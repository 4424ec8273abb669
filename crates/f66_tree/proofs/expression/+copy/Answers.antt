-- The copy of an element, or of a function reference, is one of the same name and list.
use Rattle.std.proofs.Common.{map, ap, ◌∙◌}
use Rattle.f66_tree.specs.Views.{formula_of}
use Rattle.f66_tree.proofs.Rows.{item_copied}
use Rattle.f66_tree.proofs.expression.+copy.Goals as goal

pub copy_expr-returns-in_ok-new-in-Item : goal.copy_expr-returns-in_ok-new-in-Item
copy_expr-returns-in_ok-new-in-Item t c =
    let box = c.in_ok-new-in-Item.ensures.ok in
    item_copied c.args.e.now c.in-Item.item c.in_ok-new-in-Item.field-0 c.deref.result.now c.in-Item.is c.deref.ensures
    (ap (λ v. v.0) box ∙ c.in_ok-name-in-Item.ensures)
    (ap (λ v. map formula_of v.1.items) box ∙ c.in_ok-list-in-Item.ensures ∙ ap (map formula_of) c.deref-in-Item.ensures.value)
