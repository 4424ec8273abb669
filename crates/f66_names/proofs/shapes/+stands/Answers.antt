-- A name with arguments.
use Rattle.std.proofs.Common.{◌∙◌, ap, sym, ◌&&◌, arith}
use Rattle.f66_tree.specs.Views.{formulas_of}
use Rattle.f66_tree.proofs.Rows.{item_seen}
use Rattle.f66_names.specs.Shapes.{stands, are_arguments}
use Rattle.f66_names.proofs.FormulaLemmas.{some_arguments}
use Rattle.f66_names.proofs.shapes.+stands.Goals as goal

pub are_arguments-returns-then-not-is_empty : goal.are_arguments-returns-then-not-is_empty
are_arguments-returns-then-not-is_empty t c = c.stand_all.ensures ∙ some_arguments c.args.list.now (grind arith)

pub stands-returns-then-is_name : goal.stands-returns-then-is_name
stands-returns-then-is_name t c =
    let seen = c.deref-then-is_name.result.now in
    c.are_arguments.ensures
    ∙ ap (λ b. b && are_arguments (formulas_of seen)) (sym (sym c.is_name-in-Item.ensures ∙ c.if-is_name.true))
    ∙ item_seen (stands c.args.at) c.args.e.now c.in-Item.item c.deref.result.now seen c.in-Item.is c.deref.ensures c.deref-then-is_name.ensures.value
