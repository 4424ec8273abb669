-- A name with a list behind it.
use Rattle.std.proofs.Common.{◌||◌, ap, sym, ◌∙◌}
use Rattle.f66_tree.specs.Views.{formulas_of}
use Rattle.stmt_reader.specs.Faults.{formula_has, formulas_have}
use Rattle.stmt_faults.specs.Asking.{asked_of}
use Rattle.f66_tree.proofs.Rows.{item_seen}
use Rattle.stmt_faults.proofs.expressions.+formula_has.Goals as goal

pub formula_has-returns-else-of_name : goal.formula_has-returns-else-of_name
formula_has-returns-else-of_name t c =
    c.formulas_have.ensures
    ∙ ap (λ b. b || formulas_have (asked_of c.args.ask) (formulas_of c.deref-else-of_name.result.now)) (sym (sym c.of_name-in-Item.ensures ∙ c.if-of_name.false))
    ∙ item_seen (formula_has (asked_of c.args.ask)) c.args.e.now c.in-Item.item c.deref.result.now c.deref-else-of_name.result.now c.in-Item.is c.deref.ensures c.deref-else-of_name.ensures.value
