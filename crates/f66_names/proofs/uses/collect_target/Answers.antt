-- A target with parentheses.
use Rattle.std.proofs.Common.{map, arith}
use Rattle.f66_tree.specs.Views.{formula_of, formulas_of}
use Rattle.f66_names.specs.declared.name_form.Manner.TheVariants.{Stored}
use Rattle.f66_names.specs.Uses.{usage, uses_of_target, uses_of_all}
use Rattle.f66_names.specs.UseViews.{use_of}
use Rattle.f66_names.proofs.FormulaLemmas.{target_uses, used_behind}
use Rattle.f66_names.proofs.uses.collect_target.Goals as goal

pub returns-in_ok-add-in-Item : goal.returns-in_ok-add-in-Item
returns-in_ok-add-in-Item c =
    used_behind c.collect_all.result (map use_of c.args.uses.now.items) (map use_of c.add.new.uses.items) (map use_of c.collect_all.new.uses.items)
    (uses_of_all (formulas_of c.deref-in-Item.result.now)) (uses_of_target (formula_of c.args.e.now)) (usage c.deref.result.now.0 (Stored c.len.result))
    c.in_ok-add-in-Item.ensures
    (target_uses c.args.e.now c.in-Item.item c.deref.result.now c.deref-in-Item.result.now c.len.result c.in-Item.is c.deref.ensures c.deref-in-Item.ensures.value (grind arith)) c.collect_all.ensures
