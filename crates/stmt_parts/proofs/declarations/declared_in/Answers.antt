-- A name with its dimensions.
use Rattle.std.proofs.Common.{List, Option, Some, None, map, sym, ap, ◌∙◌}
use Rattle.f66_tree.specs.Syntax.{Par}
use Rattle.f66_tree.specs.Views.{chained, formula_of, par_of}
use Rattle.f66_tree.specs.declared.declaration.Par as memory
use Rattle.stmt_reader.specs.Declarations.{declared_in, pars_in}
use Rattle.stmt_reader.specs.Taking.{then_if}
use Rattle.stmt_parts.specs.Lists.{list_if, onto}
use Rattle.stmt_parts.proofs.ListLemmas.{onto_start}
use Rattle.stmt_parts.proofs.TreeLemmas.{item_read}
use Rattle.stmt_parts.proofs.declarations.declared_in.Goals as goal

pub returns-in-None : goal.returns-in-None
returns-in-None c =
    let all = pars_in (chained (map formula_of c.deref.result.now)) in
    item_read declared_in c.args.e c.in-Item.item c.into_inner-name.result c.deref.result.now None c.in-Item.is c.into_inner-name.ensures c.deref.ensures.value
    (ap (λ (o : Option (List Par)). then_if o (λ pars. Some (record { name = c.into_inner-name.result.0; sizes = pars })))
    (ap (list_if par_of) (sym c.in-None.is) ∙ c.in_ok-pars_in-in-Item.ensures ∙ ap (λ (b : List memory.Par). onto (map par_of b) all) c.new-in-Item.ensures.items ∙ onto_start all))

pub returns-in-Item : goal.returns-in-Item
returns-in-Item c =
    let all = pars_in (chained (map formula_of c.deref.result.now)) in
    item_read declared_in c.args.e c.in-Item.item c.into_inner-name.result c.deref.result.now (Some (record { name = c.into_inner-name.result.0; sizes = map par_of c.in-Some.sizes.items })) c.in-Item.is c.into_inner-name.ensures c.deref.ensures.value
    (ap (λ (o : Option (List Par)). then_if o (λ pars. Some (record { name = c.into_inner-name.result.0; sizes = pars })))
    (ap (list_if par_of) (sym c.in-Some.is) ∙ c.in_ok-pars_in-in-Item.ensures ∙ ap (λ (b : List memory.Par). onto (map par_of b) all) c.new-in-Item.ensures.items ∙ onto_start all))
