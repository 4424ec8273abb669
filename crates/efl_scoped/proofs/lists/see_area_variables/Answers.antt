-- The area's list is taken out, grows, and comes back.
use Rattle.std.proofs.Common.{subst, ap, ◌∙◌}
use Rattle.std.proofs.lemmas.Result.{on_ok_weaker}
use Rattle.efl_tree.specs.Views.{type_of, vars_of}
use Rattle.efl_scoped.specs.Seen.{table_of}
use Rattle.efl_scoped.specs.Told.{sorts_in}
use Rattle.efl_scoped.proofs.ListLemmas.{Taken, Put, area_variables_seen}
use Rattle.efl_scoped.proofs.lists.see_area_variables.Goals as goal

pub returns : goal.returns
returns c =
    let old = c.args.lists.now in
    let middle = c.take_list-sorts.new.lists in
    let list = c.list_variables.new.sorts in
    on_ok_weaker c.put_list.result
    (λ put. area_variables_seen (table_of c.args.numbers.now) (table_of c.list_variables.new.numbers) c.args.known.now c.list_variables.new.known old middle c.put_list.new.lists
    c.args.area.now (type_of c.args.kind.now) (vars_of c.args.list.now) c.take_list-sorts.result.items list.items c.in_ok-list_variables.ensures
    (c.take_list-sorts.ensures.taken ∙ ap (sorts_in old) c.as_bytes.ensures)
    (subst (λ a. Taken old a middle) c.as_bytes.ensures c.take_list-sorts.ensures.others)
    (subst (λ a. Put middle a list.items c.put_list.new.lists) c.as_bytes-2.ensures put))
    c.put_list.ensures
