-- The type, and then the sorts.
use Rattle.std.proofs.lemmas.Result.{on_ok_weaker}
use Rattle.efl_tree.specs.Views.{type_of, vars_of}
use Rattle.efl_scoped.specs.Seen.{table_of}
use Rattle.efl_scoped.proofs.SortLemmas.{variables_listed}
use Rattle.efl_scoped.proofs.lists.list_variables.Goals as goal

pub returns : goal.returns
returns c =
    let next = c.add_sorts.new in
    on_ok_weaker c.add_sorts.result
    (λ added. variables_listed (table_of c.args.numbers.now) (table_of c.see_type.new.numbers) (table_of next.numbers) c.args.known.now c.see_type.new.known (type_of c.args.kind.now)
    (vars_of c.args.list.now) c.in_ok-kind.kind c.args.sorts.now.items next.sorts.items c.in_ok-kind.ensures added)
    c.add_sorts.ensures
