-- The list stands under its area.
use Rattle.std.proofs.Common.{Some, ap, ◌∙◌}
use Rattle.std.specs.HashMap.{get_by}
use Rattle.std.specs.Option.{option_map}
use Rattle.std.specs.Str.{bytes_eq}
use Rattle.std.proofs.lemmas.Map.Text.{hash_map_updates_str}
use Rattle.efl_scoped.proofs.ListLemmas.{list_put}
use Rattle.efl_scoped.proofs.lists.put_list.Goals as goal

pub returns : goal.returns
returns c = λ q.
    let table = c.args.lists.now.table in
    ap (option_map (λ v. v.items)) (hash_map_updates_str c.args.area.now table c.insert.new.self (Some c.args.list) c.in_ok-insert.ensures.updates q)
    ∙ list_put (bytes_eq c.args.area.now q) c.args.list (get_by (λ k. bytes_eq q k.now) table)
