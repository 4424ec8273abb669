-- The list stands under its area.
use Rattle.std.proofs.Common.{Some, ap, ◌∙◌}
use Rattle.std.specs.HashMap.{get_by}
use Rattle.std.specs.Str.{bytes_eq}
use Rattle.std.proofs.lemmas.Map.Text.{hash_map_updates_str}
use Rattle.efl_initial_values.proofs.AreaLemmas.{length_of, count_put}
use Rattle.efl_initial_values.proofs.areas.Members.put.Goals as goal

pub returns : goal.returns
returns c = λ q.
    let table = c.args.self.now.table in
    ap length_of (hash_map_updates_str c.args.area.now table c.insert.new.self (Some c.args.list) c.in_ok-insert.ensures.updates q)
    ∙ count_put (bytes_eq c.args.area.now q) c.args.list (get_by (λ k. bytes_eq q k.now) table)
