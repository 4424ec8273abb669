-- The list is out.
use Rattle.std.proofs.Common.{None, ap, ◌∙◌}
use Rattle.std.specs.HashMap.{get_by}
use Rattle.std.specs.Str.{bytes_eq}
use Rattle.std.proofs.lemmas.Map.Text.{hash_map_updates_str}
use Rattle.efl_initial_values.proofs.AreaLemmas.{length_of, count_taken}
use Rattle.efl_initial_values.proofs.areas.Members.take.Goals as goal

pub returns-in-Some-clause-others : goal.returns-in-Some-clause-others
returns-in-Some-clause-others c = λ q.
    let table = c.args.self.now.table in
    ap length_of (hash_map_updates_str c.args.area.now table c.remove.new.self None c.in-Some.ensures.updates q)
    ∙ count_taken (bytes_eq c.args.area.now q) (get_by (λ k. bytes_eq q k.now) table)
