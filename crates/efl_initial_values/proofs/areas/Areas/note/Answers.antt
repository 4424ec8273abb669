-- The name is noted where it was not.
use Rattle.std.proofs.Common.{Some, sym, ◌∙◌}
use Rattle.std.proofs.lemmas.Map.Text.{hash_map_updates_str}
use Rattle.efl_initial_values.proofs.AreaLemmas.{noted_now}
use Rattle.efl_initial_values.proofs.areas.Areas.note.Goals as goal

pub returns-in_ok-insert : goal.returns-in_ok-insert
returns-in_ok-insert c =
    let name = c.args.name.now in
    let old = c.args.self.now in
    noted_now old (record { table = c.insert.new.self }) name c.args.shared (sym c.contains_key.ensures ∙ c.if-not-contains_key.true)
    (hash_map_updates_str name old.table c.insert.new.self (Some c.args.shared) c.in_ok-insert.ensures.updates)
