-- The area gets its first procedure where it had none.
use Rattle.std.proofs.Common.{sym, ◌∙◌}
use Rattle.std.proofs.lemmas.Map.Text.{hash_map_updates_str}
use Rattle.efl_scoped.proofs.ShapeLemmas.{none_there}
use Rattle.efl_storage.specs.Firsts.{first_in}
use Rattle.efl_storage.proofs.FirstLemmas.{area_comes}
use Rattle.efl_storage.proofs.firsts.Firsts.note.Goals as goal

pub returns-in_ok-insert : goal.returns-in_ok-insert
returns-in_ok-insert c =
    area_comes (first_in c.args.self.now) (first_in (record { table = c.insert.new.self })) c.args.area.now c.args.unit
    (none_there (first_in c.args.self.now c.args.area.now) (sym c.contains_key.ensures ∙ c.if-not-contains_key.true))
    (hash_map_updates_str c.args.area.now c.args.self.now.table c.insert.new.self _ c.in_ok-insert.ensures.updates)
