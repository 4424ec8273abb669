-- The structure becomes known where its name was not.
use Rattle.std.proofs.Common.{sym, ◌∙◌}
use Rattle.std.proofs.lemmas.Map.Text.{hash_map_updates_str}
use Rattle.efl_scoped.specs.Told.{shape_in}
use Rattle.efl_scoped.proofs.ShapeLemmas.{comes_now, none_there}
use Rattle.efl_scoped.proofs.shapes.Shapes.know.Goals as goal

pub returns-in_ok-insert : goal.returns-in_ok-insert
returns-in_ok-insert c =
    comes_now c.args.self.now (record { table = c.insert.new.self }) c.args.name.now c.args.shape (none_there (shape_in c.args.self.now c.args.name.now) (sym c.contains_key.ensures ∙ c.if-not-contains_key.true))
    (hash_map_updates_str c.args.name.now c.args.self.now.table c.insert.new.self _ c.in_ok-insert.ensures.updates)
