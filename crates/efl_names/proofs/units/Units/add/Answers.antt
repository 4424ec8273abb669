-- The procedure comes where its name was not.
use Rattle.std.proofs.Common.{sym, ◌∙◌}
use Rattle.std.proofs.lemmas.Map.Text.{hash_map_updates_str}
use Rattle.efl_scoped.proofs.ShapeLemmas.{none_there}
use Rattle.efl_expressions.proofs.NameLemmas.{comes}
use Rattle.efl_names.specs.NameViews.{unit_in}
use Rattle.efl_names.proofs.units.Units.add.Goals as goal

pub returns-in_ok-insert : goal.returns-in_ok-insert
returns-in_ok-insert c =
    comes (unit_in c.args.self.now) (unit_in (record { table = c.insert.new.self })) c.args.name.now c.args.signature
    (none_there (unit_in c.args.self.now c.args.name.now) (sym c.contains_key.ensures ∙ c.if-not-contains_key.true))
    (hash_map_updates_str c.args.name.now c.args.self.now.table c.insert.new.self _ c.in_ok-insert.ensures.updates)
