-- The variable comes where its name was not.
use Rattle.std.proofs.Common.{sym, ◌∙◌}
use Rattle.std.proofs.lemmas.Map.Text.{hash_map_updates_str}
use Rattle.efl_scoped.proofs.ShapeLemmas.{none_there}
use Rattle.efl_expressions.specs.declared.names.Meaning.TheVariants.{Variable}
use Rattle.efl_expressions.specs.NameViews.{entry_in}
use Rattle.efl_expressions.proofs.NameLemmas.{comes}
use Rattle.efl_expressions.proofs.names.Block.declare.Goals as goal

pub returns-in_ok-insert : goal.returns-in_ok-insert
returns-in_ok-insert c =
    comes (entry_in c.args.self.now) (entry_in (record { table = c.insert.new.self })) c.args.name.now (Variable c.args.kind)
    (none_there (entry_in c.args.self.now c.args.name.now) (sym c.contains_key.ensures ∙ c.if-not-contains_key.true))
    (hash_map_updates_str c.args.name.now c.args.self.now.table c.insert.new.self _ c.in_ok-insert.ensures.updates)
