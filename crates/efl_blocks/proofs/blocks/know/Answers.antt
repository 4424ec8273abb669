-- The structure comes, or takes the place of a variable.
use Rattle.std.proofs.Common.{sym, ◌∙◌}
use Rattle.std.proofs.lemmas.Map.Text.{hash_map_updates_str}
use Rattle.efl_expressions.specs.NameViews.{entry_in}
use Rattle.efl_blocks.proofs.WithinLemmas.{learned_now}
use Rattle.efl_blocks.proofs.blocks.know.Goals as goal

pub returns-in_ok-insert : goal.returns-in_ok-insert
returns-in_ok-insert c =
    learned_now (entry_in c.args.block.now) (entry_in (record { table = c.insert.new.self })) c.args.name.now c.args.kind (sym c.is_structure.ensures ∙ c.if-not-is_structure.true)
    (hash_map_updates_str c.args.name.now c.args.block.now.table c.insert.new.self _ c.in_ok-insert.ensures.updates)
