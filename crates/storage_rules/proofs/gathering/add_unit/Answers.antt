-- One statement more gives its places.
use Rattle.std.proofs.Common.{◌++◌, map}
use Rattle.f66_tree.specs.Views.{line_of}
use Rattle.f66_program.specs.Initial.{line_presets}
use Rattle.f66_mentions.specs.UnitViews.{context_in}
use Rattle.storage_rules.specs.Presets.{preset_seen}
use Rattle.storage_rules.proofs.StepLemmas.{line_step}
use Rattle.storage_rules.proofs.gathering.add_unit.Goals as goal

pub loop-part-preserved : goal.loop-part-preserved
loop-part-preserved c =
    let xs = c.args.unit.now.statements.items in
    let names = context_in c.in_ok-names.names in
    line_step line_of c.args.number names xs c.loop-part.part c.statement-item.result (map preset_seen c.loop-part.presets.items) (map preset_seen c.add_statement.new.presets.items)
    (map preset_seen c.args.presets.now.items ++ line_presets c.args.number 0 names (map line_of xs))
    (rw c.deref-statement-items.ensures.value at c.loop-part-test.true) (rw c.deref-statement-items.ensures.value at c.statement-item.is) c.in_ok-add_statement.ensures c.loop-part.invariant
