-- One name more is added.
use Rattle.std.proofs.Common.{◌∙◌, sym}
use Rattle.std.proofs.Math.ListN.{drop_of_length-le}
use Rattle.efl_emit.specs.Names.{home_of}
use Rattle.efl_room.proofs.Rows.{next_copied}
use Rattle.efl_units.proofs.Mapped.{mapped_more, mapped_over}
use Rattle.efl_units.proofs.name_lists.add_homes.Goals as goal

pub loop-variable-preserved : goal.loop-variable-preserved
loop-variable-preserved c =
    let next = next_copied c.args.variables.now c.loop-variable.variable-index 0 c.loop-variable-test.true in
    mapped_more (home_of c.args.naming.now) _ _ _ _ _ _ next c.in_ok-push.ensures.items c.in_ok-name.ensures ∙ c.loop-variable.invariant

pub returns : goal.returns
returns c = sym (mapped_over (home_of c.args.naming.now) _ _ (drop_of_length-le c.args.variables.now c.loop-variable-test.false)) ∙ c.loop-variable.invariant
