-- The statements stand behind what stands before them.
use Rattle.code_emit.proofs.OpeningLemmas.{body_stands}
use Rattle.code_emit.proofs.units.put_unit.Goals as goal

pub put_body-requires : goal.put_body-requires
put_body-requires g c = body_stands (g.U.NamedUnit.layout c.args.unit.now) (g.U.NamedUnit.number c.args.unit.now) c.args.ops.now.items c.put_prologue.new.ops.items c.requires c.in_ok-put_prologue.ensures
