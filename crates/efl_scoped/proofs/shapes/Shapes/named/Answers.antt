-- A name that is no structure's gives no type.
use Rattle.efl_scoped.proofs.ShapeLemmas.{none_named}
use Rattle.efl_scoped.proofs.shapes.Shapes.named.Goals as goal

pub returns-in-None : goal.returns-in-None
returns-in-None c = λ f bs k. none_named f c.args.self.now bs c.args.name.now c.no_type.result k c.in-None.ensures.value (c.no_type.ensures f)
