-- By the blocks, or by its letter.
use Rattle.efl_scope.specs.Scopes.{implicit_type}
use Rattle.efl_names.proofs.names.Names.variable_type.Goals as goal

pub returns : goal.returns
returns c = λ f n stands.
    c.variable_type.ensures f c.args.self.now.structures.now.list.items n.blocks (implicit_type n.implied c.args.name.now) stands.blocks (c.implicit.ensures f n stands)
