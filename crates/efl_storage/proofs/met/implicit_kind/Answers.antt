-- The type that its letter gives.
use Rattle.efl_scope.specs.Scopes.{implicit_type, implied_of}
use Rattle.efl_storage.proofs.met.implicit_kind.Goals as goal

pub returns : goal.returns
returns c = λ f ss us u bs sees.
    c.scalar_kind.ensures f ss (implicit_type (implied_of u) c.args.name.now) (c.implicit.ensures f ss (implied_of u) sees.letters)
