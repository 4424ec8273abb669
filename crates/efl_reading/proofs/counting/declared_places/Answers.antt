-- What is told of its type.
use Rattle.std.proofs.Common.{ap, ◌∙◌}
use Rattle.efl_scope.specs.DataTypes.{NoType}
use Rattle.efl_scope.specs.Scopes.{meaning}
use Rattle.efl_types.specs.Storage.{counted}
use Rattle.efl_reading.proofs.CountingLemmas.{type_is}
use Rattle.efl_reading.proofs.counting.declared_places.Goals as goal

pub returns : goal.returns
returns c = λ f ss bs v know is.
    let x = c.args.name.now in
    let told = (c.variable_type.ensures f ss bs NoType know (c.nothing.ensures f ss)).told in
    told.places ∙ ap counted (type_is (meaning bs x) v is)
