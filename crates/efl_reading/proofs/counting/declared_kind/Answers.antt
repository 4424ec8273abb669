-- The type of what the name means.
use Rattle.std.proofs.Common.{sym, ap, ◌∙◌}
use Rattle.efl_scope.specs.DataTypes.{NoType}
use Rattle.efl_scope.specs.Scopes.{meaning}
use Rattle.efl_types.specs.Signatures.{type_by}
use Rattle.efl_variables.specs.Numbered.{scalar_kind}
use Rattle.efl_reading.proofs.CountingLemmas.{type_is}
use Rattle.efl_reading.proofs.counting.declared_kind.Goals as goal

pub returns : goal.returns
returns c = λ f ss bs v know is.
    let x = c.args.name.now in
    ap scalar_kind (sym (type_is (meaning bs x) v is)) ∙ c.scalar_kind.ensures f ss (type_by NoType (meaning bs x)) (c.variable_type.ensures f ss bs NoType know (c.nothing.ensures f ss))
