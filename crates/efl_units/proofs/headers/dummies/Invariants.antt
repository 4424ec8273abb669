-- So far the names of the formals before are listed.
use Rattle.std.proofs.Common.{◌≡◌, [], ◌++◌, List, drop, map}
use Rattle.efl_tree.specs.Syntax.{EflProcedure}
use Rattle.efl_scope.specs.Scopes.{meaning, outer}
use Rattle.efl_scope.specs.Marks.{Located, number_of, meant_by}
use Rattle.efl_variables.specs.Numbered.{AreVariables}
use Rattle.efl_emit.specs.Names.{home_of}
use Rattle.efl_units.proofs.headers.dummies.Given as goal

abbrev pub invariant-loop-formal : goal.invariant-loop-formal
invariant-loop-formal l = (xs : List Located) (u : EflProcedure) → AreVariables xs l.variables →
    l.names.items ++ map (λ x. home_of l.naming (number_of xs l.unit (meant_by [] x (meaning (outer u) x)))) (drop l.formal-index l.formals) ≡ map (λ x. home_of l.naming (number_of xs l.unit (meant_by [] x (meaning (outer u) x)))) l.formals
