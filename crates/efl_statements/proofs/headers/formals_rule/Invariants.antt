-- What stands before has been seen.
use Rattle.std.proofs.Common.{◌≡◌, List, drop}
use Rattle.efl_scope.specs.Scopes.{Implied, Variable}
use Rattle.efl_scoped.specs.Numbers.{Table}
use Rattle.efl_expressions.specs.declared.types.Structure.{Structure}
use Rattle.efl_expressions.specs.FirstRule.{or_lower}
use Rattle.efl_names.specs.NameViews.{AreLetters}
use Rattle.efl_statements.specs.Headers.{HasNames}
use Rattle.efl_statements.proofs.HeaderLemmas.{asked}
use Rattle.efl_statements.proofs.headers.formals_rule.Given as goal

abbrev pub invariant-loop-formal : goal.invariant-loop-formal
invariant-loop-formal l = (f : Table) (ss : List Structure) (rules : List Implied) (vs : List Variable) → AreLetters f ss rules l.letters → HasNames vs l.declared →
    or_lower l.rule (asked rules vs (drop l.formal-index l.formals)) ≡ asked rules vs l.formals
