-- No formal before has the name.
use Rattle.std.proofs.Common.{◌≡◌, drop}
use Rattle.efl_scope.specs.ScopeRules.{holds}
use Rattle.efl_storage.proofs.met.is_formal.Given as goal

abbrev pub invariant-loop-formal : goal.invariant-loop-formal
invariant-loop-formal l = holds (drop l.formal-index l.formals) l.name ≡ holds l.formals l.name
