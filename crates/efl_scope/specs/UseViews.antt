-- The two flaws that a use of a name can have.
use Rattle.std.specs.Prelude.{Bool}
use Rattle.efl_scope.specs.declared.uses.Flaw.{Flaw}
use Rattle.efl_scope.specs.declared.uses.Flaw.TheVariants.{LaidOver, Misused}
use Rattle.efl_scope.specs.Uses.{Use}
use Rattle.efl_scope.specs.ScopeRules.{Names, lays_none, misuses}

abbrev pub is_flawed : Flaw → Names → Use → Bool
is_flawed LaidOver known u = lays_none known u
is_flawed Misused known u = misuses known u
