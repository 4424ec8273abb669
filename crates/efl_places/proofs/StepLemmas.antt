-- Steps one by one.
use Rattle.std.proofs.Common.{List, refl, sym, subst, ◌∙◌}
use Rattle.efl_tree.specs.Syntax.{EflSteps, NoStep}
use Rattle.efl_scope.specs.DataTypes.{DataType}
use Rattle.efl_types.specs.Signatures.{Names}
use Rattle.efl_expressions.specs.declared.types.Structure.{Structure}
use Rattle.efl_expressions.specs.TypeViews.{IsType}
use Rattle.efl_scoped.specs.Numbers.{Table}
use Rattle.efl_places.specs.declared.places.Reached.{Reached}
use Rattle.efl_places.specs.Checks.{GoesOn, IsReached}
use Rattle.efl_places.proofs.RuleLemmas.{lower_none}

pub goes_from : (f : Table) (ss : List Structure) (n : Names) (t : DataType) (start : Reached) (all : EflSteps) → IsType f ss t start.kind → GoesOn f ss n t start all all start
goes_from f ss n t start all made = record { kind = t; made = made; type = refl; ends = refl; rule = refl }

pub goes_further : (f : Table) (ss : List Structure) (n : Names) (t : DataType) (start now next : Reached) (all more rest : EflSteps) (g : GoesOn f ss n t start all more now) →
    GoesOn f ss n g.kind now more rest next → GoesOn f ss n t start all rest next
goes_further f ss n t start now next all more rest g h = record { kind = h.kind; made = h.made; type = h.type ∙ g.type; ends = h.ends ∙ g.ends; rule = h.rule ∙ g.rule }

pub goes_to_end : (f : Table) (ss : List Structure) (n : Names) (t : DataType) (start now : Reached) (all : EflSteps) → GoesOn f ss n t start all NoStep now → IsReached f ss n t start all now
goes_to_end f ss n t start now all g = record { kind = subst (λ u. IsType f ss u now.kind) g.type g.made; ends = sym g.ends; rule = sym g.rule ∙ lower_none now.rule }
