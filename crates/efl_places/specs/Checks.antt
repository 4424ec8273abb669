-- What the checks of expressions, places, names and steps tell: types, and the first rule that is broken.
use Rattle.std.specs.Prelude.{◌≡◌, Bool, true, false, ◌++◌, List, Option, None, Some}
use Rattle.efl_tree.specs.Syntax.{Text, EflExpr, EflExprs, EflPlace, Path, EflSteps, NoStep, Member, Overlay}
use Rattle.efl_scope.specs.DataTypes.{DataType}
use Rattle.efl_types.specs.Signatures.{Names}
use Rattle.efl_types.specs.Types.{type_of, named_type, stepped_type, place_type, is_call, is_target_call}
use Rattle.efl_types.specs.Expressions.{has_subscripts, ends_subscripted, is_element, faults, faults_of_all, place_faults, name_faults, step_faults, takes_actual}
use Rattle.efl_scoped.specs.Numbers.{Table}
use Rattle.efl_expressions.specs.declared.types.Structure.{Structure}
use Rattle.efl_expressions.specs.FirstRule.{or_lower, first_rule}
use Rattle.efl_expressions.specs.TypeViews.{IsType}
use Rattle.efl_places.specs.declared.typed.Typed.{Typed}
use Rattle.efl_places.specs.declared.places.Placed.{Placed}
use Rattle.efl_places.specs.declared.places.Named.{Named}
use Rattle.efl_places.specs.declared.places.Reached.{Reached}

-- of an expression, by its type, and whether it is a place that ends with subscripts
pub record IsTyped (f : Table) (ss : List Structure) (n : Names) (e : EflExpr) (t : Typed) : Type 0 where
  pub kind : IsType f ss (type_of n e) t.kind
  pub element : is_element n e ≡ t.is_element
  pub rule : first_rule (faults n e) ≡ t.rule

-- the last part of a place has subscripts
abbrev pub place_ends : EflPlace → Bool
place_ends (Path x es steps) = ends_subscripted es steps

-- of a place
pub record IsPlaced (f : Table) (ss : List Structure) (n : Names) (p : EflPlace) (r : Placed) : Type 0 where
  pub kind : IsType f ss (place_type n p) r.kind
  pub call : is_target_call n p ≡ r.is_call
  pub ends : place_ends p ≡ r.is_subscripted
  pub rule : first_rule (place_faults n p) ≡ r.rule

-- of a name, and the list in its parentheses
pub record IsNamed (f : Table) (ss : List Structure) (n : Names) (x : Text) (es : EflExprs) (r : Named) : Type 0 where
  pub kind : IsType f ss (named_type n x es) r.kind
  pub call : is_call n x es ≡ r.is_call
  pub rule : first_rule (name_faults n x es ++ faults_of_all n es) ≡ r.rule

-- the last part has subscripts, or, where no step comes, what stands before
abbrev pub steps_end : Bool → EflSteps → Bool
steps_end before NoStep = before
steps_end before (Member x es steps) = steps_end (has_subscripts es) steps
steps_end before (Overlay x steps) = steps_end false steps

-- from a type over all of these steps it goes on from another over the rest alike
pub record GoesOn (f : Table) (ss : List Structure) (n : Names) (t : DataType) (start : Reached) (all rest : EflSteps) (now : Reached) : Type 0 where
  pub kind : DataType
  pub made : IsType f ss kind now.kind
  pub type : stepped_type n kind rest ≡ stepped_type n t all
  pub ends : steps_end now.is_subscripted rest ≡ steps_end start.is_subscripted all
  pub rule : or_lower now.rule (first_rule (step_faults n kind rest)) ≡ or_lower start.rule (first_rule (step_faults n t all))

-- over all steps
pub record IsReached (f : Table) (ss : List Structure) (n : Names) (t : DataType) (start : Reached) (steps : EflSteps) (now : Reached) : Type 0 where
  pub kind : IsType f ss (stepped_type n t steps) now.kind
  pub ends : steps_end start.is_subscripted steps ≡ now.is_subscripted
  pub rule : or_lower start.rule (first_rule (step_faults n t steps)) ≡ now.rule

-- ---- actuals ----

-- what has no formal is taken
abbrev pub takes_if : Names → Option DataType → EflExpr → Bool
takes_if n None e = true
takes_if n (Some t) e = takes_actual n t e
