-- A place within a variable in memory, as steps lead on from it.
use Rattle.std.specs.Prelude.{◌≡◌, ℕ, ◌+◌, ℤ, List, Option, Some, None}
use Rattle.std.specs.Option.{option_map, option_and_then}
use Rattle.efl_tree.specs.declared.declaration.EflBound.{EflBound}
use Rattle.efl_tree.specs.declared.expression.EflExpr as expressions
use Rattle.efl_tree.specs.Views.{expr_of}
use Rattle.efl_tree.specs.Syntax.{EflExpr, Int, EflExprs, EflSteps}
use Rattle.efl_scope.specs.DataTypes.{DataType}
use Rattle.efl_types.specs.Signatures.{many}
use Rattle.efl_types.specs.Types.{subscripted}
use Rattle.efl_types.specs.Presets.{constant, steps_to, plus, places_before, offset_behind}
use Rattle.efl_scoped.specs.Numbers.{Table}
use Rattle.efl_scoped.specs.Told.{capped}
use Rattle.efl_expressions.specs.declared.types.Structure.{Structure}
use Rattle.efl_expressions.specs.TypeViews.{IsType}
use Rattle.efl_initial_values.specs.declared.offsets.Reached.{Reached}

-- the number that an expression is
abbrev pub number_in : EflExpr → Option ℤ
number_in (Int z) = Some z
number_in _ = None

-- how many steps a subscript in memory goes on, where there is one
abbrev pub steps_if : EflBound → Option expressions.EflExpr → Option ℕ
steps_if b None = None
steps_if b (Some e) = option_and_then (steps_to b) (constant (expr_of e))

-- the number of what is so many places on from another
abbrev pub on_from : ℕ → Option ℕ → Option ℕ
on_from before o = option_map (λ n. capped (before + n)) o

-- from a place of this type the steps lead to another one, whatever steps follow
pub record LeadsTo (f : Table) (ss : List Structure) (t : DataType) (before : ℕ) (go : EflSteps → EflSteps) (r : Reached) : Type 0 where
  pub kind : DataType
  pub is : IsType f ss kind r.kind
  pub same : (rest : EflSteps) → on_from before (offset_behind t (go rest)) ≡ on_from r.before (offset_behind kind rest)

abbrev pub GoesOn : Table → List Structure → DataType → ℕ → (EflSteps → EflSteps) → Option Reached → Type 0
GoesOn f ss t before go None = (rest : EflSteps) → offset_behind t (go rest) ≡ None
GoesOn f ss t before go (Some r) = LeadsTo f ss t before go r

-- an element of a type, whatever stands behind it
pub record IsElement (f : Table) (ss : List Structure) (t : DataType) (before : ℕ) (es : EflExprs) (r : Reached) : Type 0 where
  pub is : IsType f ss (subscripted t (many es)) r.kind
  pub same : (o : Option ℕ) → on_from before (plus (places_before t es) o) ≡ on_from r.before o

abbrev pub ReachesElement : Table → List Structure → DataType → ℕ → EflExprs → Option Reached → Type 0
ReachesElement f ss t before es None = places_before t es ≡ None
ReachesElement f ss t before es (Some r) = IsElement f ss t before es r
