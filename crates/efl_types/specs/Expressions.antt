-- What expressions break, as lists of rules: each operand, subscript and actual has the type and shape that is asked for (Feldman:
-- expressions; procedures).
use Rattle.std.specs.Prelude.{ℕ, ◌==◌, Bool, true, false, not, ◌&&◌, ◌||◌, List, [], ◌∷◌, ◌++◌, length, Option, Some, None}
use Rattle.ground.specs.declared.value.Kind.{Kind}
use Rattle.ground.specs.declared.value.Kind.TheVariants as kinds
use Rattle.efl_tree.specs.Syntax.{Text, EflExpr, Int, Truth, At, Call, Group, Plus, Minus, Not, Up, Down, Pair, Assign, EflExprs, NoExpr, AndExpr, EflPlace, Path, EflSteps, NoStep, Member, Overlay}
use Rattle.efl_scope.specs.DataTypes.{DataType, Structured, Array, NoType, Members, NoMember, AndMember, is_large, is_faulty, agrees}
use Rattle.efl_scope.specs.Scopes.{Meaning, meaning, implicit_type, shape_named, structured}
use Rattle.efl_types.specs.declared.rule.TypeRule.{TypeRule}
use Rattle.efl_types.specs.declared.rule.TypeRule.TheVariants.{OutOfProfileType, TypeClash, WrongCount, MissingUnit, NotAssignable, LargeVariable}
use Rattle.efl_types.specs.Signatures.{Result, Nothing, Gives, Unknown, Names, takes, Callee, Procedure, Intrinsic, Missing, callee, Applied, Indexes, Calls, applied, many}
use Rattle.efl_types.specs.Types.{subscripted, member_type, named_type, is_call, ends, is_target_call, target_type, operand, type_of, fits, is_single, fit_sides}

abbrev pub when : Bool → TypeRule → List TypeRule
when false r = []
when true r = r ∷ []

abbrev pub lacks_type : DataType → Bool
lacks_type NoType = true
lacks_type _ = false

-- ---- names ----

-- an undeclared variable has a type, and one that isn't too large
abbrev pub undeclared_faults : DataType → Option Meaning → List TypeRule
undeclared_faults t (Some m) = []
undeclared_faults t None = when (lacks_type t) OutOfProfileType ++ when (is_large t) LargeVariable

abbrev pub variable_faults : Names → Text → List TypeRule
variable_faults n x = undeclared_faults (implicit_type n.implied x) (meaning n.blocks x)

-- ---- subscripts ----

abbrev pub wants : Names → Kind → EflExpr → List TypeRule
wants n k e = when (not (fits k (type_of n e))) TypeClash

abbrev pub all_want : Names → Kind → EflExprs → List TypeRule
all_want n k NoExpr = []
all_want n k (AndExpr e es) = wants n k e ++ all_want n k es

-- an array has as many subscripts as bounds, and nothing else has any
abbrev pub takes_subscripts : DataType → ℕ → Bool
takes_subscripts (Array bs t) m = length bs == m
takes_subscripts NoType m = true
takes_subscripts t m = false

abbrev pub subscript_faults : Names → DataType → EflExprs → List TypeRule
subscript_faults n t NoExpr = []
subscript_faults n t (AndExpr e es) = when (not (takes_subscripts t (many (AndExpr e es)))) WrongCount ++ all_want n kinds.Integer (AndExpr e es)

-- ---- steps ----

abbrev pub has_member : Text → DataType → Bool
has_member x NoType = true
has_member x (Structured ms) = not (lacks_type (member_type x (Structured ms)))
has_member x t = false

abbrev pub element_of : DataType → DataType
element_of (Array bs t) = t
element_of t = t

-- the type of what is left of `->` is one of the types in the structure, arrays by their elements
abbrev pub is_among : DataType → Members → Bool
is_among t NoMember = false
is_among t (AndMember x u ms) = agrees t (element_of u) || is_among t ms

abbrev pub may_lie : DataType → DataType → Bool
may_lie NoType s = true
may_lie t (Structured ms) = is_among (element_of t) ms
may_lie t s = true

-- ---- calls ----

abbrev pub has_subscripts : EflExprs → Bool
has_subscripts NoExpr = false
has_subscripts (AndExpr e es) = true

-- a place whose last part has subscripts
abbrev pub ends_subscripted : EflExprs → EflSteps → Bool
ends_subscripted es NoStep = has_subscripts es
ends_subscripted es (Member x fs steps) = ends_subscripted fs steps
ends_subscripted es (Overlay x steps) = ends_subscripted NoExpr steps

abbrev pub is_element : Names → EflExpr → Bool
is_element n (At (Path x es steps)) = not (is_target_call n (Path x es steps)) && ends_subscripted es steps
is_element n _ = false

-- an array formal takes a whole array, or an element, by the type of the elements alone
abbrev pub takes_array : DataType → Bool → DataType → Bool
takes_array t element (Array bs u) = agrees t u
takes_array t element NoType = true
takes_array t element u = element && agrees t u

-- what is no array takes no whole array, unless it has a fault itself
abbrev pub takes_other : DataType → DataType → Bool
takes_other t (Array bs u) = is_faulty t
takes_other t u = agrees t u

abbrev pub takes_actual : Names → DataType → EflExpr → Bool
takes_actual n (Array bs t) e = takes_array t (is_element n e) (type_of n e)
takes_actual n t e = takes_other t (type_of n e)

-- pair by pair, up to the shorter list
abbrev pub take_actuals : Names → List DataType → EflExprs → Bool
take_actuals n (t ∷ ts) (AndExpr e es) = takes_actual n t e && take_actuals n ts es
take_actuals n _ _ = true

-- the actuals of a call
abbrev pub actual_faults : Names → Callee → EflExprs → List TypeRule
actual_faults n Missing es = MissingUnit ∷ []
actual_faults n (Procedure s) es = when (not (length s.formals == many es)) WrongCount ++ when (not (take_actuals n s.formals es)) TypeClash
actual_faults n (Intrinsic a) es = when (not (takes a (many es))) WrongCount ++ all_want n kinds.Integer es

abbrev pub gives : DataType → Result → Bool
gives t Nothing = false
gives t (Gives k) = fits k t
gives t Unknown = true

-- a call as a value gives one, of the type of a declared scalar of its name
abbrev pub gives_value : DataType → Callee → Bool
gives_value t Missing = true
gives_value t (Intrinsic a) = fits kinds.Integer t
gives_value t (Procedure s) = gives t s.result

abbrev pub call_faults : Names → Text → EflExprs → DataType → List TypeRule
call_faults n x es t = when (not (gives_value t (callee n x))) TypeClash ++ actual_faults n (callee n x) es

abbrev pub applied_faults : Names → Text → EflExprs → Applied → List TypeRule
applied_faults n x es (Indexes t) = subscript_faults n t es
applied_faults n x es (Calls t) = call_faults n x es t

-- a name by itself, with subscripts, or a call
abbrev pub name_faults : Names → Text → EflExprs → List TypeRule
name_faults n x NoExpr = variable_faults n x
name_faults n x (AndExpr e es) = applied_faults n x (AndExpr e es) (applied n x)

-- a call with empty parentheses; an array or structure is none
abbrev pub empty_call_faults : Names → Text → EflExprs → Applied → List TypeRule
empty_call_faults n x es (Indexes t) = TypeClash ∷ []
empty_call_faults n x es (Calls t) = call_faults n x es t

-- ---- expressions ----

abbrev pub wants_single : Names → EflExpr → List TypeRule
wants_single n e = when (not (is_single (type_of n e))) TypeClash

-- a place that is stored into is no call
abbrev pub store_faults : Names → EflPlace → List TypeRule
store_faults n p = when (is_target_call n p) NotAssignable

abbrev pub store_wants : Names → Kind → EflPlace → List TypeRule
store_wants n k p = store_faults n p ++ when (not (fits k (target_type n p))) TypeClash

abbrev mutual
  pub faults : Names → EflExpr → List TypeRule
  faults n (Int z) = []
  faults n (Truth b) = []
  faults n (At p) = place_faults n p
  faults n (Call x es) = empty_call_faults n x es (applied n x) ++ faults_of_all n es
  faults n (Group a) = wants_single n a ++ faults n a
  faults n (Plus a) = wants n kinds.Integer a ++ faults n a
  faults n (Minus a) = wants n kinds.Integer a ++ faults n a
  faults n (Not a) = wants n kinds.Logical a ++ faults n a
  faults n (Up p) = store_wants n kinds.Integer p ++ place_faults n p
  faults n (Down p) = store_wants n kinds.Integer p ++ place_faults n p
  faults n (Pair o a b) = wants n (operand o) a ++ wants n (operand o) b ++ faults n a ++ faults n b
  faults n (Assign None p a) = store_faults n p ++ when (not (fit_sides (target_type n p) (type_of n a))) TypeClash ++ place_faults n p ++ faults n a
  faults n (Assign (Some o) p a) = store_wants n (operand o) p ++ wants n (operand o) a ++ place_faults n p ++ faults n a

  pub faults_of_all : Names → EflExprs → List TypeRule
  faults_of_all n NoExpr = []
  faults_of_all n (AndExpr e es) = faults n e ++ faults_of_all n es

  -- no step stands behind a call
  pub place_faults : Names → EflPlace → List TypeRule
  place_faults n (Path x es steps) =
      name_faults n x es ++ when (is_call n x es && not (ends steps)) TypeClash ++ faults_of_all n es ++ step_faults n (named_type n x es) steps

  pub step_faults : Names → DataType → EflSteps → List TypeRule
  step_faults n t NoStep = []
  step_faults n t (Member x es steps) =
      when (not (has_member x t)) TypeClash ++ subscript_faults n (member_type x t) es ++ faults_of_all n es ++ step_faults n (subscripted (member_type x t) (many es)) steps
  step_faults n t (Overlay x steps) =
      when (not (may_lie t (structured (shape_named n.blocks x)))) TypeClash ++ step_faults n (structured (shape_named n.blocks x)) steps
