-- The types of places and expressions (Feldman: expressions; dynamic structures). What has no type clashes with nothing.
use Rattle.std.specs.Prelude.{ℕ, zero, suc, ◌==◌, Bool, true, false, ◌&&◌, length, if◌then◌else◌}
use Rattle.std.specs.Str.{bytes_eq}
use Rattle.ground.specs.declared.value.Kind.{Kind}
use Rattle.ground.specs.declared.value.Kind.TheVariants as kinds
use Rattle.efl_tree.specs.declared.expression.EflOperator.{EflOperator}
use Rattle.efl_tree.specs.declared.expression.EflOperator.TheVariants.{Add, Sub, Mul, Div, Power, And, Or, AndThen, OrElse}
use Rattle.efl_tree.specs.Syntax.{Text, EflExpr, Int, Truth, At, Call, Group, Plus, Minus, Not, Up, Down, Pair, Assign, EflExprs, NoExpr, AndExpr, EflPlace, Path, EflSteps, NoStep, Member, Overlay}
use Rattle.efl_scope.specs.DataTypes.{DataType, Scalar, Structured, Array, NoType, Members, NoMember, AndMember, same_kind}
use Rattle.efl_scope.specs.Scopes.{shape_named, structured}
use Rattle.efl_types.specs.Signatures.{Names, callee, Applied, Indexes, Calls, applied, variable_type, many, called_type}

-- ---- places ----

-- with so many subscripts
abbrev pub subscripted : DataType → ℕ → DataType
subscripted t zero = t
subscripted (Array bs t) (suc n) = if length bs == suc n then t else NoType
subscripted t (suc n) = NoType

abbrev pub in_members : Text → Members → DataType
in_members x NoMember = NoType
in_members x (AndMember y t ms) = if bytes_eq x y then t else in_members x ms

abbrev pub member_type : Text → DataType → DataType
member_type x (Structured ms) = in_members x ms
member_type x t = NoType

abbrev pub applied_type : Names → Text → ℕ → Applied → DataType
applied_type n x m (Indexes t) = subscripted t m
applied_type n x m (Calls t) = called_type (callee n x)

-- a name with its subscripts, or a call
abbrev pub named_type : Names → Text → EflExprs → DataType
named_type n x NoExpr = variable_type n x
named_type n x (AndExpr e es) = applied_type n x (many (AndExpr e es)) (applied n x)

abbrev pub stepped_type : Names → DataType → EflSteps → DataType
stepped_type n t NoStep = t
stepped_type n t (Member x es steps) = stepped_type n (subscripted (member_type x t) (many es)) steps
stepped_type n t (Overlay x steps) = stepped_type n (structured (shape_named n.blocks x)) steps

abbrev pub place_type : Names → EflPlace → DataType
place_type n (Path x es steps) = stepped_type n (named_type n x es) steps

-- ---- calls that stand where a place is wanted ----

abbrev pub calls : Applied → Bool
calls (Calls t) = true
calls (Indexes t) = false

-- a name with parentheses that is no array and no structure
abbrev pub is_call : Names → Text → EflExprs → Bool
is_call n x NoExpr = false
is_call n x (AndExpr e es) = calls (applied n x)

abbrev pub ends : EflSteps → Bool
ends NoStep = true
ends _ = false

abbrev pub is_target_call : Names → EflPlace → Bool
is_target_call n (Path x es steps) = is_call n x es && ends steps

-- what is stored into has the type of its place; a call has none there
abbrev pub target_type : Names → EflPlace → DataType
target_type n p = if is_target_call n p then NoType else place_type n p

-- ---- expressions ----

-- an array or structure is no value
abbrev pub value_type : DataType → DataType
value_type (Scalar k) = Scalar k
value_type _ = NoType

-- what an operator takes, and what it gives
abbrev pub operand : EflOperator → Kind
operand And = kinds.Logical
operand Or = kinds.Logical
operand AndThen = kinds.Logical
operand OrElse = kinds.Logical
operand _ = kinds.Integer

abbrev pub outcome : EflOperator → Kind
outcome Add = kinds.Integer
outcome Sub = kinds.Integer
outcome Mul = kinds.Integer
outcome Div = kinds.Integer
outcome Power = kinds.Integer
outcome _ = kinds.Logical

abbrev pub empty_call_type : Names → Text → Applied → DataType
empty_call_type n x (Indexes t) = NoType
empty_call_type n x (Calls t) = called_type (callee n x)

abbrev pub type_of : Names → EflExpr → DataType
type_of n (Int z) = Scalar kinds.Integer
type_of n (Truth b) = Scalar kinds.Logical
type_of n (At p) = place_type n p
type_of n (Call x es) = empty_call_type n x (applied n x)
type_of n (Group a) = value_type (type_of n a)
type_of n (Plus a) = Scalar kinds.Integer
type_of n (Minus a) = Scalar kinds.Integer
type_of n (Not a) = Scalar kinds.Logical
type_of n (Up p) = value_type (target_type n p)
type_of n (Down p) = value_type (target_type n p)
type_of n (Pair o a b) = Scalar (outcome o)
type_of n (Assign o p a) = value_type (target_type n p)

-- ---- what is asked of a type ----

-- of this kind, or without a type
abbrev pub fits : Kind → DataType → Bool
fits k (Scalar j) = same_kind k j
fits k NoType = true
fits k _ = false

abbrev pub is_single : DataType → Bool
is_single (Scalar k) = true
is_single NoType = true
is_single _ = false

-- both sides of `=` have one scalar type
abbrev pub fit_sides : DataType → DataType → Bool
fit_sides (Scalar k) t = fits k t
fit_sides NoType t = is_single t
fit_sides _ t = false
