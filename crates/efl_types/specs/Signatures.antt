-- What a call has to know of procedures, and what the name before parentheses is (Feldman: procedures; primaries).
use Rattle.std.specs.Prelude.{ℕ, ◌+◌, ◌==◌, nat_le, Bool, List, map, find, filter_map, codes, Option, Some, None, is_some, if◌then◌else◌}
use Rattle.std.specs.Str.{bytes_eq}
use Rattle.ground.specs.declared.value.Kind.{Kind}
use Rattle.ground.specs.declared.value.Kind.TheVariants as kinds
use Rattle.efl_tree.specs.Syntax.{Text, EflExprs, NoExpr, AndExpr, EflType, Integer, Logical, EflProcedure}
use Rattle.efl_scope.specs.DataTypes.{DataType, Scalar, Array, Structured, NoType}
use Rattle.efl_scope.specs.Scopes.{Variable, Blocks, Implied, IsVariable, Meaning, meaning, variable_if, outer, implicit_type}

-- what a procedure gives: nothing, a scalar, or, where its type has a fault, no one knows what
pub data Result : Type 0 where
  Nothing : Result
  Gives : Kind → Result
  Unknown : Result

pub record Signature : Type 0 where
  pub name : Text
  pub formals : List DataType
  pub result : Result

abbrev pub result_of : Option EflType → Result
result_of None = Nothing
result_of (Some Integer) = Gives kinds.Integer
result_of (Some Logical) = Gives kinds.Logical
result_of (Some _) = Unknown

abbrev pub type_if : Option Variable → DataType
type_if None = NoType
type_if (Some v) = v.kind

abbrev pub formal_types : EflProcedure → List DataType
formal_types u = map (λ x. type_if (variable_if (meaning (outer u) x))) u.formals

abbrev pub signed : EflProcedure → Text → Signature
signed u x = record { name = x; formals = formal_types u; result = result_of u.result }

abbrev pub signature_if : EflProcedure → Option Text → Option Signature
signature_if u None = None
signature_if u (Some x) = Some (signed u x)

-- the procedures that have a name
abbrev pub signatures : List EflProcedure → List Signature
signatures us = filter_map (λ u. signature_if u u.name) us

-- what the names of a part mean: the blocks, the letters of its procedure, the procedures, and what its own one gives
pub record Names : Type 0 where
  pub blocks : Blocks
  pub implied : List Implied
  pub units : List Signature
  pub result : Result

-- ---- names with parentheses ----

-- the intrinsic functions, all of integers: how many arguments they take
pub data Arity : Type 0 where
  One : Arity
  Two : Arity
  TwoOrMore : Arity

abbrev pub known : Text → Option Arity
known x =
    if bytes_eq x (codes "ABS") then Some One else
    if bytes_eq x (codes "MOD") then Some Two else
    if bytes_eq x (codes "SIGN") then Some Two else
    if bytes_eq x (codes "MIN") then Some TwoOrMore else
    if bytes_eq x (codes "MAX") then Some TwoOrMore else None

abbrev pub takes : Arity → ℕ → Bool
takes One n = n == 1
takes Two n = n == 2
takes TwoOrMore n = nat_le 2 n

-- what is called: the first procedure of the name goes before an intrinsic function
pub data Callee : Type 0 where
  Procedure : Signature → Callee
  Intrinsic : Arity → Callee
  Missing : Callee

abbrev pub known_if : Option Arity → Callee
known_if None = Missing
known_if (Some a) = Intrinsic a

abbrev pub callee_by : Text → Option Signature → Callee
callee_by x None = known_if (known x)
callee_by x (Some s) = Procedure s

abbrev pub callee : Names → Text → Callee
callee n x = callee_by x (find (λ s. bytes_eq x s.name) n.units)

-- A name before parentheses: an array or structure, or a call, where a declared scalar of the name asks for its type.
pub data Applied : Type 0 where
  Indexes : DataType → Applied
  Calls : DataType → Applied

abbrev pub applied_as : DataType → Applied
applied_as (Structured ms) = Indexes (Structured ms)
applied_as (Array bs t) = Indexes (Array bs t)
applied_as t = Calls t

abbrev pub applied_by : Option Meaning → Applied
applied_by (Some (IsVariable v)) = applied_as v.kind
applied_by _ = Calls NoType

abbrev pub applied : Names → Text → Applied
applied n x = applied_by (meaning n.blocks x)

-- a declared variable or a formal
abbrev pub is_variable : Names → Text → Bool
is_variable n x = is_some (variable_if (meaning n.blocks x))

-- a name without parentheses: a variable, which is one of its letter's type where it isn't declared
abbrev pub type_by : DataType → Option Meaning → DataType
type_by t (Some (IsVariable v)) = v.kind
type_by t (Some m) = NoType
type_by t None = t

abbrev pub variable_type : Names → Text → DataType
variable_type n x = type_by (implicit_type n.implied x) (meaning n.blocks x)

abbrev pub many : EflExprs → ℕ
many NoExpr = 0
many (AndExpr e es) = many es + 1

abbrev pub gives_type : Result → DataType
gives_type (Gives k) = Scalar k
gives_type _ = NoType

abbrev pub called_type : Callee → DataType
called_type (Procedure s) = gives_type s.result
called_type (Intrinsic a) = Scalar kinds.Integer
called_type Missing = NoType
