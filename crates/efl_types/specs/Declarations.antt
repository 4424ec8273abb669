-- What headers, declarations of variables and groups break (Feldman: declarations; procedures).
use Rattle.std.specs.Prelude.{nat_lt, Bool, true, false, not, ◌&&◌, ◌||◌, List, [], ◌∷◌, ◌++◌, length, flat_map, Option, Some, is_none}
use Rattle.std.specs.List.{list_any}
use Rattle.efl_tree.specs.declared.declaration.EflBound.{EflBound}
use Rattle.efl_tree.specs.Syntax.{Text, EflVar, EflType, Shape, EflProcedure}
use Rattle.efl_scope.specs.DataTypes.{DataType, is_closed, is_large}
use Rattle.efl_scope.specs.Scopes.{Variable, of_bounds, implied_of, own_variables, undeclared}
use Rattle.efl_scope.specs.ScopeRules.{holds}
use Rattle.efl_types.specs.declared.rule.TypeRule.{TypeRule}
use Rattle.efl_types.specs.declared.rule.TypeRule.TheVariants.{OutOfProfileType, TypeClash, WrongCount, BadConstant, LargeVariable}
use Rattle.efl_types.specs.Expressions.{when, lacks_type}

-- `*`
abbrev pub is_open : EflBound → Bool
is_open b = is_none b.high

-- no lower bound is above its upper one; `*` stands as the last bound of a formal alone
abbrev pub are_bounds : Bool → List EflBound → Bool
are_bounds formal [] = true
are_bounds formal (b ∷ []) = is_closed b || (formal && is_open b)
are_bounds formal (b ∷ c ∷ bs) = is_closed b && are_bounds formal (c ∷ bs)

-- at most seven bounds, and 32,767 places, of which an array with `*` has its own count
abbrev pub size_faults : Bool → DataType → EflVar → List TypeRule
size_faults formal t v =
    when (nat_lt 7 (length v.bounds)) WrongCount ++ when (not (are_bounds formal v.bounds)) BadConstant
    ++ when (not (list_any is_open v.bounds) && is_large (of_bounds t v)) LargeVariable

-- variables of one type, some of them formals
abbrev pub variable_sizes : List Text → DataType → List EflVar → List TypeRule
variable_sizes formals t vs = flat_map (λ v. size_faults (holds formals v.name) t v) vs

-- a formal that isn't declared
abbrev pub formal_faults : Variable → List TypeRule
formal_faults v = when (lacks_type v.kind) OutOfProfileType ++ when (is_large v.kind) LargeVariable

abbrev pub is_shape : Option EflType → Bool
is_shape (Some (Shape o gs)) = true
is_shape _ = false

-- a procedure has at most 32 formals, and is of a scalar type
abbrev pub header_faults : EflProcedure → List TypeRule
header_faults u =
    flat_map formal_faults (undeclared (implied_of u) (own_variables u) u.formals)
    ++ when (is_shape u.result) TypeClash ++ when (nat_lt 32 (length u.formals)) WrongCount
