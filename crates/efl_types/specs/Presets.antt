-- What `initial` breaks, and which places it fills (Feldman: initial): those from its place on, to the end of the variable.
use Rattle.std.specs.Prelude.{ℕ, zero, suc, ◌+◌, ◌*◌, ℤ, ◌-ℤ◌, neg_ℤ, unsigned_abs, int_le, nat_eq, nat_lt, min, ◌-◌, Bool, true, false, not, ◌&&◌, ◌||◌, List, [], ◌∷◌, ◌++◌, sum_by, take, drop, filter, Option, Some, None, is_none, option_map, option_to_list, option_and_then, unwrap_or, if◌then◌else◌}
use Rattle.std.specs.List.{list_any}
use Rattle.std.specs.Str.{bytes_eq}
use Rattle.rule_table.specs.Words.{is_some_and, first_place}
use Rattle.ground.specs.declared.value.Kind.{Kind}
use Rattle.ground.specs.declared.value.Kind.TheVariants.{Integer, Logical}
use Rattle.efl_tree.specs.declared.declaration.EflBound.{EflBound}
use Rattle.efl_tree.specs.declared.declaration.EflConst.{EflConst}
use Rattle.efl_tree.specs.declared.declaration.EflConst.TheVariants as constants
use Rattle.efl_tree.specs.Syntax.{Text, EflExpr, Int, Plus, Minus, EflExprs, NoExpr, AndExpr, EflPlace, Path, EflSteps, NoStep, Member, Overlay, EflPreset, EflProcedure}
use Rattle.efl_scope.specs.DataTypes.{DataType, Scalar, Structured, Array, NoType, Members, NoMember, AndMember, low_of, many_from, is_from, elements, places, is_large, same_kind}
use Rattle.efl_scope.specs.Scopes.{Variable, Meaning, IsVariable, meaning, own_variables}
use Rattle.efl_scope.specs.ScopeRules.{holds}
use Rattle.efl_types.specs.declared.rule.TypeRule.{TypeRule}
use Rattle.efl_types.specs.declared.rule.TypeRule.TheVariants.{TypeClash, WrongCount, BadConstant, NotAssignable}
use Rattle.efl_types.specs.Signatures.{Names, variable_type, many}
use Rattle.efl_types.specs.Types.{subscripted, member_type, target_type, is_single}
use Rattle.efl_types.specs.Expressions.{when, place_faults, store_faults}

-- ---- where a place is ----

-- a Number with or without a sign
abbrev pub constant : EflExpr → Option ℤ
constant (Int z) = Some z
constant (Plus (Int z)) = Some z
constant (Minus (Int z)) = Some (neg_ℤ z)
constant _ = None

abbrev pub plus : Option ℕ → Option ℕ → Option ℕ
plus (Some a) (Some b) = Some (a + b)
plus _ _ = None

-- how many steps a constant subscript goes on, within its bounds
abbrev pub steps_to : EflBound → ℤ → Option ℕ
steps_to b z = if int_le (low_of b) z && is_from z b.high then Some (unsigned_abs (z -ℤ low_of b)) else None

-- how many elements stand before one, the first subscript going fastest
abbrev pub elements_before : ℕ → List EflBound → EflExprs → Option ℕ
elements_before m [] NoExpr = Some 0
elements_before m (b ∷ bs) (AndExpr e es) =
    plus (option_map (λ i. i * m) (option_and_then (steps_to b) (constant e))) (elements_before (m * many_from (low_of b) b.high) bs es)
elements_before m _ _ = None

abbrev pub places_before : DataType → EflExprs → Option ℕ
places_before t NoExpr = Some 0
places_before (Array bs t) (AndExpr e es) = option_map (λ i. i * places t) (elements_before 1 bs (AndExpr e es))
places_before t (AndExpr e es) = None

-- how many places of a structure stand before a member
abbrev pub before_member : Text → Members → Option ℕ
before_member x NoMember = None
before_member x (AndMember y t ms) = if bytes_eq x y then Some 0 else plus (Some (places t)) (before_member x ms)

abbrev pub member_offset : Text → DataType → Option ℕ
member_offset x (Structured ms) = before_member x ms
member_offset x t = None

abbrev pub offset_behind : DataType → EflSteps → Option ℕ
offset_behind t NoStep = Some 0
offset_behind t (Member x es steps) =
    plus (member_offset x t) (plus (places_before (member_type x t) es) (offset_behind (subscripted (member_type x t) (many es)) steps))
offset_behind t (Overlay x steps) = None

-- the place's number in the variable of this type, from 0
abbrev pub offset : DataType → EflPlace → Option ℕ
offset t (Path x es steps) = plus (places_before t es) (offset_behind (subscripted t (many es)) steps)

abbrev pub first_name : EflPlace → Text
first_name (Path x es steps) = x

-- ---- what may be initialised ----

-- the area that a variable is in; those of inner blocks are in none
abbrev pub area_if_outer : Variable → Option Text
area_if_outer v = if bytes_eq v.home [] then v.area else None

-- no formal, and a variable of an area in the outer block alone
abbrev pub may_begin : EflProcedure → Bool → Option Meaning → Bool
may_begin u is_outer (Some (IsVariable v)) = (is_outer || is_none (area_if_outer v)) && not (bytes_eq v.home [] && holds u.formals v.name)
may_begin u is_outer m = true

-- ---- values ----

abbrev pub constant_kind : EflConst → Kind
constant_kind (constants.Int z) = Integer
constant_kind (constants.Truth b) = Logical

-- the types of the places in order
abbrev pub repeated : ℕ → List Kind → List Kind
repeated zero ks = []
repeated (suc n) ks = ks ++ repeated n ks

abbrev mutual
  pub kinds_of : DataType → List Kind
  kinds_of (Scalar k) = k ∷ []
  kinds_of (Structured ms) = kinds_in ms
  kinds_of (Array bs t) = repeated (elements bs) (kinds_of t)
  kinds_of NoType = []

  pub kinds_in : Members → List Kind
  kinds_in NoMember = []
  kinds_in (AndMember x t ms) = kinds_of t ++ kinds_in ms

-- What has more places than a variable may have is at fault where it is declared, and its places are not asked before.
abbrev pub kinds_if_small : DataType → List Kind
kinds_if_small t = if is_large t then [] else kinds_of t

-- the types from the place on; of one that isn't found, those of the place
abbrev pub kinds_from : Option ℕ → DataType → DataType → List Kind
kinds_from None t p = kinds_if_small p
kinds_from (Some i) t p = drop i (kinds_if_small t)

abbrev pub misfit : List Kind → List (ℕ × EflConst) → Bool
misfit ks [] = false
misfit ks (c ∷ cs) = list_any (λ k. not (same_kind k (constant_kind c.1))) (take c.0 ks) || misfit (drop c.0 ks) cs

abbrev pub many_values : EflPreset → ℕ
many_values p = sum_by (λ c. c.0) p.values

-- how many places an array with `*` has is not known
abbrev pub is_open_array : DataType → Bool
is_open_array (Array bs t) = list_any (λ b. is_none b.high) bs
is_open_array t = false

-- more values than the variable has places
abbrev pub overflows : DataType → ℕ → Option ℕ → Bool
overflows t n o = not (is_large t || is_open_array t) && is_some_and (λ i. nat_lt (places t) (i + n)) o

abbrev pub preset_faults : EflProcedure → Names → Bool → EflPreset → List TypeRule
preset_faults u n is_outer p = let t = variable_type n (first_name p.place) in let o = offset t p.place in
    place_faults n p.place ++ store_faults n p.place
    ++ when (not p.listed && not (is_single (target_type n p.place))) TypeClash
    ++ when (overflows t (many_values p) o) WrongCount
    ++ when (list_any (λ c. nat_eq c.0 0) p.values || misfit (kinds_from o t (target_type n p.place)) p.values) BadConstant
    ++ when (is_none o || not (may_begin u is_outer (meaning n.blocks (first_name p.place)))) NotAssignable

-- ---- what is filled ----

-- a variable of a procedure, by its block and name, or the variable with this number in an area, which all procedures share
pub data Owner : Type 0 where
  Own : ℕ → List ℕ → Text → Owner
  OfArea : Text → ℕ → Owner

pub record Filled : Type 0 where
  pub owner : Owner
  pub first : ℕ
  pub many : ℕ

abbrev pub same_owner : Owner → Owner → Bool
same_owner (Own n h x) (Own m i y) = nat_eq n m && (bytes_eq h i && bytes_eq x y)
same_owner (OfArea q i) (OfArea r j) = bytes_eq q r && nat_eq i j
same_owner _ _ = false

abbrev pub meet : Filled → Filled → Bool
meet f g = same_owner f.owner g.owner && (nat_lt f.first (g.first + g.many) && nat_lt g.first (f.first + f.many))

-- the number of a variable among those of its area in the procedure
abbrev pub number_in_area : EflProcedure → Text → Text → ℕ
number_in_area u q x = unwrap_or (first_place (λ v. bytes_eq x v.name) (filter (λ v. is_some_and (bytes_eq q) v.area) (own_variables u))) 0

abbrev pub by_area : ℕ → EflProcedure → Variable → Option Text → Owner
by_area n u v None = Own n v.home v.name
by_area n u v (Some q) = OfArea q (number_in_area u q v.name)

-- an undeclared variable is one of the whole procedure
abbrev pub owner_by : ℕ → EflProcedure → Text → Option Meaning → Owner
owner_by n u x (Some (IsVariable v)) = by_area n u v (area_if_outer v)
owner_by n u x _ = Own n [] x

-- what a preset of the procedure with this number fills, where its place is found
abbrev pub filled_from : ℕ → EflProcedure → Names → EflPreset → ℕ → Filled
filled_from k u n p i = let x = first_name p.place in
    record { owner = owner_by k u x (meaning n.blocks x); first = i; many = min (many_values p) (places (variable_type n x) - i) }

abbrev pub filled_in : ℕ → EflProcedure → Names → EflPreset → DataType → List Filled
filled_in k u n p t = if is_large t then [] else option_to_list (option_map (filled_from k u n p) (offset t p.place))

abbrev pub filled : ℕ → EflProcedure → Names → EflPreset → List Filled
filled k u n p = filled_in k u n p (variable_type n (first_name p.place))

-- one meets an earlier one, or an earlier of its own list
abbrev pub meets_earlier : List Filled → List Filled → Bool
meets_earlier before [] = false
meets_earlier before (f ∷ fs) = list_any (meet f) before || meets_earlier (f ∷ before) fs
