-- The path of a place whose subscripts are constants, and that the number which the checks give it is that of its path.
use Rattle.std.specs.Prelude.{◌≡◌, ℕ, ℤ, Bool, true, false, ◌&&◌, ◌||◌, List, [], ◌∷◌, ◌++◌, Option, Some, None, is_some, option_map, option_and_then, slice_get, if◌then◌else◌}
use Rattle.std.specs.List.{list_all}
use Rattle.std.specs.Str.{bytes_eq}
use Rattle.ground.specs.declared.value.Kind.{Kind}
use Rattle.efl_tree.specs.Syntax.{Text, EflExprs, NoExpr, AndExpr, EflPlace, EflSteps, NoStep, Member, Overlay}
use Rattle.efl_tree.specs.Syntax as efl
use Rattle.efl_scope.specs.DataTypes.{DataType, Scalar, Structured, Array, NoType, Members, NoMember, AndMember, is_sound}
use Rattle.efl_types.specs.Signatures.{many}
use Rattle.efl_types.specs.Types.{subscripted, member_type}
use Rattle.efl_types.specs.Presets.{constant, offset}
use Rattle.efl_program.specs.Places.{Path, ToMember, ToElement, paths}
use Rattle.efl_typed.specs.Typing.{sort_of, index_in}

-- ---- types ----

-- each bound has an upper one, and each part a type
abbrev mutual
  pub is_sized : DataType → Bool
  is_sized (Scalar k) = true
  is_sized (Structured ms) = are_sized ms
  is_sized (Array bs t) = list_all (λ b. is_some b.high) bs && is_sized t
  is_sized NoType = false

  pub are_sized : Members → Bool
  are_sized NoMember = true
  are_sized (AndMember x t ms) = is_sized t && are_sized ms

-- the type of what stands behind the steps; what is laid over a place has none here
abbrev pub type_behind : DataType → EflSteps → DataType
type_behind t NoStep = t
type_behind t (Member x es steps) = type_behind (subscripted (member_type x t) (many es)) steps
type_behind t (Overlay x steps) = NoType

-- of a place in a variable of this type
abbrev pub type_at : DataType → EflPlace → DataType
type_at t (efl.Path x es steps) = type_behind (subscripted t (many es)) steps

-- ---- paths ----

-- a path, and one behind it
abbrev pub joined : Option Path → Option Path → Option Path
joined (Some p) (Some q) = Some (p ++ q)
joined _ _ = None

abbrev pub constants : EflExprs → Option (List ℤ)
constants NoExpr = Some []
constants (AndExpr e es) = option_and_then (λ i. option_map (λ is'. i ∷ is') (constants es)) (constant e)

-- to the element with these subscripts, if there are any
abbrev pub to_element : EflExprs → Option Path
to_element NoExpr = Some []
to_element (AndExpr e es) = option_map (λ is'. ToElement is' ∷ []) (constants (AndExpr e es))

abbrev pub has_member : Text → Members → Bool
has_member x NoMember = false
has_member x (AndMember y t ms) = bytes_eq x y || has_member x ms

abbrev pub to_member : Text → DataType → Option Path
to_member x (Structured ms) = if has_member x ms then Some (ToMember (index_in x ms) ∷ []) else None
to_member x t = None

abbrev pub path_behind : DataType → EflSteps → Option Path
path_behind t NoStep = Some []
path_behind t (Member x es steps) = joined (to_member x t) (joined (to_element es) (path_behind (subscripted (member_type x t) (many es)) steps))
path_behind t (Overlay x steps) = None

-- the path of a place in a variable of this type
abbrev pub path_of : DataType → EflPlace → Option Path
path_of t (efl.Path x es steps) = joined (to_element es) (path_behind (subscripted t (many es)) steps)

-- the scalar with the number k is at the k-th of its variable's paths; a type without a fault is a sized one
pub record PlacesHaveTheirNumbers : Type 0 where
  pub kth : (t : DataType) (p : EflPlace) (k : ℕ) (j : Kind) → is_sized t ≡ true → type_at t p ≡ Scalar j → offset t p ≡ Some k → (q : Path) × (path_of t p ≡ Some q) × (slice_get (paths (sort_of t)) k ≡ Some q)
  pub sized : (t : DataType) → is_sound t ≡ true → is_sized t ≡ true
