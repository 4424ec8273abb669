-- The places of a variable in order, and how far a member or an element is from the first of them.
use Rattle.std.specs.Prelude.{ℕ, zero, suc, ◌+◌, ◌*◌, ◌/◌, ℤ, pos, ◌+ℤ◌, ◌-ℤ◌, unsigned_abs, int_lt, int_le, ◌&&◌, if◌then◌else◌, List, [], ◌∷◌, ◌++◌, map, Option, Some, None}
use Rattle.ground.specs.declared.trap.Trap.TheVariants.{Subscript}
use Rattle.ground.specs.declared.value.Kind.{Kind}
use Rattle.ground.specs.declared.value.Kind.TheVariants.{Integer}
use Rattle.ground.specs.Content.{Content, Whole}
use Rattle.f66_tree.specs.World.{Try, Yields, Traps, Fails, then_try}
use Rattle.efl_program.specs.Typed.{TypedBound, Sort, Scalar, Shape, Array, Sorts, NoSort, AndSort, Site, Variable, Member, Overlay, Exprs, NoExpr, AndExpr}

-- one dimension: its first subscript, and how many it has
pub record Extent : Type 0 where
  pub first : ℤ
  pub many : ℕ

-- of a bound without an upper one, with so many places a step: as many steps as an array may have places
abbrev pub steps_within : ℕ → ℕ
steps_within zero = 32767
steps_within (suc n) = 32767 / suc n

abbrev pub steps : Option ℤ → ℤ → ℕ → ℕ
steps (Some high) low n = if int_lt high low then 0 else unsigned_abs (high -ℤ low) + 1
steps None low n = steps_within n

-- the dimensions of an array whose elements have n places
abbrev pub extents : ℕ → List TypedBound → List Extent
extents n [] = []
extents n (b ∷ bs) = let m = steps b.high b.low n in record { first = b.low; many = m } ∷ extents (n * m) bs

abbrev pub all_of : List Extent → ℕ
all_of [] = 1
all_of (e ∷ es) = e.many * all_of es

-- how many places something has
abbrev mutual
  pub places : Sort → ℕ
  places (Scalar k) = 1
  places (Shape ss) = all_places ss
  places (Array bs s) = all_of (extents (places s) bs) * places s

  pub all_places : Sorts → ℕ
  all_places NoSort = 0
  all_places (AndSort s ss) = places s + all_places ss

-- how many places stand before a member
abbrev pub before : ℕ → Sorts → ℕ
before n NoSort = 0
before zero (AndSort s ss) = 0
before (suc n) (AndSort s ss) = places s + before n ss

-- how many elements stand before one: the first subscript goes fastest, and all are tested in order
abbrev pub distance : ℕ → List Content → List Extent → Try ℕ
distance m [] [] = Yields 0
distance m (Whole i ∷ is') (e ∷ es) =
    if int_le e.first i && int_lt i (e.first +ℤ pos e.many) then then_try (distance (m * e.many) is' es) (λ n. Yields (unsigned_abs (i -ℤ e.first) * m + n)) else Traps Subscript
distance m _ _ = Fails

-- how many places stand before an element of something of this sort
abbrev pub elements_before : Sort → List Content → Try ℕ
elements_before (Array bs s) is' = then_try (distance 1 is' (extents (places s) bs)) (λ n. Yields (n * places s))
elements_before s [] = Yields 0
elements_before s (i ∷ is') = Fails

-- what a name with subscripts is
abbrev pub element_of : Sort → Exprs → Sort
element_of s NoExpr = s
element_of (Array bs s) (AndExpr e es) = s
element_of s (AndExpr e es) = s

abbrev pub sort_of : Site → Sort
sort_of (Variable v s es) = element_of s es
sort_of (Member at m s es) = element_of s es
sort_of (Overlay at s) = s

-- the type of a scalar
abbrev pub kind_of : Sort → Kind
kind_of (Scalar k) = k
kind_of s = Integer

abbrev pub members_of : Sort → Sorts
members_of (Shape ss) = ss
members_of s = NoSort

-- ---- paths ----

-- a step of a path: a member, or the subscripts of an element
pub data Step : Type 0 where
  ToMember : ℕ → Step
  ToElement : List ℤ → Step

abbrev pub Path : Type 0
Path = List Step

abbrev pub flat : {A : Type 0} → List (List A) → List A
flat [] = []
flat (x ∷ xs) = x ++ flat xs

-- so many whole numbers from one on
abbrev pub counting : ℕ → ℤ → List ℤ
counting zero i = []
counting (suc n) i = i ∷ counting n (i +ℤ pos 1)

-- all subscripts, the first going fastest
abbrev pub subscripts : List Extent → List (List ℤ)
subscripts [] = [] ∷ []
subscripts (e ∷ es) = flat (map (λ is'. map (λ i. i ∷ is') (counting e.many e.first)) (subscripts es))

-- the paths of a sort in order, to each of its scalars
abbrev mutual
  pub paths : Sort → List Path
  paths (Scalar k) = [] ∷ []
  paths (Shape ss) = member_paths 0 ss
  paths (Array bs s) = flat (map (λ is'. map (λ q. ToElement is' ∷ q) (paths s)) (subscripts (extents (places s) bs)))

  pub member_paths : ℕ → Sorts → List Path
  member_paths n NoSort = []
  member_paths n (AndSort s ss) = map (λ q. ToMember n ∷ q) (paths s) ++ member_paths (n + 1) ss
