-- Numbers that equal types share: pairs have them in a table, and types by those of their parts.
use Rattle.std.specs.Prelude.{◌≡◌, ◌<◌, ◌≤◌, ◌+◌, ℕ, ℤ, pos, unsigned_abs, int_lt, List, [], ◌∷◌, ◌++◌, flat_map, Option, Some, None, unwrap_or, option_map, option_and_then, nat_eq, ◌&&◌, if◌then◌else◌}
use Rattle.std.specs.HashMap.{HashMap, get_by, hash_map_len}
use Rattle.ground.specs.declared.value.Kind.TheVariants.{Integer, Logical}
use Rattle.efl_tree.specs.declared.declaration.EflBound.{EflBound}
use Rattle.efl_scope.specs.DataTypes.{DataType, Scalar, Structured, Array, NoType, Members, NoMember, AndMember, low_of}

-- ---- pairs ----

abbrev pub Table : Type 0
Table = ℕ → ℕ → Option ℕ

-- a later table has the numbers of an earlier one
abbrev pub Grows : Table → Table → Type 0
Grows f g = (a b n : ℕ) → f a b ≡ Some n → g a b ≡ Some n

-- pairs that share a number are equal
abbrev pub AreDistinct : Table → Type 0
AreDistinct f = (a b c d n : ℕ) → f a b ≡ Some n → f c d ≡ Some n → (a ≡ c) × (b ≡ d)

-- the first four numbers are no pair's
abbrev pub AreAbove : Table → Type 0
AreAbove f = (a b n : ℕ) → f a b ≡ Some n → 4 ≤ n

module _ {S : Type 0} where
  abbrev pub number_in : HashMap (ℕ × ℕ) ℕ S → Table
  number_in table a b = get_by (λ k. nat_eq a k.0 && nat_eq b k.1) table

  abbrev pub AreBelow : HashMap (ℕ × ℕ) ℕ S → Type 0
  AreBelow table = (a b n : ℕ) → number_in table a b ≡ Some n → n < hash_map_len table + 4

-- from a number on, each next one is that of the pair of the one before and a word
abbrev pub along : Table → List ℕ → ℕ → Option ℕ
along f [] k = Some k
along f (w ∷ ws) k = option_and_then (along f ws) (f k w)

-- ---- types ----

abbrev pub sign_of : ℤ → ℕ
sign_of z = if int_lt z (pos 0) then 1 else 0

abbrev pub value_words : ℤ → List ℕ
value_words z = sign_of z ∷ unsigned_abs z ∷ []

abbrev pub bound_words : EflBound → List ℕ
bound_words b = value_words (low_of b) ++ value_words (unwrap_or b.high (pos 0))

-- 0 and 1 are scalars, from 2 on go the members of a structure, from 3 on the type of an array's elements and its bounds
abbrev mutual
  pub number : Table → DataType → Option ℕ
  number f (Scalar Integer) = Some 0
  number f (Scalar Logical) = Some 1
  number f (Structured ms) = option_and_then (λ ws. along f ws 2) (numbers f ms)
  number f (Array bs t) = option_and_then (λ w. along f (w ∷ flat_map bound_words bs) 3) (number f t)
  number f NoType = None

  pub numbers : Table → Members → Option (List ℕ)
  numbers f NoMember = Some []
  numbers f (AndMember x t ms) = option_and_then (λ w. option_map (λ ws. w ∷ ws) (numbers f ms)) (number f t)

-- on from a number by the members
abbrev pub number_from : Table → Members → ℕ → Option ℕ
number_from f ms k = option_and_then (λ ws. along f ws k) (numbers f ms)
