-- How far the places of a sort are from its first one, by their paths: the members before, and the elements before.
use Rattle.std.specs.Prelude.{◌≡◌, ℕ, zero, suc, ◌+◌, ◌*◌, [], ◌∷◌, length, map, slice_get, Some}
use Rattle.ground.specs.Content.{Whole}
use Rattle.f66_tree.specs.World.{Try, Yields, Fails, then_try}
use Rattle.efl_program.specs.Typed.{Sort, Scalar, Shape, Array, Sorts, NoSort, AndSort}
use Rattle.efl_program.specs.Places.{places, before, extents, distance, Path, ToMember, ToElement, paths}

abbrev mutual
  pub path_offset : Sort → Path → Try ℕ
  path_offset (Scalar k) [] = Yields 0
  path_offset (Shape ss) (ToMember n ∷ q) = then_try (offset_within n ss q) (λ i. Yields (before n ss + i))
  path_offset (Array bs s) (ToElement is' ∷ q) =
      then_try (distance 1 (map Whole is') (extents (places s) bs)) (λ n. then_try (path_offset s q) (λ i. Yields (n * places s + i)))
  path_offset s q = Fails

  -- in the member with this number
  pub offset_within : ℕ → Sorts → Path → Try ℕ
  offset_within n NoSort q = Fails
  offset_within zero (AndSort s ss) q = path_offset s q
  offset_within (suc n) (AndSort s ss) q = offset_within n ss q

-- a sort has as many paths as places, and the k-th of them has the offset k
pub record PathsHaveTheirNumbers : Type 0 where
  pub many : (s : Sort) → length (paths s) ≡ places s
  pub kth : (s : Sort) (k : ℕ) (q : Path) → slice_get (paths s) k ≡ Some q → path_offset s q ≡ Yields k
