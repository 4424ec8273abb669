-- The labelled common blocks of a unit with their sizes.
use Rattle.std.specs.Prelude.{◌≡◌, ℕ, ℤ, pos, Bool, true, false, Option, Some, MatchOption}
use Rattle.f66_tree.specs.Syntax.{Text, Act, Common, Routine}
use Rattle.f66_program.specs.Linking.{unit_names_block, IsBlockSize}

abbrev pub is_common : Act → Bool
is_common (Common areas) = true
is_common a = false

-- a block has this size in a unit
abbrev pub HasSize : Routine → Text → ℤ → Type 0
HasSize r q z = (n : ℕ) × (z ≡ pos n) × IsBlockSize r (Some q) n

-- of each block that the unit names its size, and of no other
abbrev pub AreSizes : Routine → (Text → Option ℤ) → Type 0
AreSizes r find = (q : Text) → MatchOption (find q) (unit_names_block (Some q) r ≡ false) (λ z. (unit_names_block (Some q) r ≡ true) × HasSize r q z)
