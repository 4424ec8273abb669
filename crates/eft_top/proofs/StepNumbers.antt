-- A number that is too great for a limit stays so with more digits.
use Rattle.std.proofs.Common.{◌≡◌, ◌<◌, ◌+◌, ◌*◌, ◌-◌, ℕ, List, [], ◌∷◌, None, arith}
use Rattle.std.proofs.lemmas.Bool.Decides.{nat_tests}
use Rattle.eft_top.specs.Words.{steps_after}

pub too_many : (n : ℕ) (digits : List ℕ) → 1000000000000 < n → steps_after n digits ≡ None
too_many n [] l = grind (arith, nat_tests)
too_many n (digit ∷ rest) l = let more = too_many (n * 10 + (digit - 48)) rest (omega arith) in grind (arith, nat_tests)
