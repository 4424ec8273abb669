-- Arguments of intrinsic functions, as they lie in a buffer.
use Rattle.std.specs.Prelude.{◌≡◌, ℕ, zero, suc, ℤ, pos, unsigned_abs, int_lt, Bool, true, false, List, length, if◌then◌else◌}
use Rattle.ground.specs.Arithmetic.{remainder}
use Rattle.ground.specs.Content.{Content, Whole}
use Rattle.f66_tree.specs.World.{Try, Yields}
use Rattle.f66_tree.specs.Evaluation.{whole, with_sign, excess}
use Rattle.stack_code.specs.StackMachine.{Val, known, intrinsic_by}
use Rattle.runner.specs.declared.words.Word.{Word}
use Rattle.runner.specs.Words.{Lies}
use Rattle.runner.specs.Work.{IsGiven}
use Rattle.runner.specs.Reaching.{value_at}

-- so many values from here on are what the function takes
pub record AreArguments (function : ℕ) (buffer : List Word) (low count : ℕ) : Type 0 where
  pub vs : List Content
  pub lies : Lies Val vs buffer low
  pub long : length vs ≡ count
  pub given : IsGiven (intrinsic_by (known function) vs)

abbrev pub beats : Bool → ℤ → ℤ → Bool
beats true b a = int_lt a b
beats false b a = int_lt b a

abbrev pub better : Bool → ℤ → ℤ → ℤ
better greatest best next = if beats greatest next best then next else best

-- the greatest or the smallest of this one and so many more
abbrev pub extreme : Bool → ℤ → List Word → ℕ → ℕ → ℤ
extreme greatest best buffer at zero = best
extreme greatest best buffer at (suc n) = extreme greatest (better greatest best (value_at buffer at)) buffer (suc at) n

-- a function of one integer or two, by its number
abbrev pub few_of : ℕ → ℤ → ℤ → Try Content
few_of zero a b = Yields (Whole (pos (unsigned_abs a)))
few_of (suc zero) a b = whole (remainder a b)
few_of (suc (suc zero)) a b = Yields (Whole (with_sign a b))
few_of _ a b = excess a b
