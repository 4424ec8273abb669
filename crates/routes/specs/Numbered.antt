-- How often the labels of a source stand in routes, and what is asked of them and of those that are made.
use Rattle.std.specs.Prelude.{◌≡◌, ℕ, ◌+◌, ◌≤◌, ◌<◌, Bool, true, false, nat_eq, ⊤}
use Rattle.routes.specs.Routes.{Route, Plain, BreakIf, Break, Ring, Cycle, Block, InTurn, Labelled, Transfer, Routes, NoRoute, AndRoute}
use Rattle.routes.specs.Placed.{IsPlain}

abbrev pub bit : Bool → ℕ
bit true = 1
bit false = 0

-- how many statements have a label in the source
abbrev mutual
  pub given : ℕ → Route → ℕ
  given l (Plain p a) = 0
  given l (BreakIf p e k) = 0
  given l (Break p k) = 0
  given l (Ring p rs) = all_given l rs
  given l (Cycle p top rest) = all_given l top + all_given l rest
  given l (Block rs) = all_given l rs
  given l (InTurn rs) = all_given l rs
  given l (Labelled m p r) = bit (nat_eq m l) + given l r
  given l (Transfer p way u fs es) = 0

  pub all_given : ℕ → Routes → ℕ
  all_given l NoRoute = 0
  all_given l (AndRoute r rs) = given l r + all_given l rs

-- made labels rise, no label of the source stands twice, and none of them is made
pub record IsNumbered (made : ℕ → ℕ) (rs : Routes) : Type 0 where
  pub rises : (i j : ℕ) → i < j → made i < made j
  pub once : (l : ℕ) → all_given l rs ≤ 1
  pub unused : (i : ℕ) → all_given (made i) rs ≡ 0

-- each plain statement is one that a route may be
abbrev mutual
  pub OnlyPlain : Route → Type 0
  OnlyPlain (Plain p a) = IsPlain a
  OnlyPlain (BreakIf p e k) = ⊤
  OnlyPlain (Break p k) = ⊤
  OnlyPlain (Ring p rs) = AllPlain rs
  OnlyPlain (Cycle p top rest) = AllPlain top × AllPlain rest
  OnlyPlain (Block rs) = AllPlain rs
  OnlyPlain (InTurn rs) = AllPlain rs
  OnlyPlain (Labelled m p r) = OnlyPlain r
  OnlyPlain (Transfer p way u fs es) = ⊤

  pub AllPlain : Routes → Type 0
  AllPlain NoRoute = ⊤
  AllPlain (AndRoute r rs) = OnlyPlain r × AllPlain rs
