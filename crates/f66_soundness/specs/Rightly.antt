-- What never goes wrong: a part of a run that gives something, goes on, or ends in any way but Wrong.
use Rattle.std.specs.Prelude.{⊤}
use Rattle.f66_tree.specs.World.{World, Wrong, End, Ended, Out, Gives, Halts}

abbrev pub IsRightEnd : End → Type 0
IsRightEnd (Ended Wrong) = ⊥
IsRightEnd e = ⊤

-- a result, with the world behind it, is as P says, and no end is Wrong
abbrev pub Rightly : {A : Type 0} → (A → World → Type 0) → Out A → Type 0
Rightly P (Gives a w) = P a w
Rightly P (Halts e w) = IsRightEnd e

-- no end is Wrong
abbrev pub NeverWrong : {A : Type 0} → Out A → Type 0
NeverWrong {A} o = Rightly (λ (a : A) w. ⊤) o
