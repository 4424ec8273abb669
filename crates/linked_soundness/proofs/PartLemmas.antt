-- What holds of each of a list holds of its parts, and what is known of a result may be forgotten.
use Rattle.std.proofs.Common.{List, [], ◌∷◌, ◌++◌}
use Rattle.std.specs.List.{AllByRecursion}
use Rattle.f66_tree.specs.World.{World, Out, Gives, Halts}
use Rattle.f66_soundness.specs.Rightly.{Rightly, NeverWrong}

pub all_parts : {X : Type 0} (P : X → Type 0) (xs ys : List X) → AllByRecursion P (xs ++ ys) → AllByRecursion P xs × AllByRecursion P ys
all_parts P [] ys h = (tt, h)
all_parts P (x ∷ xs) ys h = let p = all_parts P xs ys h.1 in ((h.0, p.0), p.1)

pub all_mapped : {X : Type 0} (P Q : X → Type 0) → ((x : X) → P x → Q x) → (xs : List X) → AllByRecursion P xs → AllByRecursion Q xs
all_mapped P Q f [] h = tt
all_mapped P Q f (x ∷ xs) h = (f x h.0, all_mapped P Q f xs h.1)

pub any_rightly : {A : Type 0} (P : A → World → Type 0) (o : Out A) → Rightly P o → NeverWrong o
any_rightly P (Gives a w) h = tt
any_rightly P (Halts e w) h = h
