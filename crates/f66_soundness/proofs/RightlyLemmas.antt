-- What never goes wrong stays so where one part of a run follows another.
use Rattle.std.proofs.Common.{◌≡◌, Bool, true, false, refl}
use Rattle.ground.specs.declared.place.Place.{Place}
use Rattle.f66_tree.specs.World.{World, Out, Gives, Halts, bind, Try, Yields, Traps, Fails, settle, choose}
use Rattle.f66_tree.proofs.Tries.{TriesRightly}
use Rattle.f66_soundness.specs.Rightly.{Rightly, NeverWrong}

pub bind_rightly : {A B : Type 0} (P : A → World → Type 0) (Q : B → World → Type 0) (o : Out A) (g : A → World → Out B) → Rightly P o → ((a : A) (w : World) → P a w → Rightly Q (g a w)) → Rightly Q (bind o g)
bind_rightly P Q (Gives a w) g h k = k a w h
bind_rightly P Q (Halts e w) g h k = h

-- the world stays, and the result is as P says
pub settle_here : {A : Type 0} (P : A → Type 0) (p : Place) (t : Try A) (w : World) → TriesRightly P t → Rightly (λ a v. P a × (v ≡ w)) (settle p t w)
settle_here P p (Yields a) w h = (h, refl)
settle_here P p (Traps t) w h = tt
settle_here P p Fails w h = h

pub settle_rightly : {A : Type 0} (P : A → Type 0) (p : Place) (t : Try A) (w : World) → TriesRightly P t → Rightly (λ a v. P a) (settle p t w)
settle_rightly P p (Yields a) w h = h
settle_rightly P p (Traps t) w h = tt
settle_rightly P p Fails w h = h

-- where the result is not asked for
pub bind_any : {A B : Type 0} (Q : B → World → Type 0) (o : Out A) (g : A → World → Out B) → NeverWrong o → ((a : A) (w : World) → Rightly Q (g a w)) → Rightly Q (bind o g)
bind_any Q (Gives a w) g h k = k a w
bind_any Q (Halts e w) g h k = h

pub choose_rightly : {A : Type 0} (P : A → World → Type 0) (b : Bool) (x y : Out A) → Rightly P x → Rightly P y → Rightly P (choose b x y)
choose_rightly P true x y h k = h
choose_rightly P false x y h k = k
