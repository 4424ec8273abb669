-- The step of a DO that has begun is at least one, so that its unit holds the step as it is.
use Rattle.std.proofs.Common.{◌≡◌, cond, zero, suc, Bool, true, false, refl, ap, subst}
use Rattle.std.proofs.lemmas.Bool.{false≢true}
use Rattle.std.specs.Prelude.{ℤ, pos, negsuc, int_le, ◌&&◌}
use Rattle.ground.specs.declared.trap.Trap.TheVariants.{BadDo}
use Rattle.ground.specs.Content.{Content, Nothing, Whole, Truth}
use Rattle.f66_tree.specs.World.{Try, Yields, Traps}
use Rattle.f66_tree.specs.Statements.{LoopParameters, fit_loop_in}
use Rattle.stack_code.specs.StackMachine.{step_in}

abbrev pub IsStep : LoopParameters → Type 0
IsStep lp = step_in (Whole lp.step) ≡ lp.step

abbrev yielded : LoopParameters → Try LoopParameters → LoopParameters
yielded d (Yields lp) = lp
yielded d _ = d

abbrev gave : Try LoopParameters → Bool
gave (Yields lp) = true
gave _ = false

above_zero : (z : ℤ) → int_le (pos 1) z ≡ true → step_in (Whole z) ≡ z
above_zero (pos zero) e = absurd (false≢true e)
above_zero (pos (suc n)) e = refl
above_zero (negsuc n) e = absurd (false≢true e)

last_true : (x y z : Bool) → (x && y && z) ≡ true → z ≡ true
last_true true true z e = e
last_true true false z e = absurd (false≢true e)
last_true false y z e = absurd (false≢true e)

fits_by : (b : Bool) (given lp : LoopParameters) → (b ≡ true → IsStep given) → ◌≡◌ {A = Try LoopParameters} (cond b (Yields given) (Traps BadDo)) (Yields lp) → IsStep lp
fits_by true given lp h e = subst IsStep (ap (yielded given) e) (h refl)
fits_by false given lp h e = absurd (subst (λ t. cond (gave t) ⊥ (Unit {0})) e tt)

pub fits_step : (a b c : Content) (lp : LoopParameters) → fit_loop_in a b c ≡ Yields lp → IsStep lp
fits_step (Whole a) (Whole b) (Whole c) lp e =
    fits_by (int_le (pos 1) a && int_le a b && int_le (pos 1) c) (record { limit = b; step = c }) lp (λ t. above_zero c (last_true (int_le (pos 1) a) (int_le a b) (int_le (pos 1) c) t)) e
fits_step (Whole a) (Whole b) (Truth c) lp e = absurd (subst (λ t. cond (gave t) ⊥ (Unit {0})) e tt)
fits_step (Whole a) (Whole b) Nothing lp e = absurd (subst (λ t. cond (gave t) ⊥ (Unit {0})) e tt)
fits_step (Whole a) (Truth b) c lp e = absurd (subst (λ t. cond (gave t) ⊥ (Unit {0})) e tt)
fits_step (Whole a) Nothing c lp e = absurd (subst (λ t. cond (gave t) ⊥ (Unit {0})) e tt)
fits_step (Truth a) b c lp e = absurd (subst (λ t. cond (gave t) ⊥ (Unit {0})) e tt)
fits_step Nothing b c lp e = absurd (subst (λ t. cond (gave t) ⊥ (Unit {0})) e tt)
