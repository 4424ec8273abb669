-- Steps of a run of any unit, by the contents that they take: branches, DO, the records, and how many places dimensions make.
use Rattle.std.proofs.Common.{ℕ, zero, suc, List, [], ◌∷◌}
use Rattle.std.specs.Prelude.{ℤ, pos, negsuc, ◌*◌, int_le, ◌&&◌, ⊤}
use Rattle.ground.specs.declared.trap.Trap.TheVariants.{BadDo, BadUnit}
use Rattle.ground.specs.declared.value.Kind.TheVariants.{Integer}
use Rattle.ground.specs.Content.{Content, Whole}
use Rattle.ground.specs.declared.place.Place.{Place}
use Rattle.f66_tree.specs.declared.editing.Way.{Way}
use Rattle.f66_tree.specs.World.{World, Try, Yields, Traps, Tape, Move, Moves, Breaks, Misses, moving}
use Rattle.f66_tree.specs.Statements.{fit_loop_in, nth, label_at, by_sign_of, taped, on_unit, unit_for, times, extent}
use Rattle.f66_tree.proofs.EditLemmas.{MovesRightly}
use Rattle.f66_tree.proofs.Tries.{IsOfKind, TriesRightly, if_both, then_rightly}
use Rattle.f66_soundness.specs.Rightly.{Rightly}
use Rattle.f66_soundness.proofs.ContentLemmas.{AllWhole}

-- ---- branches and DO ----

pub nth_rightly : (ls : List ℕ) (n : ℕ) → TriesRightly (λ _. ⊤) (nth ls n)
nth_rightly [] n = tt
nth_rightly (l ∷ ls) zero = tt
nth_rightly (l ∷ ls) (suc n) = nth_rightly ls n

pub label_rightly : (ls : List ℕ) (v : Content) → IsOfKind Integer v → TriesRightly (λ _. ⊤) (label_at ls v)
label_rightly ls (Whole (pos (suc n))) h = nth_rightly ls n
label_rightly ls (Whole (pos zero)) h = tt
label_rightly ls (Whole (negsuc n)) h = tt
label_rightly ls _ h = absurd h

pub branch_rightly : (n m k : ℕ) (v : Content) → IsOfKind Integer v → TriesRightly (λ _. ⊤) (by_sign_of n m k v)
branch_rightly n m k (Whole (negsuc z)) h = tt
branch_rightly n m k (Whole (pos zero)) h = tt
branch_rightly n m k (Whole (pos (suc z))) h = tt
branch_rightly n m k _ h = absurd h

pub loop_fits : (a b d : Content) → IsOfKind Integer a → IsOfKind Integer b → IsOfKind Integer d → TriesRightly (λ _. ⊤) (fit_loop_in a b d)
loop_fits (Whole a) (Whole b) (Whole d) h i j = if_both (TriesRightly (λ _. ⊤)) (int_le (pos 1) a && int_le a b && int_le (pos 1) d) (Yields (record { limit = b; step = d })) (Traps BadDo) tt tt
loop_fits (Whole a) (Whole b) d h i j = absurd j
loop_fits (Whole a) b d h i j = absurd i
loop_fits a b d h i j = absurd h

-- ---- records ----

pub taped_rightly : (P : Tape → Type 0) (p : Place) (h : Tape → Move) (w : World) → MovesRightly P (h w.state.tape) → Rightly (λ _ v. P v.state.tape) (taped p h w)
taped_rightly P p h w i = by_move (h w.state.tape) i
  where
    by_move : (step : Move) → MovesRightly P step → Rightly (λ _ v. P v.state.tape) (moving p step w)
    by_move (Moves t) k = k
    by_move (Breaks e t) k = tt
    by_move Misses k = k

pub unit_rightly : (way : Way) (v : Content) → IsOfKind Integer v → TriesRightly (λ _. ⊤) (on_unit way v)
unit_rightly way (Whole z) h = if_both (TriesRightly (λ _. ⊤)) (int_le z (unit_for way) && int_le (unit_for way) z) (Yields tt) (Traps BadUnit) tt tt
unit_rightly way _ h = absurd h

-- ---- dimensions ----

pub times_rightly : (z : ℤ) (t : Try ℕ) → TriesRightly (λ _. ⊤) t → TriesRightly (λ _. ⊤) (times z t)
times_rightly (pos zero) t h = tt
times_rightly (pos (suc n)) t h = then_rightly (λ _. ⊤) (λ _. ⊤) t (λ k. Yields (suc n * k)) h (λ k _. tt)
times_rightly (negsuc n) t h = tt

pub extent_rightly : (ds : List Content) → AllWhole ds → TriesRightly (λ _. ⊤) (extent ds)
extent_rightly [] h = tt
extent_rightly (Whole d ∷ ds) h = times_rightly d (extent ds) (extent_rightly ds h.1)
extent_rightly (d ∷ ds) h = absurd h.0
