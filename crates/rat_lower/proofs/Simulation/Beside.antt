-- A unit beside those of the program stands as it is. In the source each of its statements counts and their number is bounded,
-- but no node of an expression counts. The two sides begin the same statements, and the source is never lost.
use Rattle.std.proofs.Common.{◌≡◌, ℕ, zero, suc, ◌+◌, ◌*◌, ◌≤◌, ◌<◌, Bool, true, false, List, [], ◌∷◌, inl, refl, ap, ◌∙◌, subst, arith}
use Rattle.std.specs.Prelude.{⊤}
use Rattle.ground.specs.declared.place.Place.{Place}
use Rattle.f66_tree.specs.Syntax.{Line}
use Rattle.f66_tree.specs.World.{Store, State, World, counted, Ended, GoesOn, Lost, Out, Gives, Halts}
use Rattle.f66_tree.specs.Units.{is_main, Spot, Linkage, Setting, Frame, moved_to}
use Rattle.f66_tree.specs.Uses.{Using, NamesOfActBy, NamesOfLinesBy}
use Rattle.f66_tree.specs.Execution.{runnable, Progress, stand, no_loops, past_end, fetch, exec}
use Rattle.f66_tree.proofs.Related.{Sides, Holds}
use Rattle.f66_tree.proofs.RelatedRuns.{LikeLines, like_itself, like_same, names_runnable, performs}
use Rattle.rat_tree.specs.Meaning.{quiet, waiting, beside}
use Rattle.rat_lower.proofs.Simulation.Spared.{Lowering, near, still_near, kept_self, kept_more, own_rank, code, F, Own}
use Rattle.rat_lower.proofs.Simulation.Tracks.{Tracks, same_fuel, fewer_answers, T, TW, sides, Answered, quiet_hold}
use Rattle.rat_lower.proofs.Simulation.Turns.{many_track}
use Rattle.rat_lower.proofs.Simulation.Follows.{Calls, Under}
use Rattle.rat_lower.proofs.Simulation.Parts.{Src}
use Rattle.rat_lower.proofs.Simulation.Whole.{UnitBy, Whole}
use Rattle.rat_lower.proofs.Simulation.Exits.{Fine, Whatever, S, AsCalled, twice, N, holds_fine, both, free, many_fine}

module _ (g : Lowering) where
  -- a statement begins
  begun_tracks : {m x : ℕ} {v : Store} {s : State} (t t1 : ℕ → World → Out ⊤) (o : Out ⊤) → ((i k c : ℕ) → t (suc i) (near g v s (suc k) c) ≡ t1 i (near g v s k (c + 1))) → Tracks ℕ same_fuel g m v s (1 + x) t1 o → Tracks ℕ same_fuel g (suc m) v s x t o
  begun_tracks {m} {x} {v} {s} t t1 (Gives a w) is h = record { by = (h.by.0 + 1, omega (arith, h.by.1), h.by.2, h.by.3, go) }
    where
      go : (i k c : ℕ) → h.by.0 + 1 + k < i → t i (near g v s (h.by.0 + 1 + k) c) ≡ Gives a (near g h.by.2 w.state k (c + (h.by.0 + 1)))
      go zero k c lt = absurd (omega arith)
      go (suc i) k c lt =
          let e : h.by.0 + 1 + k ≡ suc (h.by.0 + k) = omega arith in
          let e2 : c + 1 + h.by.0 ≡ c + (h.by.0 + 1) = omega arith in
          ap (λ u. t (suc i) (near g v s u c)) e ∙ is i (h.by.0 + k) c ∙ h.by.4 i k (c + 1) (omega arith) ∙ ap (λ u. Gives a (near g h.by.2 w.state k u)) e2
  begun_tracks {m} {x} {v} {s} t t1 (Halts (Ended f) w) is h = record { by = (h.by.0 + 1, omega (arith, h.by.1), h.by.2, go) }
    where
      go : (i k c : ℕ) → h.by.0 + 1 + k < i → t i (near g v s (h.by.0 + 1 + k) c) ≡ Halts (Ended f) (near g h.by.2 w.state k (c + (h.by.0 + 1)))
      go zero k c lt = absurd (omega arith)
      go (suc i) k c lt =
          let e : h.by.0 + 1 + k ≡ suc (h.by.0 + k) = omega arith in
          let e2 : c + 1 + h.by.0 ≡ c + (h.by.0 + 1) = omega arith in
          ap (λ u. t (suc i) (near g v s u c)) e ∙ is i (h.by.0 + k) c ∙ h.by.3 i k (c + 1) (omega arith) ∙ ap (λ u. Halts (Ended f) (near g h.by.2 w.state k u)) e2
  begun_tracks {m} {x} {v} {s} t t1 (Halts GoesOn w) is h = record { by = (h.by.0 + 1, omega (arith, h.by.1), omega (arith, h.by.2), h.by.3, go) }
    where
      go : (i c : ℕ) → h.by.0 + 1 < i → t i (near g v s (h.by.0 + 1) c) ≡ Halts GoesOn (near g h.by.3 w.state 0 (c + (h.by.0 + 1)))
      go zero c lt = absurd (omega arith)
      go (suc i) c lt =
          let e : h.by.0 + 1 ≡ suc h.by.0 = omega arith in
          let e2 : c + 1 + h.by.0 ≡ c + (h.by.0 + 1) = omega arith in
          ap (λ u. t (suc i) (near g v s u c)) e ∙ is i h.by.0 c ∙ h.by.4 i (c + 1) (omega arith) ∙ ap (λ u. Halts GoesOn (near g h.by.3 w.state 0 u)) e2
  begun_tracks t t1 (Halts Lost w) is h = record { by = tt }

module _ (g : Lowering) (b : ℕ) (call : Calls g b) (used : NamesOfLinesBy (Own g) (code g)) where
  -- the setting of the source
  abbrev Quiet : Setting
  Quiet = quiet (Src g b call)

  abbrev main : Bool
  main = is_main (g.source.context g.unit).header

  main_too : is_main (g.target.context g.unit).header ≡ main
  main_too = ap is_main (g.same.header g.unit)

  -- the unit's run from some statements on
  abbrev runs_from : List Line → Progress → ℕ → World → Out ⊤
  runs_from rest pr i w = exec g.target g.codes i (F g) (stand rest pr) w

  -- where no statement is left
  past_tracks : {n x : ℕ} (rest : List Line) (pr : Progress) (v : Store) (w : World) → runnable rest ≡ [] → x ≤ 32 * w.count → Tracks ℕ same_fuel g n v w.state x (runs_from rest pr) (past_end main w)
  past_tracks {n} {x} rest pr v w e le = by_main main refl
    where
      ends : (i k c : ℕ) → 0 + k < i → runs_from rest pr i (near g v w.state (0 + k) c) ≡ past_end main (near g v w.state k (c + 0))
      ends zero k c lt = absurd (omega arith)
      ends (suc i) k c lt =
          ap (λ q. fetch (Under g i) (F g) (code g) q (exec g.target g.codes i (F g)) pr (near g v w.state (0 + k) c)) e
          ∙ ap (λ m. past_end m (near g v w.state (0 + k) c)) main_too ∙ ap (past_end main) (still_near g v w.state k c)

      by_main : (m : Bool) → main ≡ m → Tracks ℕ same_fuel g n v w.state x (runs_from rest pr) (past_end m w)
      by_main true is = record { by = (0, omega arith, v, λ i k c lt. ends i k c lt ∙ ap (λ m. past_end m (near g v w.state k (c + 0))) is) }
      by_main false is = record { by = (0, omega arith, v, kept_self g (own_rank g) v, λ i k c lt. ends i k c lt ∙ ap (λ m. past_end m (near g v w.state k (c + 0))) is) }

  -- where a statement more would begin
  waits_too : {x : ℕ} (rest l : List Line) (line : Line) (pr : Progress) (v : Store) (w : World) → runnable rest ≡ line ∷ l → x ≤ 32 * w.count → Tracks ℕ same_fuel g 0 v w.state x (runs_from rest pr) (Halts GoesOn w)
  waits_too rest l line pr v w e le = record { by = (0, omega arith, omega arith, v, go) }
    where
      go : (i c : ℕ) → 0 < i → runs_from rest pr i (near g v w.state 0 c) ≡ Halts GoesOn (near g v w.state 0 (c + 0))
      go zero c lt = absurd (omega arith)
      go (suc i) c lt =
          let e2 : c ≡ c + 0 = omega arith in
          ap (λ q. fetch (Under g i) (F g) (code g) q (exec g.target g.codes i (F g)) pr (near g v w.state 0 c)) e ∙ ap (λ u. Halts GoesOn (near g v w.state 0 u)) e2

  module _ (n : ℕ) (few : n ≤ b) where
    abbrev Both : Sides ℕ
    Both = sides g ℕ same_fuel n b (λ m. m) (λ i. (Under g i).call) (λ f. f) call.does

    answered : Answered g ℕ same_fuel n b (λ m. m) (λ i. (Under g i).call) (λ f. f) call.does
    answered u ps lt ok v w x le = fewer_answers ℕ same_fuel g (call.does u ps w) few (call.track u ps lt ok v w x le)

    hold : Holds ℕ Both (T ℕ same_fuel g n) (TW ℕ same_fuel g n)
    hold = quiet_hold g ℕ same_fuel n b (λ m. m) (λ i. (Under g i).call) (λ f. f) call.does answered (λ m. omega arith)

    -- one statement, and those behind it
    one_more : ((rest : List Line) → NamesOfLinesBy (Own g) rest → (pr : Progress) → T ℕ same_fuel g n ⊤ (runs_from rest pr) (beside Quiet (F g) (code g) n (stand rest pr))) →
        (line : Line) (l : List Line) → NamesOfActBy (Own g) line.act → NamesOfLinesBy (Own g) l → (pr : Progress) (v : Store) (w : World) (x : ℕ) → x ≤ 32 * w.count → (rest : List Line) → runnable rest ≡ line ∷ l →
        Tracks ℕ same_fuel g (suc n) v w.state x (runs_from rest pr) (fetch Quiet (F g) (code g) (line ∷ l) (beside Quiet (F g) (code g) n) pr w)
    one_more ih line l is all pr v w x le rest e =
        begun_tracks g (runs_from rest pr) _ (fetch Quiet (F g) (code g) (line ∷ l) (beside Quiet (F g) (code g) n) pr w)
        (λ i k c. ap (λ q. fetch (Under g i) (F g) (code g) q (exec g.target g.codes i (F g)) pr (near g v w.state (suc k) c)) e)
        (performs ℕ Both (T ℕ same_fuel g n) (TW ℕ same_fuel g n) hold (many_track g n b few (λ m. m) (λ i. (Under g i).call) call.does hold)
        (record { unit = g.unit; actuals = g.actuals; here = line.place; there = line.place }) (record { places = refl; actuals = g.fair })
        (code g) (code g) (like_itself (λ p q. p ≡ q) (λ p. refl) (code g)) used (λ i. exec g.target g.codes i (F g)) (beside Quiet (F g) (code g) n)
        (λ rest1 rest2 lr ur pr1. subst (λ r. T ℕ same_fuel g n ⊤ (runs_from rest1 pr1) (beside Quiet (F g) (code g) n (stand r pr1))) (like_same rest1 rest2 lr) (ih rest1 ur pr1))
        line.label l l (like_itself (λ p q. p ≡ q) (λ p. refl) l) all pr line.act is v (counted w) (1 + x) (omega arith))

  runs_too : (n : ℕ) → n ≤ b → (rest : List Line) → NamesOfLinesBy (Own g) rest → (pr : Progress) → T ℕ same_fuel g n ⊤ (runs_from rest pr) (beside Quiet (F g) (code g) n (stand rest pr))
  runs_too zero few rest names pr v w x le = by (runnable rest) refl
    where
      by : (l : List Line) → runnable rest ≡ l → Tracks ℕ same_fuel g 0 v w.state x (runs_from rest pr) (waiting main l w)
      by [] e = past_tracks rest pr v w e le
      by (line ∷ l) e = waits_too rest l line pr v w e le
  runs_too (suc n) few rest names pr v w x le = by (runnable rest) refl (names_runnable (Own g) rest names) (λ rest1 names1 pr1. runs_too n (omega arith) rest1 names1 pr1)
    where
      by : (l : List Line) → runnable rest ≡ l → NamesOfLinesBy (Own g) l → ((rest1 : List Line) → NamesOfLinesBy (Own g) rest1 → (pr1 : Progress) → T ℕ same_fuel g n ⊤ (runs_from rest1 pr1) (beside Quiet (F g) (code g) n (stand rest1 pr1))) →
          Tracks ℕ same_fuel g (suc n) v w.state x (runs_from rest pr) (fetch Quiet (F g) (code g) l (beside Quiet (F g) (code g) n) pr w)
      by [] e all ih = past_tracks rest pr v w e le
      by (line ∷ l) e all ih = one_more n (omega arith) ih line l all.0 all.1 pr v w x le rest e

  as_unit : {x : ℕ} (n : ℕ) {h : Store} {s : State} {t : ℕ → World → Out ⊤} (o : Out ⊤) → Tracks ℕ same_fuel g b h s x t o → UnitBy g b h s n x t o
  as_unit n (Gives a w) r = (r.by.0, inl r.by.1, r.by.2, kept_more g (omega arith) r.by.3, r.by.4)
  as_unit n (Halts (Ended e) w) r = r.by
  as_unit n (Halts GoesOn w) r = r.by
  as_unit n (Halts Lost w) r = tt

  -- the unit's run gives what the source does
  pub beside_by : (h : Store) (w : World) (x : ℕ) → x ≤ 32 * w.count → UnitBy g b h w.state w.count x (Whole g b) (beside Quiet (F g) (code g) b (stand (code g) no_loops) w)
  beside_by h w x le = as_unit w.count (beside Quiet (F g) (code g) b (stand (code g) no_loops) w) (runs_too b (omega arith) (code g) used no_loops h w x le)

-- ---- never lost ----

like_names : (At : Place → Place → Type 0) (U : Using) (as' bs : List Line) → LikeLines At as' bs → NamesOfLinesBy U as' → NamesOfLinesBy U bs
like_names At U [] [] h k = tt
like_names At U [] (b ∷ bs) h k = absurd h
like_names At U (a ∷ as') [] h k = absurd h
like_names At U (a ∷ as') (b ∷ bs) h k = (subst (NamesOfActBy U) h.1 k.0, like_names At U as' bs h.3 k.1)

module _ (l : Linkage) (call : ℕ → List Spot → World → Out ⊤) (IsFound : ℕ → Type 0) (finds : (v : ℕ) (ps : List Spot) → IsFound v → (w : World) → Fine Whatever (call v ps w)) (b : ℕ) (f : Frame) (lines : List Line) (used : NamesOfLinesBy (AsCalled l call IsFound finds b (λ n. n) f.unit) lines) where
  abbrev s : Setting
  s = S l call IsFound finds b (λ n. n)

  abbrev U : Using
  U = AsCalled l call IsFound finds b (λ n. n) f.unit

  past_fine : (m : Bool) (w : World) → Fine {A = ⊤} Whatever (past_end m w)
  past_fine true w = tt
  past_fine false w = tt

  beside_fine : (n : ℕ) (rest : List Line) → NamesOfLinesBy U rest → (pr : Progress) (w : World) → Fine Whatever (beside s f lines n (stand rest pr) w)
  beside_fine zero rest names pr w = by (runnable rest)
    where
      by : (k : List Line) → Fine Whatever (waiting (is_main (l.context f.unit).header) k w)
      by [] = past_fine (is_main (l.context f.unit).header) w
      by (line ∷ k) = tt
  beside_fine (suc n) rest names pr w = by (runnable rest) (names_runnable U rest names) (λ rest1 names1 pr1 w1. beside_fine n rest1 names1 pr1 w1)
    where
      by : (k : List Line) → NamesOfLinesBy U k → ((rest1 : List Line) → NamesOfLinesBy U rest1 → (pr1 : Progress) (w1 : World) → Fine Whatever (beside s f lines n (stand rest1 pr1) w1)) → Fine Whatever (fetch s f lines k (beside s f lines n) pr w)
      by [] all ih = past_fine (is_main (l.context f.unit).header) w
      by (line ∷ k) all ih =
          let d = twice l call IsFound finds b (λ m. m) in
          let f1 = both l call IsFound finds b (λ m. m) (moved_to line.place f) in
          performs ⊤ d (N l call IsFound finds b (λ m. m)) (N l call IsFound finds b (λ m. m)) (holds_fine l call IsFound finds b (λ m. m)) (λ f2 ok x known k1 m1 m2 h. many_fine l call IsFound finds b (λ m. m) b f2 x k1 m2 h)
          f1 (free l call IsFound finds b (λ m. m) f1) lines lines (like_itself d.At (λ p. tt) lines) used (λ i. beside s f lines n) (beside s f lines n)
          (λ rest1 rest2 lr ur pr1. ih rest2 (like_names d.At U rest1 rest2 lr ur) pr1)
          line.label k k (like_itself d.At (λ p. tt) k) all.1 pr line.act all.0 (counted w)

  pub beside_found : (w : World) → Fine Whatever (beside s f lines b (stand lines no_loops) w)
  beside_found w = beside_fine b lines used no_loops w
