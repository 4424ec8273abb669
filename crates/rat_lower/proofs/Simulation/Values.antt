-- Values, places and plain statements of a unit of the program's own follow.
use Rattle.std.proofs.Common.{Bool, ℕ, ◌+◌, ◌≤◌, List, refl, arith}
use Rattle.std.specs.Prelude.{⊤}
use Rattle.ground.specs.declared.place.Place.{Place}
use Rattle.ground.specs.declared.value.Kind.TheVariants.{Integer}
use Rattle.ground.specs.Content.{Content}
use Rattle.f66_tree.specs.declared.expression.Operator.TheVariants.{Eq}
use Rattle.f66_tree.specs.Syntax.{Text, Act, Formula, Par}
use Rattle.f66_tree.specs.Uses.{NamesBy, NameOfPar, NamesOfActBy}
use Rattle.f66_tree.specs.World.{World, Out, bind, settle}
use Rattle.f66_tree.specs.Units.{Spot, Setting}
use Rattle.f66_tree.specs.Evaluation.{asked, base, store_at, operate, truth_in, value_of, asks}
use Rattle.f66_tree.specs.Statements.{Exit, LoopParameters, loop_start, loop_turn, does}
use Rattle.f66_tree.proofs.Related.{Sides, side1, side2, Frames, one, two, Good, Holds, thens, settles, base_then, does_holds, asks_hold, value_holds, start_holds, turn_holds}
use Rattle.rat_tree.specs.Meaning.{is_case}
use Rattle.rat_lower.proofs.Simulation.Spared.{Lowering, Own}
use Rattle.rat_lower.proofs.Simulation.Tracks.{same_fuel, T, TW, sides, Answered, tracks_hold}
use Rattle.rat_lower.proofs.Simulation.Turns.{many_track}

module _ (g : Lowering) (b : ℕ) (tick2 : ℕ → ℕ) (up : (n : ℕ) → n + 1 ≤ tick2 n) (call1 : ℕ → ℕ → List Spot → World → Out ⊤) (call2 : ℕ → List Spot → World → Out ⊤)
    (calls : Answered g ℕ same_fuel b b tick2 call1 (λ f. f) call2) where
  abbrev S : Sides ℕ
  S = sides g ℕ same_fuel b b tick2 call1 (λ f. f) call2

  abbrev S1 : ℕ → Setting
  S1 f = side1 S f

  abbrev S2 : Setting
  S2 = side2 S

  abbrev TR : (A : Type 0) → (ℕ → World → Out A) → (World → Out A) → Type 0
  TR A m1 m2 = T ℕ same_fuel g b A m1 m2

  abbrev TS : (A : Type 0) → (ℕ → World → Out A) → (World → Out A) → Type 0
  TS A m1 m2 = TW ℕ same_fuel g b A m1 m2

  hold : Holds ℕ S (T ℕ same_fuel g b) (TW ℕ same_fuel g b)
  hold = tracks_hold g ℕ same_fuel b b tick2 call1 (λ f. f) call2 calls up

  -- a statement's frame, on both sides
  abbrev pub both : Place → Frames
  both p = record { unit = g.unit; actuals = g.actuals; here = p; there = p }

  pub fine : (p : Place) → Good S (both p)
  fine p = record { places = refl; actuals = g.fair }

  pub track_value : (p : Place) (e : Formula) → NamesBy (Own g) e → TR Content (λ i. value_of (S1 i) (one (both p)) e) (value_of S2 (two (both p)) e)
  track_value p e used = value_holds ℕ S (T ℕ same_fuel g b) (TW ℕ same_fuel g b) hold (both p) (fine p) e used

  -- a value is stored in a name
  pub track_stored : (p : Place) (y : Text) (e : Formula) → g.K g.unit y → NamesBy (Own g) e → TR ⊤ (λ i w. bind (settle p (base (S1 i) (one (both p)) y) w) (λ q w1. bind (value_of (S1 i) (one (both p)) e w1) (λ a w2. store_at (S1 i) (one (both p)) q a w2)))
      (λ w. bind (settle p (base S2 (two (both p)) y) w) (λ q w1. bind (value_of S2 (two (both p)) e w1) (λ a w2. store_at S2 (two (both p)) q a w2)))
  track_stored p y e known used =
      base_then ℕ S (T ℕ same_fuel g b) (TW ℕ same_fuel g b) hold (both p) (fine p) y known (λ q fair.
      thens ℕ S (T ℕ same_fuel g b) (TW ℕ same_fuel g b) hold (track_value p e used) (λ a. hold.parts.stores (both p) (fine p) q fair a))

  pub track_asks : (p : Place) (e : Formula) → NamesBy (Own g) e → TR Bool (λ i. asks (S1 i) (one (both p)) e) (asks S2 (two (both p)) e)
  track_asks p e used = asks_hold ℕ S (T ℕ same_fuel g b) (TW ℕ same_fuel g b) hold (both p) (fine p) e used

  pub track_start : (p : Place) (y : Text) (a z d : Par) → g.K g.unit y → NameOfPar (g.K g.unit) a → NameOfPar (g.K g.unit) z → NameOfPar (g.K g.unit) d → TR LoopParameters (λ i. loop_start (S1 i) (one (both p)) y a z d) (loop_start S2 (two (both p)) y a z d)
  track_start p y a z d used ua uz ud = start_holds ℕ S (T ℕ same_fuel g b) (TW ℕ same_fuel g b) hold (both p) (fine p) y a z d used ua uz ud

  pub track_turn : (p : Place) (y : Text) → g.K g.unit y → (k : LoopParameters) → TR Bool (λ i. loop_turn (S1 i) (one (both p)) y k) (loop_turn S2 (two (both p)) y k)
  track_turn p y used k = turn_holds ℕ S (T ℕ same_fuel g b) (TW ℕ same_fuel g b) hold (both p) (fine p) y used k

  pub track_does : (p : Place) (a : Act) → NamesOfActBy (Own g) a → TS Exit (λ i. does (S1 i) (one (both p)) a) (does S2 (two (both p)) a)
  track_does p a used = does_holds ℕ S (T ℕ same_fuel g b) (TW ℕ same_fuel g b) hold (many_track g b b (omega arith) tick2 call1 call2 hold) (both p) (fine p) a used

  -- a case expression against the value of a switch
  pub track_case : (p : Place) (a : Content) (e : Formula) → NamesBy (Own g) e → TR Bool (λ i w. bind (settle p (asked Integer a) w) (λ v1 w1. bind (value_of (S1 i) (one (both p)) e w1) (λ u w2. bind (settle p (operate Eq v1 u) w2) (λ t w3. settle p (truth_in t) w3)))) (is_case S2 (two (both p)) p a e)
  track_case p a e used =
      thens ℕ S (T ℕ same_fuel g b) (TW ℕ same_fuel g b) hold (settles ℕ S (T ℕ same_fuel g b) (TW ℕ same_fuel g b) hold (both p) (fine p) (asked Integer a)) (λ v1.
      thens ℕ S (T ℕ same_fuel g b) (TW ℕ same_fuel g b) hold (track_value p e used) (λ u.
      thens ℕ S (T ℕ same_fuel g b) (TW ℕ same_fuel g b) hold (settles ℕ S (T ℕ same_fuel g b) (TW ℕ same_fuel g b) hold (both p) (fine p) (operate Eq v1 u)) (λ t.
      settles ℕ S (T ℕ same_fuel g b) (TW ℕ same_fuel g b) hold (both p) (fine p) (truth_in t))))
