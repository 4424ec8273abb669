-- Records of input that a program does not ask for. Part by part, what is done with the records of the input is done with
-- more behind them, unless a record is asked for where the shorter input has none.
use Rattle.std.proofs.Common.{◌≡◌, ℕ, zero, suc, ◌+◌, Bool, true, false, List, [], refl, subst, arith}
use Rattle.std.specs.Prelude.{⊤}
use Rattle.f66_tree.specs.World.{Record, World, End, Ended, GoesOn, Lost, Out, Gives, Halts, counted}
use Rattle.f66_tree.specs.Units.{is_main, Spot, Linkage, Frame}
use Rattle.f66_tree.specs.Execution.{no_loops, past_end, nowhere, first_state}
use Rattle.f66_tree.proofs.Posts.{post_any}
use Rattle.f66_tree.proofs.RelatedRuns.{like_itself}
use Rattle.f66_tree.proofs.AnyNames.{any_lines, any_fair}
use Rattle.f66_tree.proofs.UnaskedRuns.{fuller, SparesOut, AllSpare, end_spares, bind_spares, inputs, spares_hold, shown_spares}
use Rattle.rat_tree.specs.Meaning.{Course, Went, Jumps, Backs, Leave, Again, all_meaning, ended_by, Body, Ours, Theirs, source, does_body, source_call}
use Rattle.rat_tree.specs.Laws.{RatforUnaskedChangeNothing}
use Rattle.rat_tree.proofs.RelatedCommands.{Bounds, all_hold, beside_holds}
use Rattle.rat_tree.proofs.AnyCommands.{any_commands, all_placed_same}

module _ (more : List Record) where
  halts_spare : (A : Type 0) (e : End) (w : World) → SparesOut more {A = A} (Halts e w) (Halts e (fuller more w))
  halts_spare A (Ended f) w = end_spares more A f w
  halts_spare A GoesOn w = refl
  halts_spare A Lost w = refl

  same_bound : Bounds (AllSpare more) 0
  same_bound = record {
    counts = λ h w. h (counted w);
    halts = λ {A} e w. halts_spare A e w;
    stays = λ lt h. absurd (omega (arith, lt));
  }

  module _ (l : Linkage) (bodies : ℕ → Body) (b : ℕ) where
    abbrev begin : World → Out ⊤
    begin w = Gives tt (counted w)

    abbrev frame : ℕ → List Spot → Frame
    frame u ps = record { unit = u; actuals = ps; place = nowhere }

    ended_spares : (main : Bool) (c : Course) → AllSpare more ⊤ (ended_by main c) (ended_by main c)
    ended_spares main Went w = past main
      where
        past : (m : Bool) → SparesOut more (past_end m w) (past_end m (fuller more w))
        past true = refl
        past false = refl
    ended_spares main (Jumps m) w = refl
    ended_spares main Backs w = refl
    ended_spares main (Leave k) w = refl
    ended_spares main (Again k) w = refl

    body_spares : (call : ℕ → List Spot → World → Out ⊤) → ((v : ℕ) (ps : List Spot) → AllSpare more ⊤ (call v ps) (call v ps)) → (u : ℕ) (ps : List Spot) (body : Body) → AllSpare more ⊤ (does_body l bodies b (source l bodies b call) (frame u ps) body) (does_body l bodies b (source l bodies b call) (frame u ps) body)
    body_spares call h u ps (Ours ss) w =
        let f = frame u ps in
        let tick : ℕ → ℕ = λ n. n + 1 in
        let s = source l bodies b call in
        let same : AllSpare more Course (all_meaning s f b ss) (all_meaning s f b ss) =
        subst (λ v. AllSpare more Course (all_meaning s f b ss) (all_meaning s f b v)) (all_placed_same ss)
        (all_hold (inputs more l call call begin b tick h) (AllSpare more) (spares_hold more l call call begin b tick h) 0 same_bound (λ w1. refl) (omega arith) (omega arith) b b (omega arith) (omega arith) f (any_fair f.actuals) (λ p. p) (λ p. refl) tt ss (any_commands ss)) in
        bind_spares more (λ _. ⊤) (all_meaning s f b ss w) (all_meaning s f b ss (fuller more w)) _ _ (same w) (post_any (all_meaning s f b ss (fuller more w))) (λ c _. ended_spares (is_main (l.context f.unit).header) c)
    body_spares call h u ps (Theirs code) w =
        let tick : ℕ → ℕ = λ n. n in
        beside_holds (inputs more l call call begin b tick h) (AllSpare more) (spares_hold more l call call begin b tick h) 0 same_bound (λ w1. refl) (omega arith) (omega arith) b b (omega arith) (omega arith) (frame u ps) (any_fair ps) (λ p. p) (λ p. refl)
        code code (like_itself (λ p q. p ≡ q) (λ p. refl) code) (any_lines code) b b (omega arith) (omega arith) code code (like_itself (λ p q. p ≡ q) (λ p. refl) code) (any_lines code) no_loops w

    call_spares : (k v : ℕ) (ps : List Spot) → AllSpare more ⊤ (source_call l bodies b k v ps) (source_call l bodies b k v ps)
    call_spares zero v ps w = refl
    call_spares (suc k) v ps w = body_spares (source_call l bodies b k) (call_spares k) v ps (bodies v) w

pub unasked_alone : RatforUnaskedChangeNothing
unasked_alone l bodies input more b not_asked =
    shown_spares more _ _ (call_spares more l bodies b l.deep l.main [] (record { state = first_state l input; left = 0; count = 0 })) not_asked
