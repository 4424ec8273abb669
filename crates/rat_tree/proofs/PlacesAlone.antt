-- Programs that differ in places alone. Part by part, what commands do as they are is what they do without places, but for
-- the place of a trap.
use Rattle.std.proofs.Common.{◌≡◌, ℕ, zero, suc, ◌+◌, Bool, true, false, List, [], ◌∷◌, refl, sym, ap, ◌∙◌, arith}
use Rattle.std.specs.Prelude.{⊤, map}
use Rattle.f66_tree.specs.Syntax.{Line}
use Rattle.f66_tree.specs.World.{Record, World, End, Ended, GoesOn, Lost, Out, Gives, Halts, counted}
use Rattle.f66_tree.specs.Units.{is_main, Spot, Linkage, Frame}
use Rattle.f66_tree.specs.Execution.{no_loops, past_end, nowhere, first_state}
use Rattle.f66_tree.specs.Laws.{shown_placeless}
use Rattle.f66_tree.proofs.Posts.{IfGives}
use Rattle.f66_tree.proofs.RelatedRuns.{LikeLines}
use Rattle.f66_tree.proofs.AnyNames.{any_lines, any_fair}
use Rattle.f66_tree.proofs.PlacesAlone.{Alike, AllAlike, alike_end, bind_alike, anywhere, alike_holds, shown_alike}
use Rattle.rat_tree.specs.Places.{all_placed, line_placed}
use Rattle.rat_tree.specs.Meaning.{Course, Went, Jumps, Backs, Leave, Again, all_meaning, ended_by, Body, Ours, Theirs, source, does_body, source_call, ratfor}
use Rattle.rat_tree.specs.Laws.{body_placeless, RatforPlacesTellTrapsAlone}
use Rattle.rat_tree.proofs.RelatedCommands.{Bounds, all_hold, beside_holds}
use Rattle.rat_tree.proofs.AnyCommands.{any_commands}

halts_alike : (A : Type 0) (e : End) (w : World) → Alike {A = A} (Halts e w) (Halts e w)
halts_alike A (Ended f) w = alike_end A f w
halts_alike A GoesOn w = refl
halts_alike A Lost w = refl

same_bound : Bounds AllAlike 0
same_bound = record {
  counts = λ h w. h (counted w);
  halts = λ {A} e w. halts_alike A e w;
  stays = λ lt h. absurd (omega (arith, lt));
}

any : {A : Type 0} (o : Out A) → IfGives (λ (a : A). ⊤) o
any (Gives a v) = tt
any (Halts e v) = tt

like_bare : (code : List Line) → LikeLines (λ p q. ⊤) code (map (line_placed (λ p. nowhere)) code)
like_bare [] = tt
like_bare (a ∷ as') = (refl, refl, tt, like_bare as')

module _ (l : Linkage) (bodies : ℕ → Body) (b : ℕ) where
  abbrev bare : ℕ → Body
  bare v = body_placeless (bodies v)

  abbrev frame : ℕ → List Spot → Frame
  frame u ps = record { unit = u; actuals = ps; place = nowhere }

  ended_alike : (main : Bool) (c : Course) → AllAlike ⊤ (ended_by main c) (ended_by main c)
  ended_alike main Went w = past main
    where
      past : (m : Bool) → Alike (past_end m w) (past_end m w)
      past true = refl
      past false = refl
  ended_alike main (Jumps m) w = refl
  ended_alike main Backs w = refl
  ended_alike main (Leave k) w = refl
  ended_alike main (Again k) w = refl

  body_alike : (call1 call2 : ℕ → List Spot → World → Out ⊤) → ((v : ℕ) (ps : List Spot) → AllAlike ⊤ (call1 v ps) (call2 v ps)) → (u : ℕ) (ps : List Spot) (body : Body) → AllAlike ⊤ (does_body l bodies b (source l bodies b call1) (frame u ps) body) (does_body l bare b (source l bare b call2) (frame u ps) (body_placeless body))
  body_alike call1 call2 h u ps (Ours ss) w =
      let f = frame u ps in
      let begin : World → Out ⊤ = λ w1. Gives tt (counted w1) in
      let tick : ℕ → ℕ = λ n. n + 1 in
      bind_alike (λ _. ⊤) (all_meaning (source l bodies b call1) f b ss w) (all_meaning (source l bare b call2) f b (all_placed (λ p. nowhere) ss) w) _ _
      (all_hold (anywhere l call1 call2 begin b tick h) AllAlike (alike_holds l call1 call2 begin b tick h) 0 same_bound (λ w1. refl) (omega arith) (omega arith) b b (omega arith) (omega arith) f (any_fair f.actuals) (λ p. nowhere) (λ p. tt) tt ss (any_commands ss) w)
      (any (all_meaning (source l bare b call2) f b (all_placed (λ p. nowhere) ss) w)) (λ c _. ended_alike (is_main (l.context f.unit).header) c)
  body_alike call1 call2 h u ps (Theirs code) w =
      let begin : World → Out ⊤ = λ w1. Gives tt (counted w1) in
      let tick : ℕ → ℕ = λ n. n in
      beside_holds (anywhere l call1 call2 begin b tick h) AllAlike (alike_holds l call1 call2 begin b tick h) 0 same_bound (λ w1. refl) (omega arith) (omega arith) b b (omega arith) (omega arith) (frame u ps) (any_fair ps) (λ p. nowhere) (λ p. tt)
      code (map (line_placed (λ p. nowhere)) code) (like_bare code) (any_lines code) b b (omega arith) (omega arith) code (map (line_placed (λ p. nowhere)) code) (like_bare code) (any_lines code) no_loops w

  call_alike : (k v : ℕ) (ps : List Spot) → AllAlike ⊤ (source_call l bodies b k v ps) (source_call l bare b k v ps)
  call_alike zero v ps w = refl
  call_alike (suc k) v ps w = body_alike (source_call l bodies b k) (source_call l bare b k) (call_alike k) v ps (bodies v) w

  to_placeless : (input : List Record) → shown_placeless (ratfor l bodies b input) ≡ shown_placeless (ratfor l bare b input)
  to_placeless input = shown_alike _ _ (call_alike l.deep l.main [] (record { state = first_state l input; left = 0; count = 0 }))

pub places_alone : RatforPlacesTellTrapsAlone
places_alone l bodies1 bodies2 same input b =
    let equal : (λ (v : ℕ). body_placeless (bodies1 v)) ≡ (λ v. body_placeless (bodies2 v)) = λ i v. same v i in
    to_placeless l bodies1 b input ∙ ap (λ bodies. shown_placeless (ratfor l bodies b input)) equal ∙ sym (to_placeless l bodies2 b input)
