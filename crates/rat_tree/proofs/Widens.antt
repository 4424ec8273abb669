-- A program's meaning at a greater bound: an end stays, and records stay. Part by part, what is done at the lesser bound is
-- done at the greater one too, unless it stops at the bound; then the records at the greater bound begin with those so far.
use Rattle.std.proofs.Common.{◌≡◌, ℕ, zero, suc, ◌+◌, ◌-◌, ◌≤◌, Bool, true, false, List, [], refl, subst, arith}
use Rattle.std.specs.Prelude.{⊤}
use Rattle.f66_tree.specs.Syntax.{Line}
use Rattle.f66_tree.specs.World.{World, Trapped, Ended, Lost, Out, Gives, Halts, counted}
use Rattle.f66_tree.specs.Units.{is_main, Spot, Linkage, Setting, Frame}
use Rattle.f66_tree.specs.Evaluation.{load, store_at, ticked}
use Rattle.f66_tree.specs.Statements.{taped, taken_content}
use Rattle.f66_tree.specs.Execution.{stand, past_end, no_loops, nowhere, first_state}
use Rattle.f66_tree.proofs.Prefixes.{prefix_self}
use Rattle.f66_tree.proofs.Related as related
use Rattle.f66_tree.proofs.Related.{Sides, Frames, Good, Holds}
use Rattle.f66_tree.proofs.RelatedRuns.{like_itself}
use Rattle.f66_tree.proofs.AnyNames.{Any, AnySpot, any_scope, any_lines, any_fair}
use Rattle.f66_tree.proofs.Grows.{bind_grows_if, alone, G, grows_hold}
use Rattle.f66_tree.proofs.Wide.{Wide, bind_widens, wide_bind, wide_gives, unit_gives, wide_halts, wide_stays, wide_counted, at_both, extends_by}
use Rattle.rat_tree.specs.Syntax.{Commands}
use Rattle.rat_tree.proofs.RelatedCommands.{Bounds, all_hold, beside_holds}
use Rattle.rat_tree.proofs.AnyCommands.{any_commands, all_placed_same}
use Rattle.rat_tree.specs.Laws.{MeaningsExtend}
use Rattle.rat_tree.specs.Meaning.{Course, Went, Jumps, Backs, Leave, Again, all_meaning, ended_by, Body, Ours, Theirs, beside, source, does_body, source_call}

module _ (l : Linkage) (call1 call2 : ℕ → List Spot → World → Out ⊤) (tick : ℕ → ℕ) (b1 b2 : ℕ) (more : b1 ≤ b2)
    (calls : (v : ℕ) (ps : List Spot) → Wide ⊤ (call1 v ps) (call2 v ps)) where
  abbrev begins : World → Out ⊤
  begins w = Gives tt (counted w)

  abbrev s1 : Setting
  s1 = record { linked = l; call = call1; begin = begins; most = b1; tick = tick }

  abbrev s2 : Setting
  s2 = record { linked = l; call = call2; begin = begins; most = b2; tick = tick }

  abbrev bounds : Sides ⊤
  bounds = record {
    linked1 = l;
    linked2 = l;
    call1 = λ i. call1;
    begin1 = λ i. begins;
    most1 = λ i. b1;
    tick1 = λ i. tick;
    call2 = call2;
    begin2 = begins;
    most2 = b2;
    tick2 = tick;
    K = λ u. Any;
    Listed = λ u. Any;
    Called = λ u. Any;
    Fair = AnySpot;
    At = λ p q. p ≡ q;
  }

  abbrev W : (A : Type 0) → (⊤ → World → Out A) → (World → Out A) → Type 0
  W A m1 m2 = Wide A (m1 tt) m2

  grow2 : Holds ⊤ (alone l call2 begins b2 tick (λ v ps. (calls v ps).grows) (λ w. prefix_self w.state.tape.written)) (G l call2 begins b2 tick (λ v ps. (calls v ps).grows) (λ w. prefix_self w.state.tape.written)) (G l call2 begins b2 tick (λ v ps. (calls v ps).grows) (λ w. prefix_self w.state.tape.written))
  grow2 = grows_hold l call2 begins b2 tick (λ v ps. (calls v ps).grows) (λ w. prefix_self w.state.tape.written)

  free : (f : Frames) → Good (alone l call2 begins b2 tick (λ v ps. (calls v ps).grows) (λ w. prefix_self w.state.tape.written)) f
  free f = record { places = tt; actuals = any_fair f.actuals }

  widens_hold : Holds ⊤ bounds W W
  widens_hold = related.plainly ⊤ bounds W (record {
    scope = any_scope l;
    same = related.same_names (λ u. Any) AnySpot l;
    uses = related.however_used (λ u. Any) l;
    gives = λ a. wide_gives a;
    ends = λ e. wide_halts (Ended e);
    traps = λ t p q same. at_both p q (λ v w. Halts (Ended (Trapped t v)) w) same (λ w. prefix_self w.state.tape.written);
    binds = λ {A} {B} {P} {m1} {m2} {g1} {g2} h post k. record {
      grows = λ w. bind_grows_if P w (m2 w) (λ a w1. g2 a w1) (h.grows w) (post w) (λ a ok. (k a ok).grows);
      widens = λ w. bind_widens P (m1 tt w) (m2 w) (λ a w1. g1 a tt w1) (λ a w1. g2 a w1) (h.widens w) (post w) k;
    };
    loads = λ f g k p fair. at_both f.here f.there (λ v w. load s2 (record { unit = f.unit; actuals = f.actuals; place = v }) k p w) g.places (grow2.parts.loads f (free f) k p tt);
    stores = λ f g p fair c. at_both f.here f.there (λ v w. store_at s2 (record { unit = f.unit; actuals = f.actuals; place = v }) p c w) g.places (grow2.parts.stores f (free f) p tt c);
    tapes = λ f g h step. at_both f.here f.there (λ v w. taped v h w) g.places (grow2.parts.tapes f (free f) h step);
    takes = λ f g h step. at_both f.here f.there (λ v w. taken_content v h w) g.places (grow2.parts.takes f (free f) h step);
  }) (λ A m1 m2 h. record { grows = λ w. h.grows (ticked s2 w); widens = λ w. h.widens (ticked s2 w) }) (λ u x v ps used e fair. calls v ps)

  bounded : Bounds Wide (b2 - b1)
  bounded = record {
    counts = λ h. wide_counted h;
    halts = λ end. wide_halts end;
    stays = λ {A} {m1} {m2} lt h. wide_stays m2 h.grows;
  }

  begins_widen : Wide ⊤ begins begins
  begins_widen = wide_counted unit_gives

  module _ (f : Frame) where
    all_widen : (ss : Commands) → Wide Course (all_meaning s1 f b1 ss) (all_meaning s2 f b2 ss)
    all_widen ss =
        subst (λ v. Wide Course (all_meaning s1 f b1 ss) (all_meaning s2 f b2 v)) (all_placed_same ss)
        (all_hold bounds Wide widens_hold (b2 - b1) bounded begins_widen more (omega arith) b1 b2 more (omega arith) f (any_fair f.actuals) (λ p. p) (λ p. refl) tt ss (any_commands ss))

    beside_widens : (code : List Line) → Wide ⊤ (beside s1 f code b1 (stand code no_loops)) (beside s2 f code b2 (stand code no_loops))
    beside_widens code =
        beside_holds bounds Wide widens_hold (b2 - b1) bounded begins_widen more (omega arith) b1 b2 more (omega arith) f (any_fair f.actuals) (λ p. p) (λ p. refl) code code (like_itself (λ p q. p ≡ q) (λ p. refl) code) (any_lines code)
        b1 b2 more (omega arith) code code (like_itself (λ p q. p ≡ q) (λ p. refl) code) (any_lines code) no_loops

module _ (l : Linkage) (bodies : ℕ → Body) (b1 b2 : ℕ) (more : b1 ≤ b2) where
  ended_widens : (main : Bool) (c : Course) → Wide ⊤ (ended_by main c) (ended_by main c)
  ended_widens main Went = past main
    where
      past : (m : Bool) → Wide ⊤ (past_end m) (past_end m)
      past true = wide_halts _
      past false = unit_gives
  ended_widens main (Jumps m) = wide_halts Lost
  ended_widens main Backs = unit_gives
  ended_widens main (Leave k) = wide_halts Lost
  ended_widens main (Again k) = wide_halts Lost

  body_widens : (call1 call2 : ℕ → List Spot → World → Out ⊤) → ((v : ℕ) (ps : List Spot) → Wide ⊤ (call1 v ps) (call2 v ps)) → (f : Frame) (body : Body) → Wide ⊤ (does_body l bodies b1 (source l bodies b1 call1) f body) (does_body l bodies b2 (source l bodies b2 call2) f body)
  body_widens call1 call2 h f (Ours ss) = wide_bind (all_widen l call1 call2 (λ n. n + 1) b1 b2 more h f ss) (ended_widens (is_main (l.context f.unit).header))
  body_widens call1 call2 h f (Theirs code) = beside_widens l call1 call2 (λ n. n) b1 b2 more h f code

  call_widens : (k v : ℕ) (ps : List Spot) → Wide ⊤ (source_call l bodies b1 k v ps) (source_call l bodies b2 k v ps)
  call_widens zero v ps = wide_halts Lost
  call_widens (suc k) v ps = body_widens (source_call l bodies b1 k) (source_call l bodies b2 k) (call_widens k) (record { unit = v; actuals = ps; place = nowhere }) (bodies v)

pub meanings_extend : MeaningsExtend
meanings_extend l bodies input a b le =
    let w : World = record { state = first_state l input; left = 0; count = 0 } in
    extends_by (source_call l bodies a l.deep l.main [] w) (source_call l bodies b l.deep l.main [] w) ((call_widens l bodies a b le l.deep l.main []).widens w)
