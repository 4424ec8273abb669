-- Records of input that a program does not ask for. Part by part, what is done with the records of the input is done with more
-- behind them, unless a record is asked for where the shorter input has none.
use Rattle.std.proofs.Common.{◌≡◌, ℕ, zero, suc, ◌+◌, List, [], refl, subst, arith}
use Rattle.std.specs.Prelude.{nat_eq, ⊤}
use Rattle.ground.specs.declared.place.Place.{Place}
use Rattle.f66_tree.specs.World.{Record, World, End, Ended, GoesOn, Lost, Out, Gives, Halts, counted, first_tape, Trapped}
use Rattle.f66_tree.specs.Units as f66
use Rattle.f66_tree.specs.OneUnit.{one_unit}
use Rattle.f66_tree.specs.Execution.{nowhere}
use Rattle.f66_tree.proofs.Posts.{post_any}
use Rattle.f66_tree.proofs.Related as f66_related
use Rattle.f66_tree.proofs.UnaskedRuns.{fuller, SparesOut, AllSpare, trap_spares, end_spares, bind_spares, inputs, Sp, spares_hold, good, shown_spares}
use Rattle.efl_program.specs.Typed.{Stmts}
use Rattle.efl_program.specs.Setting.{Spot, Linkage, Setting, Frame}
use Rattle.efl_program.specs.Meaning.{Course, Flow, all_meaning, ended_by, efl_call}
use Rattle.efl_program.specs.Laws.{EflUnaskedChangeNothing}
use Rattle.efl_program.proofs.Related.{Holds}
use Rattle.efl_program.proofs.RelatedStatements.{all_hold, ended_holds}
use Rattle.efl_program.proofs.SamePlaces.{all_left}

module _ (more : List Record) where
  abbrev Spares : (A : Type 0) → (World → Out A) → (World → Out A) → Type 0
  Spares A m1 m2 = AllSpare more A m1 m2

  -- records are taken and put as in a run of FORTRAN
  abbrev no_call : ℕ → List f66.Spot → World → Out ⊤
  no_call v ps w = Gives tt w

  abbrev begin : World → Out ⊤
  begin w = Gives tt w

  in_fortran : f66_related.Holds ⊤ (inputs more (one_unit []) no_call no_call begin 0 (λ n. n) (λ v ps w. refl)) (Sp more (one_unit []) no_call no_call begin 0 (λ n. n) (λ v ps w. refl)) (Sp more (one_unit []) no_call no_call begin 0 (λ n. n) (λ v ps w. refl))
  in_fortran = spares_hold more (one_unit []) no_call no_call begin 0 (λ n. n) (λ v ps w. refl)

  abbrev both : Place → Place → f66_related.Frames
  both p q = record { unit = 0; actuals = []; here = p; there = q }

  fine : (p q : Place) → p ≡ q → f66_related.Good (inputs more (one_unit []) no_call no_call begin 0 (λ n. n) (λ v ps w. refl)) (both p q)
  fine p q same = good more (one_unit []) no_call no_call begin 0 (λ n. n) (λ v ps w. refl) (both p q) same

  halts_spare : (A : Type 0) (e : End) (w : World) → SparesOut more {A = A} (Halts e w) (Halts e (fuller more w))
  halts_spare A (Ended f) w = end_spares more A f w
  halts_spare A GoesOn w = refl
  halts_spare A Lost w = refl

  spares : (call1 call2 : ℕ → List Spot → World → Out ⊤) → ((v : ℕ) (ps : List Spot) → Spares ⊤ (call1 v ps) (call2 v ps)) → Holds (λ p q. p ≡ q) call1 call2 0 Spares
  spares call1 call2 calls = record {
    gives = λ a w. refl;
    halts = λ {A} e w. halts_spare A e w;
    traps = λ {A} t p q same w. subst (λ v. SparesOut more {A = A} (Halts (Ended (Trapped t p)) w) (Halts (Ended (Trapped t v)) (fuller more w))) same (trap_spares more A t p w);
    thens = λ {A} {B} {m1} {m2} {g1} {g2} h k w. bind_spares more (λ _. ⊤) (m1 w) (m2 (fuller more w)) g1 g2 (h w) (post_any (m2 (fuller more w))) (λ a _. k a);
    counts = λ h w. h (counted w);
    fills = λ n c h w. h _;
    reads = λ p q same k g w. in_fortran.parts.loads (both p q) (fine p q same) k (f66.Lent (g w.state.store)) tt w;
    tapes = λ p q same h step. in_fortran.parts.tapes (both p q) (fine p q same) h step;
    takes = λ p q same h step. in_fortran.parts.takes (both p q) (fine p q same) h step;
    stays = λ lt h. absurd (omega (arith, lt));
    calls = calls;
  }

  module _ (l : Linkage) (bodies : ℕ → Stmts) (b : ℕ) where
    call_spares : (k v : ℕ) (ps : List Spot) → Spares ⊤ (efl_call l bodies b k v ps) (efl_call l bodies b k v ps)
    call_spares zero v ps w = refl
    call_spares (suc k) v ps w =
        let call = efl_call l bodies b k in
        let h = spares call call (call_spares k) in
        let s : Setting = record { linked = l; call = call } in
        let f : Frame = record { unit = v; actuals = ps; place = nowhere } in
        let body : World → Flow = all_meaning s f b (bodies v) in
        let same : AllSpare more Course body body =
        subst (λ ss. AllSpare more Course body (all_meaning s f b ss)) (all_left (bodies v)) (all_hold l (λ p q. p ≡ q) call call 0 Spares h f (λ p. p) (λ p. refl) b b (omega arith) (omega arith) (bodies v)) in
        bind_spares more (λ _. ⊤) (body w) (body (fuller more w)) (ended_by (nat_eq v l.main)) (ended_by (nat_eq v l.main)) (same w) (post_any (body (fuller more w))) (λ c _. ended_holds l (λ p q. p ≡ q) call call 0 Spares h (nat_eq v l.main) c)

pub unasked_alone : EflUnaskedChangeNothing
unasked_alone l bodies input more b not_asked =
    shown_spares more _ _ (call_spares more l bodies b l.deep l.main [] (record { state = record { store = l.first; tape = first_tape input }; left = 0; count = 0 })) not_asked
