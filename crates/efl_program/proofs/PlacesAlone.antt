-- Programs that differ in places alone. Part by part, what is done with the statements as they are is done with the statements
-- that have no places, but for the place of a trap.
use Rattle.std.proofs.Common.{◌≡◌, ℕ, zero, suc, ◌+◌, List, [], refl, sym, ap, ◌∙◌, arith}
use Rattle.std.specs.Prelude.{nat_eq, ⊤}
use Rattle.ground.specs.declared.place.Place.{Place}
use Rattle.f66_tree.specs.World.{Record, World, End, Ended, GoesOn, Lost, Out, Gives, Halts, counted, first_tape}
use Rattle.f66_tree.specs.Units as f66
use Rattle.f66_tree.specs.OneUnit.{one_unit}
use Rattle.f66_tree.specs.Execution.{nowhere}
use Rattle.f66_tree.specs.Laws.{shown_placeless}
use Rattle.f66_tree.proofs.Posts.{post_any}
use Rattle.f66_tree.proofs.Related as f66_related
use Rattle.f66_tree.proofs.PlacesAlone.{Alike, AllAlike, alike_end, bind_alike, anywhere, Al, alike_holds, good, shown_alike}
use Rattle.efl_program.specs.Typed.{Stmts}
use Rattle.efl_program.specs.Setting.{Spot, Linkage, Setting}
use Rattle.efl_program.specs.Relocated.{all_relocated}
use Rattle.efl_program.specs.Meaning.{efl_call, efl}
use Rattle.efl_program.specs.Laws.{stmts_placeless, EflPlacesTellTrapsAlone}
use Rattle.efl_program.proofs.Related.{Holds}
use Rattle.efl_program.proofs.RelatedStatements.{all_hold, ended_holds}

-- records are taken and put as in a run of FORTRAN
abbrev no_call : ℕ → List f66.Spot → World → Out ⊤
no_call v ps w = Gives tt w

abbrev begin : World → Out ⊤
begin w = Gives tt w

in_fortran : f66_related.Holds ⊤ (anywhere (one_unit []) no_call no_call begin 0 (λ n. n) (λ v ps w. refl)) (Al (one_unit []) no_call no_call begin 0 (λ n. n) (λ v ps w. refl)) (Al (one_unit []) no_call no_call begin 0 (λ n. n) (λ v ps w. refl))
in_fortran = alike_holds (one_unit []) no_call no_call begin 0 (λ n. n) (λ v ps w. refl)

abbrev both : Place → Place → f66_related.Frames
both p q = record { unit = 0; actuals = []; here = p; there = q }

fine : (p q : Place) → f66_related.Good (anywhere (one_unit []) no_call no_call begin 0 (λ n. n) (λ v ps w. refl)) (both p q)
fine p q = good (one_unit []) no_call no_call begin 0 (λ n. n) (λ v ps w. refl) (both p q)

halts_alike : (A : Type 0) (e : End) (w : World) → Alike {A = A} (Halts e w) (Halts e w)
halts_alike A (Ended f) w = alike_end A f w
halts_alike A GoesOn w = refl
halts_alike A Lost w = refl

abbrev Anywhere : Place → Place → Type 0
Anywhere p q = ⊤

alike : (call1 call2 : ℕ → List Spot → World → Out ⊤) → ((v : ℕ) (ps : List Spot) → AllAlike ⊤ (call1 v ps) (call2 v ps)) → Holds Anywhere call1 call2 0 AllAlike
alike call1 call2 calls = record {
  gives = λ a w. refl;
  halts = λ {A} e w. halts_alike A e w;
  traps = λ t p q at w. (q, refl);
  thens = λ {A} {B} {m1} {m2} {g1} {g2} h k w. bind_alike (λ _. ⊤) (m1 w) (m2 w) g1 g2 (h w) (post_any (m2 w)) (λ a _. k a);
  counts = λ h w. h (counted w);
  fills = λ n c h w. h _;
  reads = λ p q at k g w. in_fortran.parts.loads (both p q) (fine p q) k (f66.Lent (g w.state.store)) tt w;
  tapes = λ p q at h step. in_fortran.parts.tapes (both p q) (fine p q) h step;
  takes = λ p q at h step. in_fortran.parts.takes (both p q) (fine p q) h step;
  stays = λ lt h. absurd (omega (arith, lt));
  calls = calls;
}

module _ (l : Linkage) (bodies : ℕ → Stmts) (b : ℕ) where
  abbrev bare : ℕ → Stmts
  bare v = stmts_placeless (bodies v)

  call_alike : (k v : ℕ) (ps : List Spot) → AllAlike ⊤ (efl_call l bodies b k v ps) (efl_call l bare b k v ps)
  call_alike zero v ps w = refl
  call_alike (suc k) v ps w =
      let call1 = efl_call l bodies b k in
      let call2 = efl_call l bare b k in
      let h = alike call1 call2 (call_alike k) in
      h.thens (all_hold l Anywhere call1 call2 0 AllAlike h (record { unit = v; actuals = ps; place = nowhere }) (λ p. nowhere) (λ p. tt) b b (omega arith) (omega arith) (bodies v)) (λ c. ended_holds l Anywhere call1 call2 0 AllAlike h (nat_eq v l.main) c) w

  to_placeless : (input : List Record) → shown_placeless (efl l bodies b input) ≡ shown_placeless (efl l bare b input)
  to_placeless input = shown_alike _ _ (call_alike l.deep l.main [] (record { state = record { store = l.first; tape = first_tape input }; left = 0; count = 0 }))

pub places_alone : EflPlacesTellTrapsAlone
places_alone l bodies1 bodies2 same input b =
    let equal : (λ (v : ℕ). stmts_placeless (bodies1 v)) ≡ (λ v. stmts_placeless (bodies2 v)) = λ i v. same v i in
    to_placeless l bodies1 b input ∙ ap (λ bodies. shown_placeless (efl l bodies b input)) equal ∙ sym (to_placeless l bodies2 b input)
