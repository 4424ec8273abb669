-- The same of units of Ratfor and of those beside them, and so of what programs of Ratfor mean.
use Rattle.std.proofs.Common.{◌≡◌, ℕ, zero, suc, ◌+◌, Bool, List, [], ◌∷◌, Some, sym, ap, ◌∙◌, subst}
use Rattle.std.specs.Prelude.{⊤}
use Rattle.std.specs.List.{slice_get}
use Rattle.f66_tree.specs.Syntax.{Line, Routine}
use Rattle.f66_tree.specs.World.{GoesOn, Lost, Gives, bind, counted, shown}
use Rattle.f66_tree.specs.Units.{is_main, name_of, Spot, Linkage, Frame}
use Rattle.f66_tree.specs.Uses.{NamesOfLinesBy}
use Rattle.f66_tree.specs.Execution.{runnable, Progress, stand, no_loops, nowhere, first_state}
use Rattle.f66_tree.proofs.RelatedRuns.{names_runnable}
use Rattle.rat_tree.specs.Uses.{NamesOfCommandsBy}
use Rattle.rat_tree.specs.Meaning.{Course, Went, Jumps, Backs, Leave, Again, all_meaning, ended_by, Body, Ours, Theirs, waiting, beside, source, does_body, source_call}
use Rattle.f66_program.specs.Linking.{Program, IsLinkage}
use Rattle.renumbering.specs.Bodies.{HasPlaces, InUnit, names_in, AllWhereReturned}
use Rattle.renumbering.specs.Laws.{RatforNumbersAlone, OwnAreNamed}
use Rattle.renumbering.proofs.PairLemmas.{Twins, AllReal, Pairs, Any, thens, gives, halts, seen}
use Rattle.renumbering.proofs.ValueLemmas.{Around, side1, side2, IsSite}
use Rattle.renumbering.proofs.RunLemmas.{past_pairs, fetch_pairs}
use Rattle.renumbering.proofs.ProgramLemmas.{twins, unit_named_so, first_agree}
use Rattle.renumbering.proofs.NumberLemmas.{shown_same, placed_at, main_same}
use Rattle.renumbering.proofs.CommandLemmas.{counts_one, all_pairs}

ended_pairs : (t : Twins) (main : Bool) (c : Course) → Pairs t ⊤ Any (ended_by main c) (ended_by main c)
ended_pairs t main Went = past_pairs t main
ended_pairs t main (Jumps l) = halts t Any Lost
ended_pairs t main Backs = gives t Any (tt {0}) tt
ended_pairs t main (Leave k) = halts t Any Lost
ended_pairs t main (Again k) = halts t Any Lost

waiting_pairs : (t : Twins) (main : Bool) (rest : List Line) → Pairs t ⊤ Any (waiting main rest) (waiting main rest)
waiting_pairs t main [] = past_pairs t main
waiting_pairs t main (s ∷ rest) = halts t Any GoesOn

-- at most so many statements of a unit beside
beside_pairs : (t : Twins) (a : Around t) (f : Frame) → IsSite t f → (code : List Line) → NamesOfLinesBy (t.used f.unit) code → (n : ℕ) (rest : List Line) → NamesOfLinesBy (t.used f.unit) rest → (pr : Progress) →
    Pairs t ⊤ Any (beside (side1 t a) f code n (stand rest pr)) (beside (side2 t a) f code n (stand rest pr))
beside_pairs t a f site code names zero rest r pr =
    seen t f.unit site.inside (λ c. Pairs t ⊤ Any (waiting (is_main c.header) (runnable rest)) (waiting (is_main (t.two.context f.unit).header) (runnable rest))) (waiting_pairs t (is_main (t.two.context f.unit).header) (runnable rest))
beside_pairs t a f site code names (suc n) rest r pr =
    fetch_pairs t a f site code names (beside (side1 t a) f code n) (beside (side2 t a) f code n) (λ q used pr1. beside_pairs t a f site code names n q used pr1) (runnable rest) (names_runnable (t.used f.unit) rest r) pr

module _ (t : Twins) (Back : ℕ → Type 0) (returns : (u : ℕ) → t.InRun u → Back u → (t.used u).alone (name_of (t.two.context u).header)) (bodies : ℕ → Body) (b : ℕ) where
  abbrev IsNamedBy : ℕ → Body → Type 0
  IsNamedBy u (Ours ss) = NamesOfCommandsBy (t.used u) ss × AllWhereReturned (Back u) ss
  IsNamedBy u (Theirs code) = NamesOfLinesBy (t.used u) code

  abbrev CallsSo : ℕ → Type 0
  CallsSo k = (v : ℕ) → t.InRun v → (ps : List Spot) → AllReal t ps → Pairs t ⊤ Any (source_call t.one bodies b k v ps) (source_call t.two bodies b k v ps)

  -- in a source, by what a node of an expression adds to the work
  abbrev around_at : (k : ℕ) → CallsSo k → (ℕ → ℕ) → Around t
  around_at k calls tick = record {
    call1 = source_call t.one bodies b k;
    call2 = source_call t.two bodies b k;
    begin = λ w. Gives tt (counted w);
    most = b;
    tick = tick;
    begins = counts_one t (gives t Any (tt {0}) tt);
    calls = calls;
  }

  abbrev frame : ℕ → List Spot → Frame
  frame u ps = record { unit = u; actuals = ps; place = nowhere }

  body_pairs : (k : ℕ) → CallsSo k → (u : ℕ) → t.InRun u → (ps : List Spot) → AllReal t ps → (body : Body) → IsNamedBy u body →
      Pairs t ⊤ Any (does_body t.one bodies b (source t.one bodies b (source_call t.one bodies b k)) (frame u ps) body) (does_body t.two bodies b (source t.two bodies b (source_call t.two bodies b k)) (frame u ps) body)
  body_pairs k calls u inside ps all (Ours ss) named =
      let f = frame u ps in
      let a = around_at k calls (λ n. n + 1) in
      seen t u inside (λ c. Pairs t ⊤ Any (λ w. bind (all_meaning (side1 t a) f b ss w) (ended_by (is_main c.header))) (does_body t.two bodies b (side2 t a) f (Ours ss)))
      (thens t (all_pairs t a f (record { inside = inside; actuals = all }) b (Back u) (returns u inside) ss named.0 named.1) (ended_pairs t (is_main (t.two.context u).header)))
  body_pairs k calls u inside ps all (Theirs code) named =
      beside_pairs t (around_at k calls (λ n. n)) (frame u ps) (record { inside = inside; actuals = all }) code named b code named no_loops

  call_pairs : ((u : ℕ) → t.InRun u → IsNamedBy u (bodies u)) → (k : ℕ) → CallsSo k
  call_pairs named zero v inside ps all = halts t Any Lost
  call_pairs named (suc k) v inside ps all = body_pairs k (call_pairs named k) v inside ps all (bodies v) (named v inside)

module _ (p : Program) (l m : Linkage) (other : IsLinkage p.units m) where
  -- a function's own name
  returns_own : (u : ℕ) → (r : Routine) × (slice_get p.units u ≡ Some r) → InUnit p.units u (λ r. HasPlaces r (name_of r.header)) → InUnit p.units u (λ r. HasPlaces r (name_of (m.context u).header))
  returns_own u h back r here = subst (λ c. HasPlaces r (name_of c.header)) (sym (other.contexts u r here)) (back r here)

pub ratfor_numbers_alone : RatforNumbersAlone
ratfor_numbers_alone p placed matched l m first other bodies named b input =
    let at = placed_at p.units placed in
    let t = twins p at matched l m first other in
    shown_same t _ _
    ((call_pairs t (λ u. InUnit p.units u (λ r. HasPlaces r (name_of r.header))) (returns_own p l m other) bodies b (λ u h. named u h.0 h.1) l.deep l.main (first.main.0, first.main.1) [] tt).run
    (record { state = first_state l input; left = 0; count = 0 }) m.first (first_agree p at matched l m first other))
    ∙ ap (λ u. shown (source_call m bodies b l.deep u [] (record { state = first_state m input; left = 0; count = 0 }))) (main_same p matched l m first other)
    ∙ ap (λ k. shown (source_call m bodies b k m.main [] (record { state = first_state m input; left = 0; count = 0 }))) (first.deep ∙ sym other.deep)

pub own_are_named : OwnAreNamed
own_are_named p placed matched codes are u r here = subst (NamesOfLinesBy (names_in p.units u)) (sym (are u r here)) (unit_named_so p (placed_at p.units placed) matched u r here)
