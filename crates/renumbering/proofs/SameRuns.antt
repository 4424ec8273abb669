-- A run of linked units begins statements of these units alone: whatever stands under other numbers, it does the same.
use Rattle.std.proofs.Common.{◌≡◌, ℕ, zero, suc, List, [], Some, sym, ap, ◌∙◌, subst}
use Rattle.std.specs.Prelude.{⊤}
use Rattle.std.specs.List.{All, slice_get}
use Rattle.f66_tree.specs.Syntax.{Line, Routine}
use Rattle.f66_tree.specs.World.{Record, GoesOn, take_one, shown}
use Rattle.f66_tree.specs.Units.{Linkage, Frame, Spot}
use Rattle.f66_tree.specs.Uses.{NamesOfLinesBy}
use Rattle.f66_tree.specs.Execution.{runnable, Progress, stand, fetch, target, exec, nowhere, no_loops, first_state, f66}
use Rattle.f66_tree.proofs.RelatedRuns.{names_runnable}
use Rattle.f66_check.specs.Answers.{IsSoundUnit}
use Rattle.f66_program.specs.Linking.{Program, IsLinkage}
use Rattle.linked_soundness.specs.Laws.{AreCodes}
use Rattle.renumbering.specs.Laws.{IsMatched}
use Rattle.renumbering.proofs.PairLemmas.{Twins, Pairs, Any, halts}
use Rattle.renumbering.proofs.ValueLemmas.{Around, side1, side2, IsSite}
use Rattle.renumbering.proofs.RunLemmas.{fetch_pairs, begin_pairs, CodesNamed}
use Rattle.renumbering.proofs.ProgramLemmas.{twins, codes_named, first_agree}
use Rattle.renumbering.proofs.NumberLemmas.{shown_same, placed_at, all_placed, numbers_alone}

module _ (t : Twins) (codes others : ℕ → List Line) (alike : (u : ℕ) → t.InRun u → codes u ≡ others u) (names : CodesNamed t others) where
  abbrev entered : ℕ → List Spot → Frame
  entered u ps = record { unit = u; actuals = ps; place = nowhere }

  abbrev RunsSo : ℕ → Type 0
  RunsSo n = (f : Frame) → IsSite t f → (rest : List Line) → NamesOfLinesBy (t.used f.unit) rest → (pr : Progress) → Pairs t ⊤ Any (exec t.one codes n f (stand rest pr)) (exec t.two others n f (stand rest pr))

  abbrev around_at : (n : ℕ) → RunsSo n → Around t
  around_at n runs = record {
    call1 = (target t.one codes n (exec t.one codes n)).call;
    call2 = (target t.two others n (exec t.two others n)).call;
    begin = take_one;
    most = n;
    tick = λ c. c;
    begins = begin_pairs t;
    calls = λ v inside ps all.
        subst (λ code. Pairs t ⊤ Any (exec t.one codes n (entered v ps) (stand code no_loops)) (exec t.two others n (entered v ps) (stand (others v) no_loops))) (sym (alike v inside))
        (runs (entered v ps) (record { inside = inside; actuals = all }) (others v) (names v inside) no_loops);
  }

  runs_pair : (n : ℕ) → RunsSo n
  runs_pair zero f site rest r pr = halts t Any GoesOn
  runs_pair (suc n) f site rest r pr =
      subst (λ code. Pairs t ⊤ Any (fetch (side1 t (around_at n (runs_pair n))) f code (runnable rest) (exec t.one codes n f) pr) (fetch (side2 t (around_at n (runs_pair n))) f (others f.unit) (runnable rest) (exec t.two others n f) pr)) (sym (alike f.unit site.inside))
      (fetch_pairs t (around_at n (runs_pair n)) f site (others f.unit) (names f.unit site.inside) (exec t.one codes n f) (exec t.two others n f) (λ q used pr1. runs_pair n f site q used pr1)
      (runnable rest) (names_runnable (t.used f.unit) rest r) pr)

module _ (p : Program) (sound : All IsSoundUnit p.units) (matched : IsMatched p) where
  codes_alike : (codes others : ℕ → List Line) → AreCodes p.units codes → AreCodes p.units others → (u : ℕ) → (r : Routine) × (slice_get p.units u ≡ Some r) → codes u ≡ others u
  codes_alike codes others are are_too u h = are u h.0 h.1 ∙ sym (are_too u h.0 h.1)

  codes_alone : (l : Linkage) → IsLinkage p.units l → (codes others : ℕ → List Line) → AreCodes p.units codes → AreCodes p.units others → (input : List Record) (n : ℕ) → f66 l codes input n ≡ f66 l others input n
  codes_alone l is codes others are are_too input n =
      let at = placed_at p.units (all_placed p.units sound) in
      let t = twins p at matched l l is is in
      let named = codes_named p at matched l l is is others are_too in
      let inside : (r : Routine) × (slice_get p.units l.main ≡ Some r) = (is.main.0, is.main.1) in
      let alike = codes_alike codes others are are_too in
      ap (λ code. shown (exec l codes (suc n) (record { unit = l.main; actuals = []; place = nowhere }) (stand code no_loops) (record { state = first_state l input; left = n; count = 0 }))) (alike l.main inside)
      ∙ shown_same t _ _
      ((runs_pair t codes others alike named (suc n) (record { unit = l.main; actuals = []; place = nowhere }) (record { inside = inside; actuals = tt }) (others l.main) (named l.main inside) no_loops).run
      (record { state = first_state l input; left = n; count = 0 }) l.first (first_agree p at matched l l is is))

  -- and so by any two linkages
  pub same_run : (l m : Linkage) → IsLinkage p.units l → IsLinkage p.units m → (codes others : ℕ → List Line) → AreCodes p.units codes → AreCodes p.units others → (input : List Record) (n : ℕ) → f66 l codes input n ≡ f66 m others input n
  same_run l m first other codes others are are_too input n = codes_alone l first codes others are are_too input n ∙ numbers_alone p sound matched l m first other others are_too input n
