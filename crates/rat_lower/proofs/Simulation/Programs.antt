-- A whole program. By how deep calls go, each unit of the target gives what its unit of the source does; and where each call
-- is of a unit of lesser rank, the source is never lost. So a program of units agrees with that of those that they become.
use Rattle.std.proofs.Common.{◌≡◌, ◌≢◌, ℕ, zero, suc, ◌+◌, ◌*◌, ◌≤◌, ◌<◌, Bool, true, false, List, [], ◌∷◌, refl, sym, ap, ◌∙◌, subst, arith}
use Rattle.std.specs.Prelude.{if◌then◌else◌, ⊤}
use Rattle.f66_tree.specs.Syntax.{Text, Line}
use Rattle.f66_tree.specs.World.{Record, Store, first_tape, State, World, Ended, GoesOn, Lost, Out, Gives, Halts, shown}
use Rattle.f66_tree.specs.Units.{is_main, Spot, Held, Linkage}
use Rattle.f66_tree.specs.Execution.{stand, no_loops, nowhere, first_state, exec, f66}
use Rattle.f66_tree.specs.Agreement.{Agrees}
use Rattle.f66_tree.proofs.Posts.{AllFair, IsScope}
use Rattle.f66_tree.proofs.Related.{SameNames}
use Rattle.f66_tree.proofs.Longer.{f66_extends}
use Rattle.f66_tree.proofs.Agreement.{Ahead, agrees}
use Rattle.f66_tree.proofs.Comes.{Part}
use Rattle.f66_tree.specs.Uses.{NamesOfLinesBy}
use Rattle.rat_tree.specs.Syntax.{Commands}
use Rattle.rat_tree.specs.Meaning.{Body, Ours, Theirs, does_body, source_call, ratfor}
use Rattle.rat_lower.specs.Checked.{AllFit, AllLand}
use Rattle.rat_lower.proofs.Simulation.Spared.{Lowering, over, F, Own}
use Rattle.rat_lower.proofs.Simulation.Tracks.{same_fuel, Answers}
use Rattle.rat_lower.proofs.Simulation.Follows.{Calls}
use Rattle.rat_lower.proofs.Simulation.Parts.{Src}
use Rattle.rat_lower.proofs.Simulation.Beside.{beside_by, beside_found}
use Rattle.rat_lower.proofs.Simulation.Whole.{IsCode, UnitBy, Whole, unit_by, Run_shows, unit_ahead}
use Rattle.rat_lower.proofs.Simulation.Exits.{Fine, Whatever, S}
use Rattle.rat_lower.proofs.Simulation.Fits.{unit_found, shown_fine}
use Rattle.rat_lower.proofs.Simulation.Wider.{commands_too, lines_too}

-- a program in both linkages
pub record Program : Type 1 where
  pub target : Linkage
  pub source : Linkage
  pub codes : ℕ → List Line
  pub bodies : ℕ → Body
  pub spare : ℕ → Bool
  pub level : ℕ → ℕ
  pub rank : ℕ → ℕ
  pub K : ℕ → Text → Type 0
  pub Fair : Spot → Type 0
  pub scope : IsScope K Fair source
  pub same : SameNames K Fair target source
  pub numbers : (u : ℕ) (x : Text) (o : ℕ) → Fair (Held u x o) → target.number u x o ≡ source.number u x o
  pub apart : (u : ℕ) (x : Text) (o : ℕ) → Fair (Held u x o) → spare (source.number u x o) ≡ false

-- a unit of it, with its actuals
abbrev pub entered : (p : Program) (u : ℕ) (ps : List Spot) → AllFair p.Fair ps → Lowering
entered p u ps fair = record {
  target = p.target;
  source = p.source;
  codes = p.codes;
  unit = u;
  actuals = ps;
  spare = p.spare;
  level = p.level;
  rank = p.rank;
  K = p.K;
  Fair = p.Fair;
  scope = p.scope;
  same = p.same;
  numbers = p.numbers;
  apart = p.apart;
  fair = fair;
}

-- a unit of the program's own is lowered, and a unit beside stands as it is
abbrev pub IsUnit : Program → ℕ → Body → Type 0
IsUnit p u (Ours ss) = IsCode (entered p u [] tt) ss × AllFit 0 ss × AllLand (ss ∷ []) ss
IsUnit p u (Theirs lines) = (p.codes u ≡ lines) × NamesOfLinesBy (Own (entered p u [] tt)) lines

-- The units of the target's program are those of the source: the main, and each of no greater rank. Calls can go as deep as the
-- rank of the main.
pub record IsLowered (p : Program) : Type 0 where
  pub units : (u : ℕ) → p.rank u ≤ p.rank p.source.main → IsUnit p u (p.bodies u)
  pub main : p.target.main ≡ p.source.main
  pub first : (q : ℕ) → p.spare q ≡ false → p.target.first q ≡ p.source.first q
  pub deep : p.rank p.source.main < p.source.deep

module _ (p : Program) where
  -- what stands in a unit does not rest on its actuals
  same_code : (u : ℕ) (ps : List Spot) (fair : AllFair p.Fair ps) (ss : Commands) → IsCode (entered p u [] tt) ss → IsCode (entered p u ps fair) ss
  same_code u ps fair ss c = record {
    made = c.made;
    spare = c.spare;
    added = c.added;
    place = c.place;
    built = c.built;
    known = c.known;
    used = c.used;
    may = λ h. let v = c.may h in record { own = v.own; kind = v.kind; marked = v.marked; ranked = v.ranked };
    once = c.once;
    within = c.within;
    runs = c.runs;
    occur = c.occur;
    end = c.end;
  }

  -- a unit that is called, as its caller sees it
  seen_from : (b u v : ℕ) (ps qs : List Spot) (fair : AllFair p.Fair ps) (ok : AllFair p.Fair qs) → p.rank v < p.rank u → (h : Store) (s : State) (n x : ℕ) (t : Part) (o : Out ⊤) → UnitBy (entered p v qs ok) b h s n x t o → Answers ℕ same_fuel (entered p u ps fair) b h s n x t o
  seen_from b u v ps qs fair ok lt h s n x t (Gives a w) r = record { by = (r.0, r.1, r.2, record { by = λ q le. r.3.by q (omega arith) }, r.4) }
  seen_from b u v ps qs fair ok lt h s n x t (Halts (Ended e) w) r = record { by = r }
  seen_from b u v ps qs fair ok lt h s n x t (Halts GoesOn w) r = record { by = r }
  seen_from b u v ps qs fair ok lt h s n x t (Halts Lost w) r = record { by = tt }

  module _ (low : IsLowered p) (b : ℕ) where
    -- what a call does, at most k deep
    call_by : (k u : ℕ) (ps : List Spot) (fair : AllFair p.Fair ps) → p.rank u ≤ p.rank p.source.main → (h : Store) (w : World) (x : ℕ) → x ≤ 32 * w.count → UnitBy (entered p u ps fair) b h w.state w.count x (Whole (entered p u ps fair) b) (source_call p.source p.bodies b k u ps w)
    call_by zero u ps fair le h w x small = tt
    call_by (suc k) u ps fair le h w x small =
        by_body (record {
          does = source_call p.source p.bodies b k;
          track = λ v qs lt ok h1 w1 x1 le1. seen_from b u v ps qs fair ok lt h1 w1.state w1.count x1 (Whole (entered p v qs ok) b) (source_call p.source p.bodies b k v qs w1) (call_by k v qs ok (omega arith) h1 w1 x1 le1);
        }) (p.bodies u) (low.units u le)
      where
        by_body : (calls : Calls (entered p u ps fair) b) (o : Body) → IsUnit p u o → UnitBy (entered p u ps fair) b h w.state w.count x (Whole (entered p u ps fair) b) (does_body p.source p.bodies b (Src (entered p u ps fair) b calls) (F (entered p u ps fair)) o w)
        by_body calls (Ours ss) is = unit_by (entered p u ps fair) b calls ss (same_code u ps fair ss is.0) h w x small
        by_body calls (Theirs lines) is =
            subst (λ code. UnitBy (entered p u ps fair) b h w.state w.count x (Whole (entered p u ps fair) b) (does_body p.source p.bodies b (Src (entered p u ps fair) b calls) (F (entered p u ps fair)) (Theirs code) w)) is.0
            (beside_by (entered p u ps fair) b calls (subst (NamesOfLinesBy (Own (entered p u [] tt))) (sym is.0) is.1) h w x small)

    -- a call of a unit of lesser rank than it can go deep is not lost
    call_found : (k u : ℕ) (ps : List Spot) → p.rank u < k → p.rank u ≤ p.rank p.source.main → (w : World) → Fine Whatever (source_call p.source p.bodies b k u ps w)
    call_found zero u ps deep le w = absurd (omega arith)
    call_found (suc k) u ps deep le w = by_body (λ v qs lt w1. call_found k v qs (omega arith) (omega arith) w1) (p.bodies u) (low.units u le)
      where
        by_body : (finds : (v : ℕ) (qs : List Spot) → p.rank v < p.rank u → (w1 : World) → Fine Whatever (source_call p.source p.bodies b k v qs w1)) (o : Body) → IsUnit p u o → Fine Whatever (does_body p.source p.bodies b (S p.source (source_call p.source p.bodies b k) (λ v. p.rank v < p.rank u) finds b (λ n. n + 1)) (record { unit = u; actuals = ps; place = nowhere }) o w)
        by_body finds (Ours ss) is =
            unit_found p.source (source_call p.source p.bodies b k) (λ v. p.rank v < p.rank u) finds b (record { unit = u; actuals = ps; place = nowhere }) ss
            (commands_too _ _ _ (λ x h _. tt) (λ x h _. h.1) (λ x h _. h.1) ss is.0.used is.0.used) is.0.built is.1 is.2 (is_main (p.source.context u).header) w
        by_body finds (Theirs lines) is =
            beside_found p.source (source_call p.source p.bodies b k) (λ v. p.rank v < p.rank u) finds b (record { unit = u; actuals = ps; place = nowhere }) lines
            (lines_too _ _ _ (λ x h _. tt) (λ x h _. h.1) (λ x h _. h.1) lines is.1 is.1) w

  module _ (low : IsLowered p) (input : List Record) where
    abbrev main : ℕ
    main = p.source.main

    -- the target's first store is the source's, with what the spare units hold at first
    same_first : over p.spare p.target.first p.source.first ≡ p.target.first
    same_first = λ i q. by_unit q (p.spare q) refl i
      where
        by_unit : (q : ℕ) (v : Bool) → p.spare q ≡ v → (if v then p.target.first q else p.source.first q) ≡ p.target.first q
        by_unit q true e = refl
        by_unit q false e = sym (low.first q e)

    runs : (n : ℕ) → Run_shows (entered p main [] tt) 0 (first_state p.source input) p.target.first n ≡ f66 p.target p.codes input n
    runs n =
        ap (λ st. shown (exec p.target p.codes (suc n) (record { unit = main; actuals = []; place = nowhere }) (stand (p.codes main) no_loops) (record { state = record { store = st; tape = first_tape input }; left = n; count = 0 }))) same_first
        ∙ ap (λ m. shown (exec p.target p.codes (suc n) (record { unit = m; actuals = []; place = nowhere }) (stand (p.codes m) no_loops) (record { state = first_state p.target input; left = n; count = 0 }))) (sym low.main)

    pub found : (b : ℕ) → (ratfor p.source p.bodies b input).end ≢ Lost
    found b = shown_fine _ (call_found low b p.source.deep main [] low.deep (omega arith) (record { state = first_state p.source input; left = 0; count = 0 }))

    -- the program does what its source means
    pub program_agrees : Agrees (λ b. ratfor p.source p.bodies b input) (f66 p.target p.codes input)
    program_agrees =
        agrees (λ b. ratfor p.source p.bodies b input) (f66 p.target p.codes input) (λ m n le. f66_extends p.target p.codes input m n le)
        (λ b. subst (λ t. Ahead b (ratfor p.source p.bodies b input) t) (λ i n. runs n i)
        (unit_ahead (entered p main [] tt) b (first_state p.source input) p.target.first _ (call_by low b p.source.deep main [] tt (omega arith) p.target.first (record { state = first_state p.source input; left = 0; count = 0 }) 0 (omega arith)))) found
