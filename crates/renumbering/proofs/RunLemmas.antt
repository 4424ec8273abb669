-- The same of statements that have begun, and of what comes after them; and so of runs of units of FORTRAN.
use Rattle.std.proofs.Common.{ℕ, zero, suc, Bool, true, false, List, [], ◌∷◌, ◌++◌, length, Option, Some, None, refl}
use Rattle.std.specs.Prelude.{nat_eq, if◌then◌else◌, ⊤}
use Rattle.ground.specs.declared.place.Place.{Place}
use Rattle.f66_tree.specs.Syntax.{Act, Assign, Goto, Computed, Sign, When, Loop, Invoke, Continue, Stop, Return, Read, Write, Format, Typed, Dimension, Common, Equivalence, Preset, Line}
use Rattle.f66_tree.specs.World.{Store, World, Ended, Done, GoesOn, bind, holding, take_from, take_one}
use Rattle.f66_tree.specs.Units.{is_main, Setting, Frame, moved_to}
use Rattle.f66_tree.specs.Uses.{Using, NamesOfActBy, NamesOfLinesBy}
use Rattle.f66_tree.specs.Statements.{Exit, Normal, To, Back, does}
use Rattle.f66_tree.specs.Execution.{runnable, has_label, from_label, Progress, begun, stand, Closer, closer_of, closers, closers_at, Onward, close, leads, perform, past_end, fetch, target, exec, nowhere, no_loops}
use Rattle.f66_tree.proofs.RelatedRuns.{names_runnable}
use Rattle.renumbering.proofs.PairLemmas.{Twins, Agree, Mates, Pairs, Any, thens, gives, halts, choice, seen}
use Rattle.renumbering.proofs.ValueLemmas.{Around, side1, side2, IsSite, asks_pairs}
use Rattle.renumbering.proofs.StatementLemmas.{start_pairs, turn_pairs, does_pairs}

-- ---- the names of what is behind ----

names_from : (U : Using) (m : ℕ) (code : List Line) → NamesOfLinesBy U code → NamesOfLinesBy U (from_label m code)
names_from U m [] h = tt
names_from U m (s ∷ code) h = by_label (has_label m s.label) (names_from U m code h.1)
  where
    by_label : (b : Bool) → NamesOfLinesBy U (from_label m code) → NamesOfLinesBy U (if b then (s ∷ code) else from_label m code)
    by_label true k = h
    by_label false k = k

abbrev ClosersBy : Using → List Closer → Type 0
ClosersBy U [] = ⊤
ClosersBy U (k ∷ ks) = (U.alone k.variable × NamesOfLinesBy U k.inner) × ClosersBy U ks

closers_append : (U : Using) (ks js : List Closer) → ClosersBy U ks → ClosersBy U js → ClosersBy U (ks ++ js)
closers_append U [] js h k = k
closers_append U (c ∷ ks) js h k = (h.0, closers_append U ks js h.1 k)

closer_names : (U : Using) (m : ℕ) (a : Act) (rest : List Line) (ks : List Closer) → NamesOfActBy U a → NamesOfLinesBy U rest → ClosersBy U ks → ClosersBy U (closer_of m a rest ks)
closer_names U m (Loop l x p q r) rest ks ua ur h = by_label (nat_eq l m)
  where
    by_label : (b : Bool) → ClosersBy U (if b then (ks ++ record { variable = x; inner = rest } ∷ []) else ks)
    by_label true = closers_append U ks _ h ((ua.0, ur), tt)
    by_label false = h
closer_names U m _ rest ks ua ur h = h

closers_names : (U : Using) (m : ℕ) (code : List Line) → NamesOfLinesBy U code → ClosersBy U (closers m code)
closers_names U m [] h = tt
closers_names U m (s ∷ code) h = closer_names U m s.act code (closers m code) h.0 h.1 (closers_names U m code h.1)

closers_at_names : (U : Using) (o : Option ℕ) (code : List Line) → NamesOfLinesBy U code → ClosersBy U (closers_at o code)
closers_at_names U None code h = tt
closers_at_names U (Some m) code h = closers_names U m code h

pub past_pairs : (t : Twins) (b : Bool) → Pairs t ⊤ Any (past_end b) (past_end b)
past_pairs t true = halts t Any (Ended Done)
past_pairs t false = gives t Any (tt {0}) tt

-- ---- one statement, and where it leads ----

module _ (t : Twins) (a : Around t) (f : Frame) (site : IsSite t f) (code : List Line) (names : NamesOfLinesBy (t.used f.unit) code) (go1 go2 : Onward)
    (goes : (rest : List Line) → NamesOfLinesBy (t.used f.unit) rest → (pr : Progress) → Pairs t ⊤ Any (go1 (stand rest pr)) (go2 (stand rest pr))) where
  abbrev s1 : Setting
  s1 = side1 t a

  abbrev s2 : Setting
  s2 = side2 t a

  abbrev U : Using
  U = t.used f.unit

  close_pairs : (ks : List Closer) → ClosersBy U ks → (rest : List Line) → NamesOfLinesBy U rest → (pr : Progress) → Pairs t ⊤ Any (close s1 f ks rest go1 pr) (close s2 f ks rest go2 pr)
  close_pairs [] h rest r pr = goes rest r pr
  close_pairs (k ∷ ks) h rest r pr = thens t (turn_pairs t a f site k.variable h.0.0 (pr (length k.inner))) (λ goes_on. choice t goes_on (goes k.inner h.0.1 pr) (close_pairs ks h.1 rest r pr))

  leads_pairs : (o : Option ℕ) (rest : List Line) → NamesOfLinesBy U rest → (pr : Progress) (y : Exit) → Pairs t ⊤ Any (leads s1 f code o rest go1 pr y) (leads s2 f code o rest go2 pr y)
  leads_pairs o rest r pr Normal = close_pairs (closers_at o code) (closers_at_names U o code names) rest r pr
  leads_pairs o rest r pr (To m) = goes (from_label m code) (names_from U m code names) pr
  leads_pairs o rest r pr Back = gives t Any (tt {0}) tt

  module _ (o : Option ℕ) (rest : List Line) (r : NamesOfLinesBy U rest) (pr : Progress) where
    plain_pairs : (s : Act) → NamesOfActBy U s → Pairs t ⊤ Any (λ w. bind (does s1 f s w) (λ y w1. leads s1 f code o rest go1 pr y w1)) (λ w. bind (does s2 f s w) (λ y w1. leads s2 f code o rest go2 pr y w1))
    plain_pairs s used = thens t (does_pairs t a f site s used) (λ y. leads_pairs o rest r pr y)

    pub perform_pairs : (s : Act) → NamesOfActBy U s → Pairs t ⊤ Any (perform s1 f code o s rest go1 pr) (perform s2 f code o s rest go2 pr)
    perform_pairs (When e s) used =
        thens t (asks_pairs t a f site e used.0) (λ holds. choice t holds (goes (record { label = o; place = f.place; act = s } ∷ rest) (used.1, r) pr) (leads_pairs o rest r pr Normal))
    perform_pairs (Loop m x p q d) used = thens t (start_pairs t a f site x p q d used.0 used.1 used.2 used.3) (λ k. goes rest r (begun (length rest) k pr))
    perform_pairs (Assign x e) used = plain_pairs (Assign x e) used
    perform_pairs (Goto m) used = plain_pairs (Goto m) used
    perform_pairs (Computed ls x) used = plain_pairs (Computed ls x) used
    perform_pairs (Sign e n m k) used = plain_pairs (Sign e n m k) used
    perform_pairs (Invoke x es) used = plain_pairs (Invoke x es) used
    perform_pairs Continue used = plain_pairs Continue used
    perform_pairs (Stop n) used = plain_pairs (Stop n) used
    perform_pairs Return used = plain_pairs Return used
    perform_pairs (Read u m es) used = plain_pairs (Read u m es) used
    perform_pairs (Write u m es) used = plain_pairs (Write u m es) used
    perform_pairs (Format fs) used = plain_pairs (Format fs) used
    perform_pairs (Typed w ds) used = plain_pairs (Typed w ds) used
    perform_pairs (Dimension ds) used = plain_pairs (Dimension ds) used
    perform_pairs (Common areas) used = plain_pairs (Common areas) used
    perform_pairs (Equivalence es) used = plain_pairs (Equivalence es) used
    perform_pairs (Preset ps) used = plain_pairs (Preset ps) used

-- ---- units ----

abbrev pub moved_site : (t : Twins) (p : Place) (f : Frame) → IsSite t f → IsSite t (moved_to p f)
moved_site t p f site = record { inside = site.inside; actuals = site.actuals }

-- the next statement begins
pub fetch_pairs : (t : Twins) (a : Around t) (f : Frame) → IsSite t f → (code : List Line) → NamesOfLinesBy (t.used f.unit) code → (go1 go2 : Onward) →
    ((rest : List Line) → NamesOfLinesBy (t.used f.unit) rest → (pr : Progress) → Pairs t ⊤ Any (go1 (stand rest pr)) (go2 (stand rest pr))) →
    (rest : List Line) → NamesOfLinesBy (t.used f.unit) rest → (pr : Progress) → Pairs t ⊤ Any (fetch (side1 t a) f code rest go1 pr) (fetch (side2 t a) f code rest go2 pr)
fetch_pairs t a f site code names go1 go2 goes [] r pr =
    seen t f.unit site.inside (λ c. Pairs t ⊤ Any (past_end (is_main c.header)) (past_end (is_main (t.two.context f.unit).header))) (past_pairs t (is_main (t.two.context f.unit).header))
fetch_pairs t a f site code names go1 go2 goes (s ∷ rest) r pr =
    thens t a.begins (λ _. perform_pairs t a (moved_to s.place f) (moved_site t s.place f site) code names go1 go2 goes s.label rest r.1 pr s.act r.0)

pub begin_pairs : (t : Twins) → Pairs t ⊤ Any take_one take_one
begin_pairs t = record { run = λ w st agree. by_left w.left w st agree }
  where
    by_left : (k : ℕ) (w : World) (st : Store) → Agree t w.state.store st → Mates t Any (take_from w.state k w.count) (take_from (holding st w).state k w.count)
    by_left zero w st agree = (st, refl)
    by_left (suc k) w st agree = (tt {0}, (st, agree, refl))

-- the names that the statements of each unit in a run use are used there
abbrev pub CodesNamed : Twins → (ℕ → List Line) → Type 0
CodesNamed t codes = (u : ℕ) → t.InRun u → NamesOfLinesBy (t.used u) (codes u)

module _ (t : Twins) (codes : ℕ → List Line) (names : CodesNamed t codes) where
  abbrev RunsSo : ℕ → Type 0
  RunsSo n = (f : Frame) → IsSite t f → (rest : List Line) → NamesOfLinesBy (t.used f.unit) rest → (pr : Progress) → Pairs t ⊤ Any (exec t.one codes n f (stand rest pr)) (exec t.two codes n f (stand rest pr))

  abbrev around_at : (n : ℕ) → RunsSo n → Around t
  around_at n runs = record {
    call1 = (target t.one codes n (exec t.one codes n)).call;
    call2 = (target t.two codes n (exec t.two codes n)).call;
    begin = take_one;
    most = n;
    tick = λ c. c;
    begins = begin_pairs t;
    calls = λ v inside ps all. runs (record { unit = v; actuals = ps; place = nowhere }) (record { inside = inside; actuals = all }) (codes v) (names v inside) no_loops;
  }

  pub exec_pairs : (n : ℕ) → RunsSo n
  exec_pairs zero f site rest r pr = halts t Any GoesOn
  exec_pairs (suc n) f site rest r pr =
      fetch_pairs t (around_at n (exec_pairs n)) f site (codes f.unit) (names f.unit site.inside) (exec t.one codes n f) (exec t.two codes n f) (λ q used pr1. exec_pairs n f site q used pr1)
      (runnable rest) (names_runnable (t.used f.unit) rest r) pr
