-- All routes follow: rings, cycles, and lists with the jumps within them.
use Rattle.std.proofs.Common.{◌≡◌, true, false, Bool, ℕ, zero, suc, ◌+◌, ◌≤◌, ◌<◌, List, [], ◌∷◌, Option, Some, None, refl, sym, ap, ◌∙◌, subst, arith, true≢false, ⊎_elim, ◌||◌, eqb-true}
use Rattle.std.specs.Prelude.{if◌then◌else◌, ⊤, nat_eq}
use Rattle.std.proofs.lemmas.Bool.{or_cases}
use Rattle.ground.specs.declared.place.Place.{Place}
use Rattle.f66_tree.specs.declared.editing.Way.TheVariants.{Reading, Writing}
use Rattle.f66_tree.specs.Syntax.{Act, Assign, Goto, Computed, Sign, When, Loop, Invoke, Continue, Stop, Return, Read, Write, Format, Typed, Dimension, Common, Equivalence, Preset, Line, unlabelled_line}
use Rattle.f66_tree.specs.World.{State, World, counted, GoesOn, Out, Gives, Halts}
use Rattle.f66_tree.specs.Units.{Spot, Linkage, Setting, Frame}
use Rattle.f66_tree.specs.Execution.{runnable, from_label, closers, fetch, exec, no_loops}
use Rattle.f66_tree.proofs.Comes.{at, Part, Comes, comes_here}
use Rattle.routes.specs.Routes.{Route, Plain, BreakIf, Break, Ring, Cycle, Block, InTurn, Labelled, Transfer, Routes, NoRoute, AndRoute}
use Rattle.routes.specs.Running as running
use Rattle.routes.specs.Running.{Went, Jumps, Backs, Leave, Flow, then_do, ringed, cycles, stays, has_own_label, stands, landed}
use Rattle.routes.specs.Code.{Behind, jump, here, labels, all_labels, code_of, all_code}
use Rattle.routes.specs.Placed.{IsPlain, Placed, AllPlaced}
use Rattle.routes.proofs.Tracks.{T, same_fuel}
use Rattle.routes.proofs.Follows.{Run, Under, Follows, first, weaker, then_follows, past_jump, past_here, ringed_follows}
use Rattle.routes.proofs.Parts.{Src, plain_follows, quits_follow, transfers_follow}

-- statements of which one is executed
abbrev pub Starts : List Line → Type 0
Starts rest = (line : Line) × (others : List Line) × (runnable rest ≡ line ∷ others)

plain_starts : (p : Place) (a : Act) (next : List Line) → IsPlain a → Starts (unlabelled_line p a ∷ next)
plain_starts p (Assign x e) next is = (_, _, refl)
plain_starts p (Goto m) next is = (_, _, refl)
plain_starts p (Computed ms x) next is = (_, _, refl)
plain_starts p (Sign e n m k) next is = (_, _, refl)
plain_starts p (Invoke x es) next is = (_, _, refl)
plain_starts p Continue next is = (_, _, refl)
plain_starts p (Stop n) next is = (_, _, refl)
plain_starts p Return next is = (_, _, refl)
plain_starts p (When e a) next is = absurd is
plain_starts p (Loop m y i1 i2 i3) next is = absurd is
plain_starts p (Read i m es) next is = absurd is
plain_starts p (Write i m es) next is = absurd is
plain_starts p (Format fs) next is = absurd is
plain_starts p (Typed t es) next is = absurd is
plain_starts p (Dimension es) next is = absurd is
plain_starts p (Common es) next is = absurd is
plain_starts p (Equivalence es) next is = absurd is
plain_starts p (Preset es) next is = absurd is

module _ (l : Linkage) (codes : ℕ → List Line) (f : Frame) (b : ℕ) (call : ℕ → List Spot → World → Out ⊤) (called : (v : ℕ) (ps : List Spot) → T ℕ same_fuel b ⊤ (λ i. (Under l codes f i).call v ps) (call v ps)) (made : ℕ → ℕ)
    (no_do : (m : ℕ) → closers m (codes f.unit) ≡ []) where
  abbrev So : Setting
  So = Src l codes f b call called

  abbrev R : List Line → Part
  R rest = Run l codes f rest

  abbrev Fo : (m : ℕ) (ls : Behind) (t : Part) (s : State) (x : ℕ) (next : List Line) (o : Flow) → Type 0
  Fo m ls t s x next o = Follows l codes f 1 m ls t s x next o

  abbrev co : List Line
  co = codes f.unit

  abbrev pub Stand : Route → ℕ → Behind → List Line → Type 0
  Stand r n ls next = Placed made (l.context f.unit).notes co r n ls next

  abbrev pub AllStand : Routes → ℕ → Behind → List Line → Type 0
  AllStand rs n ls next = AllPlaced made (l.context f.unit).notes co rs n ls next

  abbrev pub does : Route → World → Flow
  does r w = running.running So f b r w

  abbrev pub does_all : Routes → Option ℕ → World → Flow
  does_all rs o w = running.run_from So f b rs o w

  -- what is proved of each route, of each list, and of each list from a label
  abbrev pub Right : Route → Type 0
  Right r = (n : ℕ) (ls : Behind) (next : List Line) → Stand r n ls next → Starts next → (w : World) (x : ℕ) → x ≤ w.count → Fo b ls (R (code_of made r n ls next)) w.state x next (does r w)

  abbrev pub AllRight : Routes → Type 0
  AllRight rs = (n : ℕ) (ls : Behind) (next : List Line) → AllStand rs n ls next → Starts next → (w : World) (x : ℕ) → x ≤ w.count → Fo b ls (R (all_code made rs n ls next)) w.state x next (does_all rs None w)

  abbrev pub FromRight : Routes → Type 0
  FromRight rs = (m : ℕ) → stands m rs ≡ true → (n : ℕ) (ls : Behind) (next : List Line) → AllStand rs n ls next → Starts next → (w : World) (x : ℕ) → x ≤ w.count → Fo b ls (R (from_label m co)) w.state x next (does_all rs (Some m) w)

  mutual
    starts_route : (r : Route) (n : ℕ) (ls : Behind) (next : List Line) → Stand r n ls next → Starts next → Starts (code_of made r n ls next)
    starts_route (Plain p a) n ls next ok h = plain_starts p a next ok
    starts_route (BreakIf p e k) n ls next ok h = (_, _, refl)
    starts_route (Break p k) n ls next ok h = (_, _, refl)
    starts_route (Ring p rs) n ls next ok h = starts_all rs (n + 1) (made n ∷ ls) (here (made n) p ∷ next) ok.1 (_, _, refl)
    starts_route (Cycle p top rest) n ls next ok h = (_, _, refl)
    starts_route (Block rs) n ls next ok h = starts_all rs n ls next ok h
    starts_route (InTurn rs) n ls next ok h = starts_all rs n ls next ok h
    starts_route (Labelled m p r) n ls next ok h = (_, _, refl)
    starts_route (Transfer p Reading u fs es) n ls next ok h = (_, _, refl)
    starts_route (Transfer p Writing u fs es) n ls next ok h = (_, _, refl)

    starts_all : (rs : Routes) (n : ℕ) (ls : Behind) (next : List Line) → AllStand rs n ls next → Starts next → Starts (all_code made rs n ls next)
    starts_all NoRoute n ls next ok h = h
    starts_all (AndRoute r rs) n ls next ok h = starts_route r n ls (all_code made rs (n + labels r) ls next) ok.0 (starts_all rs (n + labels r) ls next ok.1 h)

  -- where no further statement may begin
  waits : (rest : List Line) (s : State) → Starts rest → (n c : ℕ) → 0 < n → R rest n (at s 0 c) ≡ Halts GoesOn (at s 0 (c + 0))
  waits rest s h zero c lt = absurd (omega arith)
  waits rest s h (suc n) c lt =
      let e : c ≡ c + 0 = omega arith in
      ap (λ q. fetch (Under l codes f n) f co q (exec l codes n f) no_loops (at s 0 c)) h.2 ∙ ap (λ q. Halts GoesOn (at s 0 q)) e

  ring_right : (p : Place) (rs : Routes) → AllRight rs → Right (Ring p rs)
  ring_right p rs r n ls next ok h w x le =
      ringed_follows l codes f {j = 1} {b = b} {m = b} 0 (made n) p (does_all rs None (counted w)) (λ w1. Gives Went w1) (omega arith) ok.0 (no_do (made n)) (r (n + 1) (made n ∷ ls) (here (made n) p ∷ next) ok.1 (_, _, refl) (counted w) (1 + 0 + x) (omega arith))
      (λ w1 y le1. record { by = (1, omega arith, past_here l codes f p (made n) next w1.state (no_do (made n))) })

  all_none : AllRight NoRoute
  all_none n ls next ok h w x le = record { by = (0, omega arith, comes_here (R next) w.state) }

  all_more : (r : Route) (rs : Routes) → Right r → AllRight rs → AllRight (AndRoute r rs)
  all_more r rs right rest n ls next ok h w x le =
      then_follows l codes f {j = 1} {b = b} {m = b} (does r w) (does_all rs None) (omega arith) (right n ls (all_code made rs (n + labels r) ls next) ok.0 (starts_all rs (n + labels r) ls next ok.1 h) w x le)
      (λ w1 x1 le1. rest (n + labels r) ls next ok.1 h w1 x1 le1)

  -- ---- cycles ----

  module _ (p : Place) (top rest : Routes) (rt : AllRight top) (rr : AllRight rest) (n : ℕ) (ls : Behind) (next : List Line) (ok : Stand (Cycle p top rest) n ls next) where
    abbrev out : List Line
    out = jump p (made n) ∷ here (made (n + 1)) p ∷ next

    abbrev second : List Line
    second = all_code made rest (n + 2 + all_labels top) (made (n + 1) ∷ ls) out

    second_starts : Starts second
    second_starts = starts_all rest (n + 2 + all_labels top) (made (n + 1) ∷ ls) out ok.3 (_, _, refl)

    cycle_follows : (m : ℕ) → m ≤ b → (w : World) (x : ℕ) → 1 + x ≤ w.count → Fo m ls (R (code_of made (Cycle p top rest) n ls next)) w.state x next (cycles m (does_all top None) (does_all rest None) w)
    cycle_follows zero le w x small =
        first l codes f {j1 = 1} {b1 = 0} {x1 = 1 + x} (cycles zero (does_all top None) (does_all rest None) w) (past_here l codes f p (made n) (all_code made top (n + 2) (made (n + 1) ∷ ls) second) w.state (no_do (made n))) (omega arith) (omega arith) (omega arith)
        (ringed_follows l codes f {j = 1} {b = b} {m = 0} 0 (made (n + 1)) p (does_all top None (counted w)) stays (omega arith) ok.1 (no_do (made (n + 1)))
        (rt (n + 2) (made (n + 1) ∷ ls) second ok.2 second_starts (counted w) (1 + 0 + (1 + x)) (omega arith))
        (λ w1 y le1. record { by = (0, omega arith, omega arith, λ i c lt. waits second w1.state second_starts i c lt) }))
    cycle_follows (suc m) le w x small =
        first l codes f {j1 = 1} {b1 = m} {x1 = 1 + x} (cycles (suc m) (does_all top None) (does_all rest None) w) (past_here l codes f p (made n) (all_code made top (n + 2) (made (n + 1) ∷ ls) second) w.state (no_do (made n))) (omega arith) (omega arith) (omega arith)
        (ringed_follows l codes f {j = 1} {b = b} {m = m} 0 (made (n + 1)) p (does_all top None (counted w)) (λ w1. ringed (does_all rest None (counted w1)) (cycles m (does_all top None) (does_all rest None))) (omega arith) ok.1 (no_do (made (n + 1)))
        (rt (n + 2) (made (n + 1) ∷ ls) second ok.2 second_starts (counted w) (1 + 0 + (1 + x)) (omega arith))
        (λ w1 y le1. ringed_follows l codes f {j = 1} {b = b} {m = m} 1 (made (n + 1)) p (does_all rest None (counted w1)) (cycles m (does_all top None) (does_all rest None)) (omega arith) ok.1 (no_do (made (n + 1)))
        (rr (n + 2 + all_labels top) (made (n + 1) ∷ ls) out ok.3 (_, _, refl) (counted w1) (1 + 1 + y) (omega arith))
        (λ w2 y2 le2. first l codes f {j1 = 1} {b1 = m} {x1 = 1 + y2} (cycles m (does_all top None) (does_all rest None) w2) (back w2.state) (omega arith) (omega arith) (omega arith) (cycle_follows m (omega arith) w2 (1 + y2) (omega arith)))))
      where
        back : (s : State) → Comes (R out) s (R (code_of made (Cycle p top rest) n ls next)) s 1
        back s = subst (λ q. Comes (R out) s (R q) s 1) ok.0 (past_jump l codes f p (made n) (here (made (n + 1)) p ∷ next) s)

  cycle_right : (p : Place) (top rest : Routes) → AllRight top → AllRight rest → Right (Cycle p top rest)
  cycle_right p top rest rt rr n ls next ok h w x le = cycle_follows p top rest rt rr n ls next ok b (omega arith) (counted w) x (omega arith)

  -- ---- labels ----

  marked_right : (q : ℕ) (p : Place) (r : Route) → Right r → Right (Labelled q p r)
  marked_right q p r right n ls next ok h w x le =
      first l codes f {j1 = 1} {b1 = b} {x1 = 1 + x} (does r (counted w)) (past_here l codes f p q (code_of made r n ls next) w.state (no_do q)) (omega arith) (omega arith) (omega arith) (right n ls next ok.1 h (counted w) (1 + x) (omega arith))

  -- from a label of a statement
  abbrev FromMark : Route → Type 0
  FromMark r = (m : ℕ) → has_own_label m r ≡ true → (n : ℕ) (ls : Behind) (next : List Line) → Stand r n ls next → Starts next → (w : World) (x : ℕ) → x ≤ w.count → Fo b ls (R (from_label m co)) w.state x next (does r w)

  mark_right : (q : ℕ) (p : Place) (r : Route) → Right r → FromMark r → FromMark (Labelled q p r)
  mark_right q p r right from m is n ls next ok h w x le =
      ⊎_elim
      (λ (e : nat_eq q m ≡ true). subst (λ t. Fo b ls (R t) w.state x next (does r (counted w))) (sym (ap (λ i. from_label i co) (sym (eqb-true q m e)) ∙ ok.0)) (marked_right q p r right n ls next ok h w x le))
      (λ (e : has_own_label m r ≡ true). from m e n ls next ok.1 h (counted w) x (omega arith))
      (or_cases _ _ is)

  mark_starts : (m : ℕ) (r : Route) → has_own_label m r ≡ true → (n : ℕ) (ls : Behind) (next : List Line) → Stand r n ls next → Starts (from_label m co)
  mark_starts m (Labelled q p r) is n ls next ok =
      ⊎_elim (λ (e : nat_eq q m ≡ true). subst Starts (sym (ap (λ i. from_label i co) (sym (eqb-true q m e)) ∙ ok.0)) (_, _, refl)) (λ (e : has_own_label m r ≡ true). mark_starts m r e n ls next ok.1) (or_cases _ _ is)
  mark_starts m (Plain p a) is n ls next ok = absurd (true≢false (sym is))
  mark_starts m (BreakIf p e k) is n ls next ok = absurd (true≢false (sym is))
  mark_starts m (Break p k) is n ls next ok = absurd (true≢false (sym is))
  mark_starts m (Ring p rs) is n ls next ok = absurd (true≢false (sym is))
  mark_starts m (Cycle p top rest) is n ls next ok = absurd (true≢false (sym is))
  mark_starts m (Block rs) is n ls next ok = absurd (true≢false (sym is))
  mark_starts m (InTurn rs) is n ls next ok = absurd (true≢false (sym is))
  mark_starts m (Transfer p way u fs es) is n ls next ok = absurd (true≢false (sym is))

  stands_start : (m : ℕ) (rs : Routes) → stands m rs ≡ true → (n : ℕ) (ls : Behind) (next : List Line) → AllStand rs n ls next → Starts (from_label m co)
  stands_start m NoRoute is n ls next ok = absurd (true≢false (sym is))
  stands_start m (AndRoute r rs) is n ls next ok =
      ⊎_elim (λ (e : has_own_label m r ≡ true). mark_starts m r e n ls (all_code made rs (n + labels r) ls next) ok.0) (λ (e : stands m rs ≡ true). stands_start m rs e (n + labels r) ls next ok.1) (or_cases _ _ is)

  from_none : FromRight NoRoute
  from_none m is n ls next ok h w x le = absurd (true≢false (sym is))

  from_more : (r : Route) (rs : Routes) → FromMark r → AllRight rs → FromRight rs → FromRight (AndRoute r rs)
  from_more r rs mark rest from m is n ls next ok h w x le = by_mark (has_own_label m r) refl
    where
      by_mark : (v : Bool) → has_own_label m r ≡ v → Fo b ls (R (from_label m co)) w.state x next (if v then (then_do (does r w) (does_all rs None)) else (does_all rs (Some m) w))
      by_mark true e =
          then_follows l codes f {j = 1} {b = b} {m = b} (does r w) (does_all rs None) (omega arith) (mark m e n ls (all_code made rs (n + labels r) ls next) ok.0 (starts_all rs (n + labels r) ls next ok.1 h) w x le)
          (λ w1 x1 le1. rest (n + labels r) ls next ok.1 h w1 x1 le1)
      by_mark false e = from m (sym (ap (λ v. v || stands m rs) e) ∙ is) (n + labels r) ls next ok.1 h w x le

  smaller : {m x : ℕ} {ls : Behind} {t : Part} {s : State} {next : List Line} (o : Flow) → m ≤ b → Fo b ls t s x next o → Fo m ls t s x next o
  smaller {m} o le h = weaker l codes f {b1 = b} o (omega arith) le (omega arith) h

  -- at most k jumps within a list
  landed_follows : (rs : Routes) (n : ℕ) (ls : Behind) (next : List Line) → AllStand rs n ls next → Starts next → FromRight rs → (k : ℕ) → k ≤ b → (o : Flow) {x : ℕ} {t : Part} {s : State} → Fo b ls t s x next o → Fo k ls t s x next (landed k rs (λ q. does_all rs (Some q)) o)
  landed_follows rs n ls next ok st from zero le (Gives Went w) h = smaller (Gives Went w) le h
  landed_follows rs n ls next ok st from (suc k) le (Gives Went w) h = smaller (Gives Went w) le h
  landed_follows rs n ls next ok st from zero le (Gives Backs w) h = smaller (Gives Backs w) le h
  landed_follows rs n ls next ok st from (suc k) le (Gives Backs w) h = smaller (Gives Backs w) le h
  landed_follows rs n ls next ok st from zero le (Gives (Leave i) w) h = smaller (Gives (Leave i) w) le h
  landed_follows rs n ls next ok st from (suc k) le (Gives (Leave i) w) h = smaller (Gives (Leave i) w) le h
  landed_follows rs n ls next ok st from k le (Halts e w) h = smaller (Halts e w) le h
  landed_follows rs n ls next ok st from zero le (Gives (Jumps q) w) {x} {t} {s} h = by_answer (stands q rs) refl
    where
      by_answer : (v : Bool) → stands q rs ≡ v → Fo 0 ls t s x next (if v then (Halts GoesOn w) else (Gives (Jumps q) w))
      by_answer true e =
          let a = h.by in
          first l codes f {j1 = 1} {b1 = 0} {x1 = a.0 + x} (Halts GoesOn w) a.3 (omega arith) (omega arith) (omega arith)
          (record { by = (0, omega (arith, a.1), omega arith, λ i c lt. waits (from_label q co) w.state (stands_start q rs e n ls next ok) i c lt) })
      by_answer false e = smaller (Gives (Jumps q) w) (omega arith) h
  landed_follows rs n ls next ok st from (suc k) le (Gives (Jumps q) w) {x} {t} {s} h =
      by_answer (stands q rs) refl (λ e. let a = h.by in landed_follows rs n ls next ok st from k (omega arith) (does_all rs (Some q) w) (from q e n ls next ok st w (a.0 + x) (omega (arith, a.1))))
    where
      by_answer : (v : Bool) → stands q rs ≡ v → (stands q rs ≡ true → Fo k ls (R (from_label q co)) w.state (h.by.0 + x) next (landed k rs (λ i. does_all rs (Some i)) (does_all rs (Some q) w))) →
          Fo (suc k) ls t s x next (if v then (landed k rs (λ i. does_all rs (Some i)) (does_all rs (Some q) w)) else (Gives (Jumps q) w))
      by_answer true e ih = let a = h.by in first l codes f {j1 = 1} {b1 = k} (landed k rs (λ i. does_all rs (Some i)) (does_all rs (Some q) w)) a.3 (omega arith) (omega (arith, a.2)) (omega arith) (ih e)
      by_answer false e ih = smaller (Gives (Jumps q) w) le h

  together_right : (rs : Routes) → AllRight rs → FromRight rs → Right (Block rs)
  together_right rs r from n ls next ok h w x le = landed_follows rs n ls next ok h from b (omega arith) (does_all rs None w) (r n ls next ok h w x le)

  mutual
    pub route_right : (r : Route) → Right r
    route_right (Plain p a) = λ n ls next ok h w x le. plain_follows l codes f b call called p a w ok le
    route_right (BreakIf p e k) = λ n ls next ok h w x le. quits_follow l codes f b call called p e k w le
    route_right (Break p k) = λ n ls next ok h w x le. record { by = (1, omega (arith, le), past_jump l codes f p _ next w.state) }
    route_right (Ring p rs) = ring_right p rs (all_right rs)
    route_right (Cycle p top rest) = cycle_right p top rest (all_right top) (all_right rest)
    route_right (Block rs) = together_right rs (all_right rs) (from_right rs)
    route_right (InTurn rs) = all_right rs
    route_right (Labelled m p r) = marked_right m p r (route_right r)
    route_right (Transfer p way u fs es) = λ n ls next ok h w x le. transfers_follow l codes f b call called p way u (made n) fs es w ok le

    pub all_right : (rs : Routes) → AllRight rs
    all_right NoRoute = all_none
    all_right (AndRoute r rs) = all_more r rs (route_right r) (all_right rs)

    pub from_right : (rs : Routes) → FromRight rs
    from_right NoRoute = from_none
    from_right (AndRoute r rs) = from_more r rs (mark_of r) (all_right rs) (from_right rs)

    mark_of : (r : Route) → FromMark r
    mark_of (Labelled q p r) = mark_right q p r (route_right r) (mark_of r)
    mark_of (Plain p a) = λ m is n ls next ok h w x le. absurd (true≢false (sym is))
    mark_of (BreakIf p e k) = λ m is n ls next ok h w x le. absurd (true≢false (sym is))
    mark_of (Break p k) = λ m is n ls next ok h w x le. absurd (true≢false (sym is))
    mark_of (Ring p rs) = λ m is n ls next ok h w x le. absurd (true≢false (sym is))
    mark_of (Cycle p top rest) = λ m is n ls next ok h w x le. absurd (true≢false (sym is))
    mark_of (Block rs) = λ m is n ls next ok h w x le. absurd (true≢false (sym is))
    mark_of (InTurn rs) = λ m is n ls next ok h w x le. absurd (true≢false (sym is))
    mark_of (Transfer p way u fs es) = λ m is n ls next ok h w x le. absurd (true≢false (sym is))

  -- a whole list, with the jumps within it
  pub body_right : (rs : Routes) → Right (Block rs)
  body_right rs = route_right (Block rs)
