-- A list of statements follows, from its start and from each label that stands directly in it, with the jumps within it.
use Rattle.std.proofs.Common.{◌≡◌, true, false, Bool, ℕ, zero, suc, ◌+◌, ◌*◌, ◌≤◌, List, [], ◌∷◌, length, Some, None, refl, sym, ap, ◌∙◌, subst, arith, true≢false, ⊎_elim, ◌||◌}
use Rattle.std.specs.Prelude.{if◌then◌else◌}
use Rattle.std.proofs.lemmas.Bool.{or_cases}
use Rattle.ground.specs.declared.place.Place.{Place}
use Rattle.f66_tree.specs.Syntax.{Text, Line}
use Rattle.f66_tree.specs.World.{State, World, counted, Ended, GoesOn, Lost, Gives, Halts}
use Rattle.f66_tree.specs.Units.{is_note}
use Rattle.f66_tree.specs.Execution.{has_label, runnable, from_label, closers}
use Rattle.f66_tree.proofs.Comes.{at, Part, Comes, comes_on, none_begun}
use Rattle.rat_tree.specs.Syntax.{Command, Empty, Block, If, IfElse, While, For, Repeat, RepeatUntil, Do, Switch, Break, Next, Return, Plain, Labelled, Commands, NoCommand, AndCommand}
use Rattle.rat_tree.specs.Meaning.{Went, Jumps, Backs, Leave, Again, Flow, went, then_do, has_own_label, stands, landed, fits_case, meaning, run_from}
use Rattle.rat_lower.specs.Code.{Rings, here, labels}
use Rattle.rat_lower.proofs.Simulation.Spared.{Lowering, own_name, code}
use Rattle.rat_lower.proofs.Simulation.Follows.{Extra, keeps_self, Calls, first, weaker, then_follows, past_here}
use Rattle.rat_lower.proofs.Simulation.Counts.{ends, all_heads}
use Rattle.rat_lower.proofs.Simulation.Labels.{AreUnique, Within, within_in, within_code, found, found_line, longer_in, Starts}
use Rattle.rat_lower.proofs.Simulation.Idle.{idle, all_idle, credit, first_idle, rest_idle}
use Rattle.rat_lower.proofs.Simulation.Parts.{note_skipped, note_means}
use Rattle.rat_lower.proofs.Simulation.Words.{words}
use Rattle.rat_lower.proofs.Simulation.Loops.{waits}

module _ (g : Lowering) (b : ℕ) (call : Calls g b) (made : ℕ → ℕ) (spare : Text) (unique : AreUnique (code g)) where
  open words g b call made spare use {So, R, Fo, f0, co, cd, acd, Right, AllRight, FromRight}

  -- a label's place
  marked_at : (q : ℕ) (s : Command) (n : ℕ) (ls : Rings) (next : List Line) → has_own_label q s ≡ true → Within (cd s n ls next) co → (from_label q co ≡ cd s n ls next) × Starts (cd s n ls next)
  marked_at q (Labelled m p s) n ls next is has = (found_line q (here m p) is unique has, (_, _, refl))
  marked_at q (Plain m p a) n ls next is has = go (is_note a) refl
    where
      go : (v : Bool) → is_note a ≡ v → (from_label q co ≡ cd (Plain m p a) n ls next) × Starts (cd (Plain m p a) n ls next)
      go true e = absurd (true≢false (sym is ∙ ap (λ v. if v then false else has_label q m) e))
      go false e = (found_line q (record { label = m; place = p; act = a }) (sym (ap (λ v. if v then false else has_label q m) e) ∙ is) unique has, (_, _, ap (λ v. if v then runnable next else (record { label = m; place = p; act = a } ∷ next)) e))
  marked_at q (Empty p) n ls next is has = absurd (true≢false (sym is))
  marked_at q (Block p ss) n ls next is has = absurd (true≢false (sym is))
  marked_at q (If p e s) n ls next is has = absurd (true≢false (sym is))
  marked_at q (IfElse p e s t) n ls next is has = absurd (true≢false (sym is))
  marked_at q (While p e s) n ls next is has = absurd (true≢false (sym is))
  marked_at q (For p i e j s) n ls next is has = absurd (true≢false (sym is))
  marked_at q (Repeat p s) n ls next is has = absurd (true≢false (sym is))
  marked_at q (RepeatUntil p s e r) n ls next is has = absurd (true≢false (sym is))
  marked_at q (Do p y a z d s) n ls next is has = absurd (true≢false (sym is))
  marked_at q (Switch p e cs) n ls next is has = absurd (true≢false (sym is))
  marked_at q (Break p k) n ls next is has = absurd (true≢false (sym is))
  marked_at q (Next p k) n ls next is has = absurd (true≢false (sym is))
  marked_at q (Return p e) n ls next is has = absurd (true≢false (sym is))

  pub within_rest : (s : Command) (ss : Commands) (n : ℕ) (ls : Rings) (next : List Line) → Within (acd (AndCommand s ss) n ls next) co → Within (acd ss (n + labels s) ls next) co
  within_rest s ss n ls next has = within_in (within_code made spare (own_name g) s n ls (acd ss (n + labels s) ls next)) has

  stands_at : (q : ℕ) (ss : Commands) (n : ℕ) (ls : Rings) (next : List Line) → stands q ss ≡ true → Within (acd ss n ls next) co → Starts (from_label q co)
  stands_at q NoCommand n ls next is has = absurd (true≢false (sym is))
  stands_at q (AndCommand s ss) n ls next is has =
      ⊎_elim
      (λ (m : has_own_label q s ≡ true). let a = marked_at q s n ls (acd ss (n + labels s) ls next) m has in subst Starts (sym a.0) a.1)
      (λ (m : stands q ss ≡ true). stands_at q ss (n + labels s) ls next m (within_rest s ss n ls next has))
      (or_cases _ _ is)

  smaller : {m top x : ℕ} {ls : Rings} {pr : Extra} {t : Part} {s : State} {next : List Line} (o : Flow) → m ≤ b → Fo b top ls pr t s x next o → Fo m top ls pr t s x next o
  smaller {m} o le h = weaker g {b1 = b} o (omega arith) le (omega arith) h

  -- at most k jumps within a list
  pub landed_follows : (ss : Commands) (n : ℕ) (ls : Rings) (next : List Line) → Within (acd ss n ls next) co → ((q : ℕ) → ends q co + all_heads made q ss n ≤ 1) → (top : ℕ) → length (acd ss n ls next) ≤ top → FromRight ss →
      (k : ℕ) → k ≤ b → (o : Flow) {x : ℕ} {pr : Extra} {t : Part} {s : State} → Fo b top ls pr t s x next o → Fo k top ls pr t s x next (landed k ss (λ q. run_from So f0 b ss (Some q)) o)
  landed_follows ss n ls next has clear top fits_case from zero le (Gives Went w) h = smaller (Gives Went w) le h
  landed_follows ss n ls next has clear top fits_case from (suc k) le (Gives Went w) h = smaller (Gives Went w) le h
  landed_follows ss n ls next has clear top fits_case from zero le (Gives Backs w) h = smaller (Gives Backs w) le h
  landed_follows ss n ls next has clear top fits_case from (suc k) le (Gives Backs w) h = smaller (Gives Backs w) le h
  landed_follows ss n ls next has clear top fits_case from zero le (Gives (Leave i) w) h = smaller (Gives (Leave i) w) le h
  landed_follows ss n ls next has clear top fits_case from (suc k) le (Gives (Leave i) w) h = smaller (Gives (Leave i) w) le h
  landed_follows ss n ls next has clear top fits_case from zero le (Gives (Again i) w) h = smaller (Gives (Again i) w) le h
  landed_follows ss n ls next has clear top fits_case from (suc k) le (Gives (Again i) w) h = smaller (Gives (Again i) w) le h
  landed_follows ss n ls next has clear top fits_case from k le (Halts e w) h = smaller (Halts e w) le h
  landed_follows ss n ls next has clear top fits_case from zero le (Gives (Jumps q) w) {x} {pr} {t} {s} h = go (stands q ss) refl
    where
      go : (v : Bool) → stands q ss ≡ v → Fo 0 top ls pr t s x next (if v then Halts GoesOn w else Gives (Jumps q) w)
      go true e =
          let a = h.by in
          first g {j1 = 1} {b1 = 0} {x1 = a.0 + x} (Halts GoesOn w) a.4 a.5 (omega arith) (omega arith) (omega arith)
          (record { by = (0, omega (arith, a.1), omega arith, a.3.spare, λ i c lt. waits g b call (from_label q co) a.3 w.state (stands_at q ss n ls next e has) i c lt) })
      go false e = smaller (Gives (Jumps q) w) (omega arith) h
  landed_follows ss n ls next has clear top fits_case from (suc k) le (Gives (Jumps q) w) {x} {pr} {t} {s} h =
      go (stands q ss) refl (λ e. let a = h.by in landed_follows ss n ls next has clear top fits_case from k (omega arith) (run_from So f0 b ss (Some q) (counted w)) (from q e n ls next has clear top fits_case a.3 (counted w) (a.0 + x) (omega (arith, a.1))))
    where
      go : (v : Bool) → stands q ss ≡ v → (stands q ss ≡ true → Fo k top ls h.by.3 (R (from_label q co) h.by.3) w.state (h.by.0 + x) next (landed k ss (λ i. run_from So f0 b ss (Some i)) (run_from So f0 b ss (Some q) (counted w)))) → Fo (suc k) top ls pr t s x next (if v then landed k ss (λ i. run_from So f0 b ss (Some i)) (run_from So f0 b ss (Some q) (counted w)) else Gives (Jumps q) w)
      go true e ih = let a = h.by in first g {j1 = 1} {b1 = k} (landed k ss (λ i. run_from So f0 b ss (Some i)) (run_from So f0 b ss (Some q) (counted w))) a.4 a.5 (omega arith) (omega (arith, a.2)) (omega arith) (ih e)
      go false e ih = smaller (Gives (Jumps q) w) le h

  -- a list, with the jumps within it
  pub list_right : (ss : Commands) → AllRight ss → FromRight ss → (n : ℕ) (ls : Rings) (next : List Line) → Within (acd ss n ls next) co → ((q : ℕ) → ends q co + all_heads made q ss n ≤ 1) → (top : ℕ) → length (acd ss n ls next) ≤ top →
      (pr : Extra) (w : World) (x : ℕ) → x ≤ 32 * w.count → Fo b top ls pr (R (acd ss n ls next) pr) w.state x next (landed b ss (λ q. run_from So f0 b ss (Some q)) (run_from So f0 b ss None w))
  list_right ss r from n ls next has clear top fits_case pr w x le = landed_follows ss n ls next has clear top fits_case from b (omega arith) (run_from So f0 b ss None w) (r n ls next has clear top fits_case pr w x le)

  -- what stands behind a label
  pub behind : {top m : ℕ} {rest : List Line} (q : ℕ) (p : Place) → Within (here q p ∷ rest) co → closers q co ≡ [] → (ls : Rings) (pr : Extra) (w : World) (x : ℕ) → 1 + x ≤ 32 * w.count → Fo m top ls pr (R (from_label q co) pr) w.state x rest (went w)
  behind {top} {m} {rest} q p has none_ends ls pr w x le = record { by = (1, le, pr, keeps_self g top pr, subst (λ r. Comes (R r pr) w.state (R rest pr) w.state 1) (sym (found q p unique has)) (past_here g p q rest pr w.state none_ends)) }

  -- at most two more statements at the end
  pub passing : {top x d : ℕ} {ls : Rings} {pr : Extra} {t : Part} {s : State} {mid next : List Line} (o : Flow) → d ≤ 2 → Fo b top ls pr t s (2 + x) mid o → ((pr1 : Extra) (s1 : State) → Comes (R mid pr1) s1 (R next pr1) s1 d) → Fo b top ls pr t s x next o
  passing (Gives Went w) few h k = let a = h.by in record { by = (_, omega (arith, a.1), a.2, a.3, comes_on a.4 (k a.2 w.state)) }
  passing (Gives (Leave i) w) few h k = record { by = let a = h.by in (a.0, omega (arith, a.1), a.2, a.3, a.4) }
  passing (Gives (Again i) w) few h k = record { by = let a = h.by in (a.0, omega (arith, a.1), a.2, a.3, a.4) }
  passing (Gives (Jumps i) w) few h k = record { by = let a = h.by in (a.0, omega (arith, a.1), a.2, a.3, a.4, a.5) }
  passing (Gives Backs w) few h k = record { by = let a = h.by in (a.0, omega (arith, a.1), a.2, a.3, a.4) }
  passing (Halts (Ended e) w) few h k = record { by = let a = h.by in (a.0, omega (arith, a.1), a.2, a.3) }
  passing (Halts GoesOn w) few h k = record { by = let a = h.by in (a.0, omega (arith, a.1), a.2, a.3, a.4) }
  passing (Halts Lost w) few h k = record { by = tt }

  pub more_right : (s : Command) (ss : Commands) → Right s → AllRight ss → AllRight (AndCommand s ss)
  more_right s ss r rs n ls next has clear top fits_case pr w x le =
      let rest = acd ss (n + labels s) ls next in
      then_follows g {b = b} 0 (meaning So f0 b s w) (run_from So f0 b ss None) (omega arith) (r n ls rest has (λ q. omega (arith, clear q)) top fits_case pr w (0 + x) (omega arith))
      (λ pr1 w1 x1 kp le1. rs (n + labels s) ls next (within_rest s ss n ls next has) (λ q. omega (arith, clear q)) top (omega (arith, fits_case, longer_in (within_code made spare (own_name g) s n ls rest))) pr1 w1 x1 (omega arith))

  -- from a list whose first statement is executed on, one statement more may have begun before
  pub active_more : (s : Command) (ss : Commands) → Right s → AllRight ss → idle s ≡ false → (n : ℕ) (ls : Rings) (next : List Line) → Within (acd (AndCommand s ss) n ls next) co → ((q : ℕ) → ends q co + all_heads made q (AndCommand s ss) n ≤ 1) → (top : ℕ) → length (acd (AndCommand s ss) n ls next) ≤ top →
      (pr : Extra) (w : World) (x : ℕ) → x ≤ 32 * w.count → Fo b top ls pr (R (acd (AndCommand s ss) n ls next) pr) w.state (1 + x) next (run_from So f0 b (AndCommand s ss) None w)
  active_more s ss r rs is n ls next has clear top fits_case pr w x le =
      let rest = acd ss (n + labels s) ls next in
      then_follows g {b = b} 0 (meaning So f0 b s w) (run_from So f0 b ss None) (omega arith) (r n ls rest has (λ q. omega (arith, clear q)) top fits_case pr w (0 + (1 + x)) (omega (arith, le, ap credit is)))
      (λ pr1 w1 x1 kp le1. rs (n + labels s) ls next (within_rest s ss n ls next has) (λ q. omega (arith, clear q)) top (omega (arith, fits_case, longer_in (within_code made spare (own_name g) s n ls rest))) pr1 w1 x1 (omega arith))

  -- one that is not executed is passed over
  pub idle_means : (s : Command) → idle s ≡ true → (w : World) → meaning So f0 b s w ≡ Gives Went w
  idle_means (Plain m p a) is w = note_means g b call m p a w is
  idle_means (Labelled m p s) is w = absurd (true≢false (sym is))
  idle_means (Empty p) is w = absurd (true≢false (sym is))
  idle_means (Block p ss) is w = absurd (true≢false (sym is))
  idle_means (If p e s) is w = absurd (true≢false (sym is))
  idle_means (IfElse p e s t) is w = absurd (true≢false (sym is))
  idle_means (While p e s) is w = absurd (true≢false (sym is))
  idle_means (For p i e j s) is w = absurd (true≢false (sym is))
  idle_means (Repeat p s) is w = absurd (true≢false (sym is))
  idle_means (RepeatUntil p s e r) is w = absurd (true≢false (sym is))
  idle_means (Do p y a z d s) is w = absurd (true≢false (sym is))
  idle_means (Switch p e cs) is w = absurd (true≢false (sym is))
  idle_means (Break p k) is w = absurd (true≢false (sym is))
  idle_means (Next p k) is w = absurd (true≢false (sym is))
  idle_means (Return p e) is w = absurd (true≢false (sym is))

  idle_code : (s : Command) → idle s ≡ true → (n : ℕ) (ls : Rings) (next : List Line) (pr : Extra) (s1 : State) → (i k c : ℕ) → R (cd s n ls next) pr i (at s1 k c) ≡ R next pr i (at s1 k c)
  idle_code (Plain m p a) is n ls next pr s1 = note_skipped g b call m p a next pr s1 is
  idle_code (Labelled m p s) is n ls next pr s1 = absurd (true≢false (sym is))
  idle_code (Empty p) is n ls next pr s1 = absurd (true≢false (sym is))
  idle_code (Block p ss) is n ls next pr s1 = absurd (true≢false (sym is))
  idle_code (If p e s) is n ls next pr s1 = absurd (true≢false (sym is))
  idle_code (IfElse p e s t) is n ls next pr s1 = absurd (true≢false (sym is))
  idle_code (While p e s) is n ls next pr s1 = absurd (true≢false (sym is))
  idle_code (For p i e j s) is n ls next pr s1 = absurd (true≢false (sym is))
  idle_code (Repeat p s) is n ls next pr s1 = absurd (true≢false (sym is))
  idle_code (RepeatUntil p s e r) is n ls next pr s1 = absurd (true≢false (sym is))
  idle_code (Do p y a z d s) is n ls next pr s1 = absurd (true≢false (sym is))
  idle_code (Switch p e cs) is n ls next pr s1 = absurd (true≢false (sym is))
  idle_code (Break p k) is n ls next pr s1 = absurd (true≢false (sym is))
  idle_code (Next p k) is n ls next pr s1 = absurd (true≢false (sym is))
  idle_code (Return p e) is n ls next pr s1 = absurd (true≢false (sym is))

  pub all_idle_means : (ss : Commands) → all_idle ss ≡ true → (w : World) → run_from So f0 b ss None w ≡ Gives Went w
  all_idle_means NoCommand is w = refl
  all_idle_means (AndCommand s ss) is w = ap (λ o. then_do o (run_from So f0 b ss None)) (idle_means s (first_idle (idle s) (all_idle ss) is) w) ∙ all_idle_means ss (rest_idle (idle s) (all_idle ss) is) w

  pub idle_more : (s : Command) (ss : Commands) → idle s ≡ true → (n : ℕ) (ls : Rings) (next : List Line) (top : ℕ) (pr : Extra) (w : World) (x : ℕ) →
      Fo b top ls pr (R (acd ss (n + labels s) ls next) pr) w.state x next (run_from So f0 b ss None w) → Fo b top ls pr (R (acd (AndCommand s ss) n ls next) pr) w.state x next (run_from So f0 b (AndCommand s ss) None w)
  idle_more s ss is n ls next top pr w x h =
      subst (λ o. Fo b top ls pr (R (acd (AndCommand s ss) n ls next) pr) w.state x next (then_do o (run_from So f0 b ss None))) (sym (idle_means s is w))
      (first g {j1 = 1} {b1 = b} {x1 = x} (run_from So f0 b ss None w) (keeps_self g top pr) (none_begun (R (acd (AndCommand s ss) n ls next) pr) (R (acd ss (n + labels s) ls next) pr) w.state (idle_code s is n ls (acd ss (n + labels s) ls next) pr w.state)) (omega arith) (omega arith) (omega arith) h)

  pub from_more : (s : Command) (ss : Commands) → Right s → AllRight ss → FromRight ss → FromRight (AndCommand s ss)
  from_more s ss r rs from q is n ls next has clear top fits_case pr w x le = go (has_own_label q s) refl
    where
      rest : List Line
      rest = acd ss (n + labels s) ls next

      go : (v : Bool) → has_own_label q s ≡ v → Fo b top ls pr (R (from_label q co) pr) w.state x next (if v then (then_do (meaning So f0 b s w) (run_from So f0 b ss None)) else (run_from So f0 b ss (Some q) w))
      go true e =
          let a = marked_at q s n ls rest e has in
          subst (λ z. Fo b top ls pr (R z pr) w.state x next (then_do (meaning So f0 b s w) (run_from So f0 b ss None))) (sym a.0) (more_right s ss r rs n ls next has clear top fits_case pr w x le)
      go false e =
          let is1 : stands q ss ≡ true = sym (ap (λ v. v || stands q ss) e) ∙ is in
          from q is1 (n + labels s) ls next (within_rest s ss n ls next has) (λ q1. omega (arith, clear q1)) top (omega (arith, fits_case, longer_in (within_code made spare (own_name g) s n ls rest))) pr w x le

  pub together_right : (p : Place) (ss : Commands) → AllRight ss → FromRight ss → Right (Block p ss)
  together_right p ss r from n ls next has clear top fits_case pr w x le = list_right ss r from n ls next has clear top fits_case pr (counted w) x (omega arith)
