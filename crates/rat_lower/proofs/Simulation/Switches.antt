-- A switch follows, and so every statement: its value stays in the spare unit while its case expressions are compared.
use Rattle.std.proofs.Common.{◌≡◌, true, false, Bool, ℕ, ◌+◌, ◌*◌, ◌≤◌, List, [], ◌∷◌, length, Some, None, refl, sym, ap, ◌∙◌, subst, arith, true≢false}
use Rattle.std.specs.Prelude.{◌&&◌, ⊤}
use Rattle.ground.specs.declared.place.Place.{Place}
use Rattle.ground.specs.Content.{Content}
use Rattle.f66_tree.specs.Syntax.{Text, Formula, Formulas, NoFormula, AndFormula, Line}
use Rattle.f66_tree.specs.World.{State, World, counted}
use Rattle.f66_tree.specs.Uses.{NamesBy, NamesOfAllBy}
use Rattle.f66_tree.specs.Execution.{from_label, closers}
use Rattle.f66_tree.proofs.Comes.{Comes, comes_here, comes_on}
use Rattle.rat_tree.specs.Syntax.{Command, Empty, Block, If, IfElse, While, For, Repeat, RepeatUntil, Do, Switch, Break, Next, Return, Plain, Labelled, Commands, NoCommand, AndCommand, Clauses, NoClause, AndClause}
use Rattle.rat_tree.specs.Meaning.{Continuation, landed, fits_case, run_from, picked, defaulted}
use Rattle.rat_tree.specs.Uses.{NamesOfCommandBy, NamesOfCommandsBy, NamesOfClausesBy}
use Rattle.rat_lower.specs.Code.{Rings, jump, here, labels, all_labels, each_test, tests, default_label, has_switch, have_switch, bodies}
use Rattle.rat_lower.specs.Checked.{bit, IsBuilt, AreBuilt, ClausesBuilt}
use Rattle.rat_lower.proofs.Emitting.Unswitched.{by_first, by_second}
use Rattle.rat_lower.proofs.Simulation.Spared.{Lowering, own_name, code, Own}
use Rattle.rat_lower.proofs.Simulation.Follows.{Extra, keeps_self, Calls, first, past_jump, past_here}
use Rattle.rat_lower.proofs.Simulation.Counts.{same_number, ends, all_heads, clause_heads}
use Rattle.rat_lower.proofs.Simulation.Labels.{AreUnique, no_closers, Within, within_in, within_tail, within_all, within_tests, within_code, within_bodies, found, longer_in}
use Rattle.rat_lower.proofs.Simulation.Parts.{HoldsValue, unit, case_follows, kept_follows}
use Rattle.rat_lower.proofs.Simulation.Idle.{idle, all_idle}
use Rattle.rat_lower.proofs.Simulation.Words.{words}
use Rattle.rat_lower.proofs.Simulation.Lists.{within_rest, behind, passing, list_right, more_right, active_more, idle_more, from_more, together_right}
use Rattle.rat_lower.proofs.Simulation.Statements.{when_right, either_right, whilst_right, repeats_right, until_right, through_right, leave_right, again_right, gives_right, plain_right, marked_right, counts_right}

module _ (g : Lowering) (b : ℕ) (call : Calls g b) (made : ℕ → ℕ) (spare : Text) (unique : AreUnique (code g)) (known : g.K g.unit (own_name g)) where
  open words g b call made spare use {So, R, Fo, f0, co, acd, Right, AllRight, FromRight}

  -- the bodies of a switch, each from its label on
  abbrev BodyDoes : (top : ℕ) (ls : Rings) (next : List Line) → ℕ → Commands → Type 0
  BodyDoes top ls next m ss = (pr : Extra) (w : World) (y : ℕ) → 7 + y ≤ 32 * w.count → Fo b top ls pr (R (from_label (made m) co) pr) w.state y next (landed b ss (λ q. run_from So f0 b ss (Some q)) (run_from So f0 b ss None w))

  abbrev ClausesDo : (top : ℕ) (ls : Rings) (next : List Line) → Clauses → ℕ → Type 0
  ClausesDo top ls next NoClause m = ⊤
  ClausesDo top ls next (AndClause es d ss p cs) m = BodyDoes top ls next m ss × ClausesDo top ls next cs (m + 1 + all_labels ss)

  abbrev pub ClausesRight : Clauses → Type 0
  ClausesRight NoClause = ⊤
  ClausesRight (AndClause es d ss p cs) = AllRight ss × FromRight ss × ClausesRight cs

  clauses_do : (cs : Clauses) → ClausesRight cs → (m out : ℕ) (q : Place) (ls : Rings) (next : List Line) → Within (here out q ∷ next) co → closers out co ≡ [] → Within (bodies made spare (own_name g) cs m out ls (here out q ∷ next)) co → ((z : ℕ) → ends z co + clause_heads made z cs m ≤ 1) → (top : ℕ) → length (bodies made spare (own_name g) cs m out ls (here out q ∷ next)) ≤ top → ClausesDo top ls next cs m
  clauses_do NoClause r m out q ls next at_out no_out has clear top fits_case = tt
  clauses_do (AndClause es d ss p cs) r m out q ls next at_out no_out has clear top fits_case =
      let rest = bodies made spare (own_name g) cs (m + 1 + all_labels ss) out ls (here out q ∷ next) in
      let mid = jump p out ∷ rest in
      let body = acd ss (m + 1) ls mid in
      let at_body = within_tail _ has in
      let at_mid = within_in (within_all made spare (own_name g) ss (m + 1) ls mid) at_body in
      let no_do : closers (made m) co ≡ [] = no_closers (made m) co (omega (arith, clear (made m), ap bit (same_number (made m)))) in
      let shorter = longer_in (within_all made spare (own_name g) ss (m + 1) ls mid) in
      let over : (pr1 : Extra) (s1 : State) → Comes (R mid pr1) s1 (R next pr1) s1 2 = λ pr1 s1.
      comes_on (subst (λ z. Comes (R mid pr1) s1 (R z pr1) s1 1) (found out q unique at_out) (past_jump g p out rest pr1 s1)) (past_here g q out next pr1 s1 no_out) in (
        λ pr w y ok.
            let whole = landed b ss (λ z. run_from So f0 b ss (Some z)) (run_from So f0 b ss None w) in
            subst (λ z. Fo b top ls pr (R z pr) w.state y next whole) (sym (found (made m) p unique has))
            (first g {j1 = 1} {b1 = b} {x1 = 1 + y} whole (keeps_self g top pr) (past_here g p (made m) body pr w.state no_do) (omega arith) (omega arith) (omega arith)
            (passing g b call made spare unique whole (omega arith) (list_right g b call made spare unique ss r.0 r.1 (m + 1) ls mid at_body (λ z. omega (arith, clear z)) top (omega arith) pr w (2 + (1 + y)) (omega arith)) over)),
        clauses_do cs r.2 (m + 1 + all_labels ss) out q ls next at_out no_out (within_tail _ at_mid) (λ z. omega (arith, clear z)) top (omega (arith, fits_case, shorter)),
      )

  module _ (holds : HoldsValue g spare) where
    -- what the spare unit holds
    abbrev value_in : Extra → Content
    value_in pr = pr.spare (unit g b call spare holds)

    each_follows : (p : Place) (v : Content) (es : Formulas) → NamesOfAllBy (Own g) es → (q : ℕ) (top : ℕ) (ls : Rings) (rest next : List Line) (yea nay : Continuation) →
        ((pr : Extra) (w : World) (y : ℕ) → 8 + y ≤ 32 * w.count → Fo b top ls pr (R (from_label q co) pr) w.state y next (yea w)) → ((pr : Extra) (w : World) (y : ℕ) → value_in pr ≡ v → 8 + y ≤ 32 * w.count → Fo b top ls pr (R rest pr) w.state y next (nay w)) →
        (pr : Extra) (w : World) (x : ℕ) → value_in pr ≡ v → 8 + x ≤ 32 * w.count → Fo b top ls pr (R (each_test spare p es q rest) pr) w.state x next (fits_case So f0 p v es yea nay w)
    each_follows p v NoFormula used q top ls rest next yea nay hy hn pr w x is le = hn pr w x is le
    each_follows p v (AndFormula e es) used q top ls rest next yea nay hy hn pr w x is le =
        case_follows g b call spare holds 9 p v e q (counted w) yea (fits_case So f0 p v es yea nay) is used.0 (omega arith) (omega arith)
        (λ pr1 w1 y kp is1 ok. hy pr1 w1 (1 + y) (omega arith)) (λ pr1 w1 y kp is1 ok. each_follows p v es used.1 q top ls rest next yea nay hy hn pr1 w1 y is1 (omega arith))

    picked_follows : (v : Content) (cs : Clauses) → NamesOfClausesBy (Own g) cs → (m : ℕ) (top : ℕ) (ls : Rings) (rest next : List Line) (other : Continuation) → ClausesDo top ls next cs m → ((pr : Extra) (w : World) (y : ℕ) → value_in pr ≡ v → 8 + y ≤ 32 * w.count → Fo b top ls pr (R rest pr) w.state y next (other w)) →
        (pr : Extra) (w : World) (x : ℕ) → value_in pr ≡ v → 8 + x ≤ 32 * w.count → Fo b top ls pr (R (tests made spare (own_name g) cs m rest) pr) w.state x next (picked So f0 b v cs other w)
    picked_follows v NoClause used m top ls rest next other d h pr w x is le = h pr w x is le
    picked_follows v (AndClause es fb ss p cs) used m top ls rest next other d h pr w x is le =
        each_follows p v es used.0 (made m) top ls (tests made spare (own_name g) cs (m + 1 + all_labels ss) rest) next _ (picked So f0 b v cs other) (λ pr1 w1 y ok. d.0 pr1 w1 y (omega arith))
        (λ pr1 w1 y is1 ok. picked_follows v cs used.2 (m + 1 + all_labels ss) top ls rest next other d.1 h pr1 w1 y is1 ok) pr w x is le

  default_follows : (cs : Clauses) (m out : ℕ) (q : Place) (top : ℕ) (ls : Rings) (next : List Line) → Within (here out q ∷ next) co → closers out co ≡ [] → ClausesDo top ls next cs m → (pr : Extra) (w : World) (y : ℕ) → 7 + y ≤ 32 * w.count → Fo b top ls pr (R (from_label (default_label made spare (own_name g) cs m out) co) pr) w.state y next (defaulted So f0 b cs w)
  default_follows NoClause m out q top ls next at_out no_out d pr w y ok = behind g b call made spare unique out q at_out no_out ls pr w y (omega arith)
  default_follows (AndClause es true ss p cs) m out q top ls next at_out no_out d pr w y ok = d.0 pr w y ok
  default_follows (AndClause es false ss p cs) m out q top ls next at_out no_out d pr w y ok = default_follows cs (m + 1 + all_labels ss) out q top ls next at_out no_out d.1 pr w y ok

  switch_right : HoldsValue g spare → (p : Place) (e : Formula) (cs : Clauses) → NamesBy (Own g) e → NamesOfClausesBy (Own g) cs → ClausesRight cs → Right (Switch p e cs)
  switch_right holds p e cs used all_used r n ls next has clear top fits_in pr w x le =
      let last = here (made n) p ∷ next in
      let all = bodies made spare (own_name g) cs (n + 1) (made n) ls last in
      let rest = jump p (default_label made spare (own_name g) cs (n + 1) (made n)) ∷ all in
      let at_tests = within_tail _ has in
      let in_tests = within_tests made spare (own_name g) cs (n + 1) rest in
      let at_all = within_tail _ (within_in in_tests at_tests) in
      let at_out = within_in (within_bodies made spare (own_name g) cs (n + 1) (made n) ls last) at_all in
      let no_out : closers (made n) co ≡ [] = no_closers (made n) co (omega (arith, clear (made n), ap bit (same_number (made n)))) in
      let d = clauses_do cs r (n + 1) (made n) p ls next at_out no_out at_all (λ q. omega (arith, clear q)) top (omega (arith, fits_in, longer_in in_tests)) in
      kept_follows g b call spare holds 8 p e w (λ v. picked So f0 b v cs (defaulted So f0 b cs)) used (omega arith)
      (λ v pr1 w1 x1 kp is le1.
      picked_follows holds v cs all_used (n + 1) top ls rest next (defaulted So f0 b cs) d
      (λ pr2 w2 y is2 ok. first g {j1 = 1} {b1 = b} {x1 = 1 + y} (defaulted So f0 b cs w2) (keeps_self g top pr2) (past_jump g p (default_label made spare (own_name g) cs (n + 1) (made n)) all pr2 w2.state) (omega arith) (omega arith) (omega arith)
      (default_follows cs (n + 1) (made n) p top ls next at_out no_out d pr2 w2 (1 + y) (omega arith))) pr1 w1 x1 is le1)

  -- every statement follows
  mutual
    pub right : (s : Command) → IsBuilt s → NamesOfCommandBy (Own g) s → (has_switch s ≡ true → HoldsValue g spare) → Right s
    right (Empty p) is used may = λ n ls next has clear top fits_case pr w x le. record { by = (0, omega arith, pr, keeps_self g top pr, comes_here (R next pr) w.state) }
    right (Block p ss) is used may = together_right g b call made spare unique p ss (all_right ss is used may) (from_right ss is used may)
    right (If p e s) is used may = when_right g b call made spare unique p e s used.0 (right s is used.1 may)
    right (IfElse p e s t) is used may = either_right g b call made spare unique p e s t used.0 (right s is.0 used.1 (λ h. may (by_first (has_switch s) (has_switch t) h))) (right t is.1 used.2 (λ h. may (by_second (has_switch s) (has_switch t) h)))
    right (While p e s) is used may = whilst_right g b call made spare unique p e s used.0 (right s is used.1 may)
    right (For p before o step s) is used may = through_right g b call made spare unique p before o step s is.0 is.1 used.0 used.1 used.2 (right s is.2 used.3 may)
    right (Repeat p s) is used may = repeats_right g b call made spare unique p s (right s is used may)
    right (RepeatUntil p s e q) is used may = until_right g b call made spare unique p s e q used.1 (right s is used.0 may)
    right (Do p y i1 i2 i3 s) is used may = counts_right g b call made spare unique p y i1 i2 i3 s used.0 used.1 used.2 used.3 (right s is used.4 may)
    right (Switch p e cs) is used may = switch_right (may refl) p e cs used.0 used.1 (clauses_right cs is used.1 (may refl))
    right (Break p k) is used may = leave_right g b call made spare unique p k
    right (Next p k) is used may = again_right g b call made spare unique p k
    right (Return p e) is used may = gives_right g b call made spare unique p e known used
    right (Plain m p a) is used may = plain_right g b call made spare unique m p a is used
    right (Labelled m p s) is used may = marked_right g b call made spare unique m p s (right s is used may)

    pub all_right : (ss : Commands) → AreBuilt ss → NamesOfCommandsBy (Own g) ss → (have_switch ss ≡ true → HoldsValue g spare) → AllRight ss
    all_right NoCommand is used may = λ n ls next has clear top fits_case pr w x le. record { by = (0, omega arith, pr, keeps_self g top pr, comes_here (R next pr) w.state) }
    all_right (AndCommand s ss) is used may =
        more_right g b call made spare unique s ss (right s is.0 used.0 (λ h. may (by_first (has_switch s) (have_switch ss) h))) (all_right ss is.1 used.1 (λ h. may (by_second (has_switch s) (have_switch ss) h)))

    pub from_right : (ss : Commands) → AreBuilt ss → NamesOfCommandsBy (Own g) ss → (have_switch ss ≡ true → HoldsValue g spare) → FromRight ss
    from_right NoCommand is used may = λ q e n ls next has clear top fits_case pr w x le. absurd (true≢false (sym e))
    from_right (AndCommand s ss) is used may =
        from_more g b call made spare unique s ss (right s is.0 used.0 (λ h. may (by_first (has_switch s) (have_switch ss) h))) (all_right ss is.1 used.1 (λ h. may (by_second (has_switch s) (have_switch ss) h))) (from_right ss is.1 used.1 (λ h. may (by_second (has_switch s) (have_switch ss) h)))

    clauses_right : (cs : Clauses) → ClausesBuilt cs → NamesOfClausesBy (Own g) cs → HoldsValue g spare → ClausesRight cs
    clauses_right NoClause is used holds = tt
    clauses_right (AndClause es d ss p cs) is used holds = (all_right ss is.0 used.1 (λ _. holds), from_right ss is.0 used.1 (λ _. holds), clauses_right cs is.1 used.2 holds)

  -- a list of which a statement is executed, from its start
  pub active : (ss : Commands) → all_idle ss ≡ false → AreBuilt ss → NamesOfCommandsBy (Own g) ss → (have_switch ss ≡ true → HoldsValue g spare) → (n : ℕ) (ls : Rings) (next : List Line) → Within (acd ss n ls next) co → ((q : ℕ) → ends q co + all_heads made q ss n ≤ 1) → (top : ℕ) → length (acd ss n ls next) ≤ top →
      (pr : Extra) (w : World) (x : ℕ) → x ≤ 32 * w.count → Fo b top ls pr (R (acd ss n ls next) pr) w.state (1 + x) next (run_from So f0 b ss None w)
  active NoCommand acts is used may n ls next has clear top fits_in pr w x le = absurd (true≢false acts)
  active (AndCommand s ss) acts is used may n ls next has clear top fits_in pr w x le =
      by (idle s) refl
      (λ acts1. active ss acts1 is.1 used.1 rest_may (n + labels s) ls next (within_rest g b call made spare unique s ss n ls next has) (λ q. omega (arith, clear q)) top (omega (arith, fits_in, longer_in (within_code made spare (own_name g) s n ls (acd ss (n + labels s) ls next)))) pr w x le)
    where
      rest_may : have_switch ss ≡ true → HoldsValue g spare
      rest_may h = may (by_second (has_switch s) (have_switch ss) h)

      by : (v : Bool) → idle s ≡ v → (all_idle ss ≡ false → Fo b top ls pr (R (acd ss (n + labels s) ls next) pr) w.state (1 + x) next (run_from So f0 b ss None w)) → Fo b top ls pr (R (acd (AndCommand s ss) n ls next) pr) w.state (1 + x) next (run_from So f0 b (AndCommand s ss) None w)
      by true e ih = idle_more g b call made spare unique s ss e n ls next top pr w (1 + x) (ih (sym (ap (λ v. v && all_idle ss) e) ∙ acts))
      by false e ih =
          active_more g b call made spare unique s ss (right s is.0 used.0 (λ h. may (by_first (has_switch s) (have_switch ss) h))) (all_right ss is.1 used.1 rest_may) e n ls next has clear top fits_in pr w x le
