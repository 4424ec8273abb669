-- Where the statements of a unit lead: each branch goes to a statement that is executed, into no DO range that it is not in, and
-- the last statement of each DO stands behind it, in the same ranges.
use Rattle.std.proofs.Common.{◌≡◌, ℕ, zero, suc, ◌+◌, ◌≤◌, ◌<◌, Bool, true, false, true≢false, List, [], ◌∷◌, ◌⊎◌, inl, inr, Option, Some, None, refl, sym, ap, ◌∙◌, arith}
use Rattle.std.specs.Prelude.{nat_eq, not, if◌then◌else◌, ⊤}
use Rattle.ground.specs.declared.place.Place.{Place}
use Rattle.f66_tree.specs.Syntax.{Text, Formula, Formulas, NoFormula, AndFormula, Act, Goto, Computed, Sign, When, Loop, Continue, Line, unlabelled_line}
use Rattle.f66_tree.specs.Units.{is_note}
use Rattle.f66_tree.specs.Execution.{has_label, from_label}
use Rattle.f66_flow.specs.Acts.{is_executable, branches}
use Rattle.rat_tree.specs.Syntax.{Command, Empty, Block, If, IfElse, While, For, Repeat, RepeatUntil, Do, Switch, Break, Next, Return, Plain, Labelled, Commands, NoCommand, AndCommand, Clauses, NoClause, AndClause}
use Rattle.rat_tree.specs.Meaning.{has_own_label, stands}
use Rattle.rat_lower.specs.Checked.{bit, IsBuilt, AreBuilt, ClausesBuilt, IsPlain, IsPlainIfAny, Fits, AllFit, ClausesFit, stands_in, AllStandIn, ActLands, ActLandsIfAny, Lands, AllLand, ClausesLand}
use Rattle.rat_lower.specs.Code.{each_test, case_test, tests, default_label, bodies, Rings, label_behind, label_again, jump, unless, here, with_test, with_act, labels, all_labels, code_of, all_code}
use Rattle.rat_lower.proofs.Simulation.Counts.{same_number, occurs, ends, plain_names, heads, all_heads, clause_heads, occurs-test, ends-test, occurs-act, ends-act, occurs-each, ends-each, occurs-tests, ends-tests, occurs-code, ends-code, occurs-all, ends-all, occurs-bodies, ends-bodies}
use Rattle.rat_lower.proofs.Simulation.Labels.{AreUnique, Within, within_in, within_tail, within_test, within_act, within_code, within_all, within_tests, within_bodies, found, found_line}
use Rattle.rat_lower.proofs.Accepted.Reached.{or_true}

-- the labels of a unit's statements, and those of its DOs' last statements
module _ (code : List Line) (unique : AreUnique code) (IsEnd : ℕ → Type 0) where
  -- of the ranges that are open at `to`, those whose DO stands before it and whose end does not, each is open at `from`
  abbrev pub EntersNone : List Line → List Line → Type 0
  EntersNone from to = (q : ℕ) → IsEnd q → occurs q to + ends q from ≤ occurs q from + ends q to

  -- the same ranges are open at both
  abbrev pub IsLevel : List Line → List Line → Type 0
  IsLevel a b = (q : ℕ) → IsEnd q → occurs q a + ends q b ≡ occurs q b + ends q a

  -- a branch may go there
  pub record Target (from : List Line) (m : ℕ) : Type 0 where
    pub line : Line
    pub behind : List Line
    pub found : from_label m code ≡ line ∷ behind
    pub runs : is_executable line.act ≡ true
    pub enters : EntersNone from (line ∷ behind)

  abbrev pub AllTargets : List Line → List ℕ → Type 0
  AllTargets from [] = ⊤
  AllTargets from (m ∷ ms) = Target from m × AllTargets from ms

  -- a DO's last statement, where `rest` stands behind the DO
  pub record Ending (from : List Line) (m : ℕ) (rest : List Line) : Type 0 where
    pub place : Place
    pub behind : List Line
    pub found : from_label m code ≡ here m place ∷ behind
    pub later : 1 ≤ occurs m rest
    pub leaves : EntersNone (here m place ∷ behind) from

  abbrev pub EndsRight : List Line → Act → List Line → Type 0
  EndsRight from (Loop l x a b c) rest = Ending from l rest
  EndsRight from _ rest = ⊤

  pub record Leads (s : Line) (rest : List Line) : Type 0 where
    pub targets : AllTargets (s ∷ rest) (branches s.act)
    pub ending : EndsRight (s ∷ rest) s.act rest

  abbrev pub AllLead : List Line → Type 0
  AllLead [] = ⊤
  AllLead (s ∷ rest) = Leads s rest × AllLead rest

  -- ---- levels ----

  target_from : {a b : List Line} (m : ℕ) → EntersNone a b → Target b m → Target a m
  target_from m e t = record { line = t.line; behind = t.behind; found = t.found; runs = t.runs; enters = λ q h. omega (arith, e q h, t.enters q h) }

  target_at : {a b : List Line} (m : ℕ) → IsLevel a b → Target b m → Target a m
  target_at m e t = target_from m (λ q h. omega (arith, e q h)) t

  target_here : {from behind : List Line} (m : ℕ) (p : Place) → Within (here m p ∷ behind) code → EntersNone from (here m p ∷ behind) → Target from m
  target_here {from} {behind} m p w e = record { line = here m p; behind = behind; found = found m p unique w; runs = refl; enters = e }

  -- ---- labels that may be gone to ----

  abbrev pub RingsLead : ℕ → Rings → List Line → Type 0
  RingsLead d ls next = (k : ℕ) → k < d → Target next (label_behind ls k) × Target next (label_again ls k)

  abbrev pub ListsLead : List Commands → List Line → Type 0
  ListsLead around next = (m : ℕ) → stands_in m around ≡ true → Target next m

  rings_from : {a b : List Line} (d : ℕ) (ls : Rings) → EntersNone a b → RingsLead d ls b → RingsLead d ls a
  rings_from d ls e r k lt = let t = r k lt in (target_from (label_behind ls k) e t.0, target_from (label_again ls k) e t.1)

  lists_from : {a b : List Line} (around : List Commands) → EntersNone a b → ListsLead around b → ListsLead around a
  lists_from around e r m h = target_from m e (r m h)

  rings_more : {next : List Line} (d : ℕ) (ls : Rings) (behind again : ℕ) → Target next behind → Target next again → RingsLead d ls next → RingsLead (suc d) ((behind, again) ∷ ls) next
  rings_more d ls behind again t u r zero lt = (t, u)
  rings_more d ls behind again t u r (suc k) lt = r k (omega arith)

  all_targets : {next : List Line} (around : List Commands) (ms : List ℕ) → ListsLead around next → AllStandIn ms around → AllTargets next ms
  all_targets around [] li h = tt
  all_targets around (m ∷ ms) li h = (li m h.0, all_targets around ms li h.1)

  -- ---- single statements ----

  passes_lead : (l : Option ℕ) (p : Place) (rest : List Line) → Leads (record { label = l; place = p; act = Continue }) rest
  passes_lead l p rest = record { targets = tt; ending = tt }

  act_targets : {next : List Line} (around : List Commands) (a : Act) → IsPlain a → ActLands around a → ListsLead around next → AllTargets next (branches a)
  act_targets around (Goto l) is la li = (li l la, tt)
  act_targets around (Computed ls x) is la li = all_targets around ls li la
  act_targets around (Sign e n m k) is la li = (li n la.0, (li m la.1, (li k la.2, tt)))
  act_targets around (When e a) is la li = absurd is
  act_targets around _ is la li = tt

  act_ends : (from : List Line) (a : Act) (rest : List Line) → IsPlain a → EndsRight from a rest
  act_ends from (Loop l x a b c) rest is = absurd is
  act_ends from _ rest is = tt

  act_leads : (around : List Commands) (l : Option ℕ) (p : Place) (a : Act) (next : List Line) → ((q : ℕ) → IsEnd q → bit (has_label q l) ≡ 0) → IsPlain a → ActLands around a → ListsLead around next →
      Leads (record { label = l; place = p; act = a }) next
  act_leads around l p a next free is la li =
      let line : Line = record { label = l; place = p; act = a } in
      let level : EntersNone (line ∷ next) next = λ q h. omega (arith, free q h, plain_names q a is) in
      record { targets = act_targets around a is la (lists_from around level li); ending = act_ends (line ∷ next) a next is }

  if_any_lead : (around : List Commands) (p : Place) (o : Option Act) (next : List Line) → IsPlainIfAny o → ActLandsIfAny around o → ListsLead around next → AllLead next → AllLead (with_act p o next)
  if_any_lead around p None next is la li k = k
  if_any_lead around p (Some a) next is la li k = (act_leads around None p a next (λ q h. refl) is la li, k)

  goes_lead : {next : List Line} (l : ℕ) (p : Place) → Target next l → Leads (jump p l) next
  goes_lead l p t = record { targets = (target_from l (λ q h. omega arith) t, tt); ending = tt }

  chooses_lead : {next : List Line} (l : ℕ) (p : Place) (e : Formula) → Target next l → Leads (unlabelled_line p (When e (Goto l))) next
  chooses_lead l p e t = record { targets = (target_from l (λ q h. omega arith) t, tt); ending = tt }

  test_leads : {next : List Line} (p : Place) (o : Option Formula) (l : ℕ) → Target next l → AllLead next → AllLead (with_test p o l next)
  test_leads p None l t k = k
  test_leads p (Some e) l t k = (chooses_lead l p _ t, k)

  each_level : (spare : Text) (p : Place) (es : Formulas) (l : ℕ) (next : List Line) → IsLevel (each_test spare p es l next) next
  each_level spare p es l next q h = omega (arith, occurs-each q spare p es l next, ends-each q spare p es l next)

  each_leads : (spare : Text) (p : Place) (es : Formulas) (l : ℕ) (next : List Line) → Target next l → AllLead next → AllLead (each_test spare p es l next)
  each_leads spare p NoFormula l next t k = k
  each_leads spare p (AndFormula e es) l next t k = (chooses_lead l p (case_test spare e) (target_at l (each_level spare p es l next) t), each_leads spare p es l next t k)

  module _ (made : ℕ → ℕ) (spare own : Text) where
    -- no label of a DO's last statement is another label of these
    abbrev Free : Command → ℕ → Type 0
    Free s n = (q : ℕ) → IsEnd q → heads made q s n ≡ 0

    abbrev AllFree : Commands → ℕ → Type 0
    AllFree ss n = (q : ℕ) → IsEnd q → all_heads made q ss n ≡ 0

    abbrev ClausesFree : Clauses → ℕ → Type 0
    ClausesFree cs m = (q : ℕ) → IsEnd q → clause_heads made q cs m ≡ 0

    -- the code of whole statements is as level as what stands behind it
    code_level : (s : Command) (n : ℕ) (ls : Rings) (next : List Line) → IsBuilt s → Free s n → IsLevel (code_of made spare own s n ls next) next
    code_level s n ls next bu fr q h = omega (arith, occurs-code made spare own q s n ls next bu, ends-code made spare own q s n ls next bu, fr q h)

    all_level : (ss : Commands) (n : ℕ) (ls : Rings) (next : List Line) → AreBuilt ss → AllFree ss n → IsLevel (all_code made spare own ss n ls next) next
    all_level ss n ls next bu fr q h = omega (arith, occurs-all made spare own q ss n ls next bu, ends-all made spare own q ss n ls next bu, fr q h)

    bodies_level : (cs : Clauses) (m out : ℕ) (ls : Rings) (next : List Line) → ClausesBuilt cs → ClausesFree cs m → IsLevel (bodies made spare own cs m out ls next) next
    bodies_level cs m out ls next bu fr q h = omega (arith, occurs-bodies made spare own q cs m out ls next bu, ends-bodies made spare own q cs m out ls next bu, fr q h)

    tests_level : (cs : Clauses) (m : ℕ) (next : List Line) → IsLevel (tests made spare own cs m next) next
    tests_level cs m next q h = omega (arith, occurs-tests made spare own q cs m next, ends-tests made spare own q cs m next)

    -- ---- labels that stand directly in a list ----

    marked_target : (m : ℕ) (s : Command) (n : ℕ) (ls : Rings) (next : List Line) → has_own_label m s ≡ true → Within (code_of made spare own s n ls next) code → Target (code_of made spare own s n ls next) m
    marked_target m (Labelled l p s) n ls next is w = record { line = here l p; behind = _; found = found_line m (here l p) is unique w; runs = refl; enters = λ q h. omega arith }
    marked_target m (Plain l p a) n ls next is w = by (is_note a) refl
      where
        by : (v : Bool) → is_note a ≡ v → Target (record { label = l; place = p; act = a } ∷ next) m
        by true e = absurd (true≢false (sym is ∙ ap (λ v. if v then false else has_label m l) e))
        by false e = record {
          line = record { label = l; place = p; act = a };
          behind = next;
          found = found_line m (record { label = l; place = p; act = a }) (sym (ap (λ v. if v then false else has_label m l) e) ∙ is) unique w;
          runs = ap not e;
          enters = λ q h. omega arith;
        }
    marked_target m _ n ls next is w = absurd (true≢false (sym is))

    list_target : (m : ℕ) (ss : Commands) (n : ℕ) (ls : Rings) (next : List Line) → stands m ss ≡ true → AreBuilt ss → AllFree ss n → Within (all_code made spare own ss n ls next) code → Target next m
    list_target m NoCommand n ls next is bu fr w = absurd (true≢false (sym is))
    list_target m (AndCommand s ss) n ls next is bu fr w =
        let rest = all_code made spare own ss (n + labels s) ls next in
        by (or_true (has_own_label m s) (stands m ss) is) (marked_target m s n ls rest)
        (λ h. list_target m ss (n + labels s) ls next h bu.1 (λ q e. omega (arith, fr q e)) (within_in (within_code made spare own s n ls rest) w))
      where
        by : (has_own_label m s ≡ true) ⊎ (stands m ss ≡ true) → (has_own_label m s ≡ true → Within (all_code made spare own (AndCommand s ss) n ls next) code → Target (all_code made spare own (AndCommand s ss) n ls next) m) → (stands m ss ≡ true → Target next m) → Target next m
        by (inl h) here_it later = target_at m (λ q e. sym (all_level (AndCommand s ss) n ls next bu fr q e)) (here_it h w)
        by (inr h) here_it later = later h

    pub lists_more : (ss : Commands) (n : ℕ) (ls : Rings) (next : List Line) (around : List Commands) → AreBuilt ss → AllFree ss n → Within (all_code made spare own ss n ls next) code → ListsLead around next → ListsLead (ss ∷ around) next
    lists_more ss n ls next around bu fr w li m is = by (or_true (stands m ss) (stands_in m around) is)
      where
        by : (stands m ss ≡ true) ⊎ (stands_in m around ≡ true) → Target next m
        by (inl h) = list_target m ss n ls next h bu fr w
        by (inr h) = li m h

    -- ---- clauses ----

    abbrev ClausesLead : Clauses → ℕ → List Line → Type 0
    ClausesLead NoClause m next = Unit {0}
    ClausesLead (AndClause es fallback ss p cs) m next = Target next (made m) × ClausesLead cs (m + 1 + all_labels ss) next

    clauses_at : (a b : List Line) (cs : Clauses) (m : ℕ) → IsLevel a b → ClausesLead cs m b → ClausesLead cs m a
    clauses_at a b NoClause m e c = tt
    clauses_at a b (AndClause es fallback ss p cs) m e c = (target_at (made m) e c.0, clauses_at a b cs (m + 1 + all_labels ss) e c.1)

    clause_targets : (cs : Clauses) (m out : ℕ) (ls : Rings) (next : List Line) → ClausesBuilt cs → ClausesFree cs m → Within (bodies made spare own cs m out ls next) code → ClausesLead cs m next
    clause_targets NoClause m out ls next bu fr w = tt
    clause_targets (AndClause es fallback ss p cs) m out ls next bu fr w =
        let rest = bodies made spare own cs (m + 1 + all_labels ss) out ls next in
        let later : ClausesFree cs (m + 1 + all_labels ss) = λ q h. omega (arith, fr q h) in
        let level : IsLevel (bodies made spare own (AndClause es fallback ss p cs) m out ls next) next = bodies_level (AndClause es fallback ss p cs) m out ls next bu fr in (
          target_here (made m) p w (λ q h. omega (arith, level q h)),
          clause_targets cs (m + 1 + all_labels ss) out ls next bu.1 later (within_in (within_tail _ (within_all made spare own ss (m + 1) ls (jump p out ∷ rest))) (within_tail _ w)),
        )

    default_target : {next : List Line} (cs : Clauses) (m out : ℕ) → ClausesLead cs m next → Target next out → Target next (default_label made spare own cs m out)
    default_target NoClause m out c t = t
    default_target {next} (AndClause es fallback ss p cs) m out c t = by fallback c.0 (default_target cs (m + 1 + all_labels ss) out c.1 t)
      where
        by : (v : Bool) → Target next (made m) → Target next (default_label made spare own cs (m + 1 + all_labels ss) out) → Target next (if v then made m else default_label made spare own cs (m + 1 + all_labels ss) out)
        by true one other = one
        by false one other = other

    tests_lead : (cs : Clauses) (m : ℕ) (next : List Line) → ClausesLead cs m next → AllLead next → AllLead (tests made spare own cs m next)
    tests_lead NoClause m next c k = k
    tests_lead (AndClause es fallback ss p cs) m next c k =
        let rest = tests made spare own cs (m + 1 + all_labels ss) next in
        each_leads spare p es (made m) rest (target_at (made m) (tests_level cs (m + 1 + all_labels ss) next) c.0) (tests_lead cs (m + 1 + all_labels ss) next c.1 k)

    -- ---- loops ----

    -- a loop with a test before each turn and a statement behind it, where the body leads where it may
    loop_leads : (p : Place) (e : Option Formula) (step : Option Act) (s : Command) (d n : ℕ) (ls : Rings) (around : List Commands) (next : List Line) → IsBuilt s → IsPlainIfAny step → ActLandsIfAny around step →
        ((q : ℕ) → IsEnd q → bit (nat_eq (made n) q) + bit (nat_eq (made (n + 1)) q) + bit (nat_eq (made (n + 2)) q) + heads made q s (n + 3) ≡ 0) → RingsLead d ls next → ListsLead around next →
        (let rings : Rings = (made (n + 2), made (n + 1)) ∷ ls in
        let mid : List Line = here (made (n + 1)) p ∷ with_act p step (jump p (made n) ∷ here (made (n + 2)) p ∷ next) in
        let inner : List Line = code_of made spare own s (n + 3) rings mid in
        (RingsLead (suc d) rings mid → ListsLead around mid → Within inner code → AllLead mid → AllLead inner) →
        Within (here (made n) p ∷ with_test p e (made (n + 2)) inner) code → AllLead next → AllLead (here (made n) p ∷ with_test p e (made (n + 2)) inner))
    loop_leads p e step s d n ls around next bu plain land fr ri li body w k =
        let rings : Rings = (made (n + 2), made (n + 1)) ∷ ls in
        let last : List Line = here (made (n + 2)) p ∷ next in
        let out : List Line = jump p (made n) ∷ last in
        let acted : List Line = with_act p step out in
        let mid : List Line = here (made (n + 1)) p ∷ acted in
        let inner : List Line = code_of made spare own s (n + 3) rings mid in
        let tested : List Line = with_test p e (made (n + 2)) inner in
        let wi : Within inner code = within_in (within_test p e (made (n + 2)) inner) (within_tail _ w) in
        let wm : Within mid code = within_in (within_code made spare own s (n + 3) rings mid) wi in
        let wo : Within out code = within_in (within_act p step out) (within_tail _ wm) in
        let wl : Within last code = within_tail _ wo in
        let a_last : IsLevel last next = λ q h. omega (arith, fr q h) in
        let a_out : IsLevel out next = λ q h. omega (arith, fr q h) in
        let a_acted : IsLevel acted next = λ q h. omega (arith, occurs-act q p step out, ends-act q p step out plain, a_out q h) in
        let a_mid : IsLevel mid next = λ q h. omega (arith, a_acted q h, fr q h) in
        let a_inner : IsLevel inner next = λ q h. omega (arith, occurs-code made spare own q s (n + 3) rings mid bu, ends-code made spare own q s (n + 3) rings mid bu, a_mid q h, fr q h) in
        let a_tested : IsLevel tested next = λ q h. omega (arith, occurs-test q p e (made (n + 2)) inner, ends-test q p e (made (n + 2)) inner, a_inner q h) in
        let a_all : IsLevel (here (made n) p ∷ tested) next = λ q h. omega (arith, a_tested q h, fr q h) in
        let head : Target next (made n) = target_here (made n) p w (λ q h. omega (arith, a_all q h)) in
        let again : Target next (made (n + 1)) = target_here (made (n + 1)) p wm (λ q h. omega (arith, a_mid q h)) in
        let behind : Target next (made (n + 2)) = target_here (made (n + 2)) p wl (λ q h. omega (arith, a_last q h)) in
        let k_last : AllLead last = (passes_lead (Some (made (n + 2))) p next, k) in
        let k_out : AllLead out = (goes_lead (made n) p (target_at (made n) a_last head), k_last) in
        let k_acted : AllLead acted = if_any_lead around p step out plain land (lists_from around (λ q h. omega (arith, a_out q h)) li) k_out in
        let k_mid : AllLead mid = (passes_lead (Some (made (n + 1))) p acted, k_acted) in
        let to_mid : EntersNone mid next = λ q h. omega (arith, a_mid q h) in
        let r_mid : RingsLead (suc d) rings mid =
        rings_more d ls (made (n + 2)) (made (n + 1)) (target_at (made (n + 2)) a_mid behind) (target_at (made (n + 1)) a_mid again) (rings_from d ls to_mid ri) in
        let k_inner : AllLead inner = body r_mid (lists_from around to_mid li) wi k_mid in
        (passes_lead (Some (made n)) p tested, test_leads p e (made (n + 2)) (target_at (made (n + 2)) a_inner behind) k_inner)

    -- ---- all statements ----

    mutual
      lead : (s : Command) (d n : ℕ) (ls : Rings) (around : List Commands) (next : List Line) → IsBuilt s → Fits d s → Lands around s → Free s n → RingsLead d ls next → ListsLead around next →
          Within (code_of made spare own s n ls next) code → AllLead next → AllLead (code_of made spare own s n ls next)
      lead (Empty p) d n ls around next bu fi la fr ri li w k = k
      lead (Block p ss) d n ls around next bu fi la fr ri li w k = lead_all ss d n ls (ss ∷ around) next bu fi la fr ri (lists_more ss n ls next around bu fr w li) w k
      lead (If p e s) d n ls around next bu fi la fr ri li w k =
          let last : List Line = here (made n) p ∷ next in
          let inner : List Line = code_of made spare own s (n + 1) ls last in
          let free : Free s (n + 1) = λ q h. omega (arith, fr q h) in
          let wi : Within inner code = within_tail _ w in
          let to_last : EntersNone last next = λ q h. omega (arith, fr q h) in
          let level : IsLevel inner last = code_level s (n + 1) ls last bu free in
          let behind : Target last (made n) = target_here (made n) p (within_in (within_code made spare own s (n + 1) ls last) wi) (λ q h. omega arith) in (
            chooses_lead (made n) p _ (target_at (made n) level behind),
            lead s d (n + 1) ls around last bu fi la free (rings_from d ls to_last ri) (lists_from around to_last li) wi (passes_lead (Some (made n)) p next, k),
          )
      lead (IfElse p e s t) d n ls around next bu fi la fr ri li w k =
          let last : List Line = here (made (n + 1)) p ∷ next in
          let second : List Line = code_of made spare own t (n + 2 + labels s) ls last in
          let other : List Line = here (made n) p ∷ second in
          let out : List Line = jump p (made (n + 1)) ∷ other in
          let first : List Line = code_of made spare own s (n + 2) ls out in
          let free_s : Free s (n + 2) = λ q h. omega (arith, fr q h) in
          let free_t : Free t (n + 2 + labels s) = λ q h. omega (arith, fr q h) in
          let wf : Within first code = within_tail _ w in
          let wo : Within other code = within_tail _ (within_in (within_code made spare own s (n + 2) ls out) wf) in
          let ws : Within second code = within_tail _ wo in
          let wl : Within last code = within_in (within_code made spare own t (n + 2 + labels s) ls last) ws in
          let a_last : IsLevel last next = λ q h. omega (arith, fr q h) in
          let a_second : IsLevel second next = λ q h. omega (arith, code_level t (n + 2 + labels s) ls last bu.1 free_t q h, a_last q h) in
          let a_other : IsLevel other next = λ q h. omega (arith, a_second q h, fr q h) in
          let a_out : IsLevel out next = λ q h. omega (arith, a_other q h) in
          let a_first : IsLevel first next = λ q h. omega (arith, code_level s (n + 2) ls out bu.0 free_s q h, a_out q h) in
          let otherwise : Target next (made n) = target_here (made n) p wo (λ q h. omega (arith, a_other q h)) in
          let behind : Target next (made (n + 1)) = target_here (made (n + 1)) p wl (λ q h. omega (arith, a_last q h)) in
          let k_last : AllLead last = (passes_lead (Some (made (n + 1))) p next, k) in
          let to_last : EntersNone last next = λ q h. omega (arith, a_last q h) in
          let k_second : AllLead second = lead t d (n + 2 + labels s) ls around last bu.1 fi.1 la.1 free_t (rings_from d ls to_last ri) (lists_from around to_last li) ws k_last in
          let k_out : AllLead out = (goes_lead (made (n + 1)) p (target_at (made (n + 1)) a_other behind), (passes_lead (Some (made n)) p second, k_second)) in
          let to_out : EntersNone out next = λ q h. omega (arith, a_out q h) in (
            chooses_lead (made n) p _ (target_at (made n) a_first otherwise),
            lead s d (n + 2) ls around out bu.0 fi.0 la.0 free_s (rings_from d ls to_out ri) (lists_from around to_out li) wf k_out,
          )
      lead (While p e s) d n ls around next bu fi la fr ri li w k =
          loop_leads p (Some e) None s d n ls around next bu tt tt fr ri li (λ ri1 li1 w1 k1. lead s (suc d) (n + 3) ((made (n + 2), made (n + 1)) ∷ ls) around _ bu fi la (λ q h. omega (arith, fr q h)) ri1 li1 w1 k1) w k
      lead (For p first e step s) d n ls around next bu fi la fr ri li w k =
          let rings : Rings = (made (n + 2), made (n + 1)) ∷ ls in
          let mid : List Line = here (made (n + 1)) p ∷ with_act p step (jump p (made n) ∷ here (made (n + 2)) p ∷ next) in
          let inner : List Line = code_of made spare own s (n + 3) rings mid in
          let all : List Line = here (made n) p ∷ with_test p e (made (n + 2)) inner in
          let level : IsLevel all next =
          λ q h. omega (
            arith,
            occurs-test q p e (made (n + 2)) inner,
            ends-test q p e (made (n + 2)) inner,
            occurs-code made spare own q s (n + 3) rings mid bu.2,
            ends-code made spare own q s (n + 3) rings mid bu.2,
            occurs-act q p step (jump p (made n) ∷ here (made (n + 2)) p ∷ next),
            ends-act q p step (jump p (made n) ∷ here (made (n + 2)) p ∷ next) bu.1,
            fr q h,
          ) in
          let loop : AllLead all =
          loop_leads p e step s d n ls around next bu.2 bu.1 la.1 fr ri li
          (λ ri1 li1 w1 k1. lead s (suc d) (n + 3) rings around mid bu.2 fi la.2 (λ q h. omega (arith, fr q h)) ri1 li1 w1 k1) (within_in (within_act p first all) w) k in
          if_any_lead around p first all bu.0 la.0 (lists_from around (λ q h. omega (arith, level q h)) li) loop
      lead (Repeat p s) d n ls around next bu fi la fr ri li w k =
          loop_leads p None None s d n ls around next bu tt tt fr ri li (λ ri1 li1 w1 k1. lead s (suc d) (n + 3) ((made (n + 2), made (n + 1)) ∷ ls) around _ bu fi la (λ q h. omega (arith, fr q h)) ri1 li1 w1 k1) w k
      lead (RepeatUntil p s e q0) d n ls around next bu fi la fr ri li w k =
          let rings : Rings = (made (n + 2), made (n + 1)) ∷ ls in
          let last : List Line = here (made (n + 2)) p ∷ next in
          let out : List Line = unless q0 e (made n) ∷ last in
          let mid : List Line = here (made (n + 1)) p ∷ out in
          let inner : List Line = code_of made spare own s (n + 3) rings mid in
          let free : Free s (n + 3) = λ q h. omega (arith, fr q h) in
          let wi : Within inner code = within_tail _ w in
          let wm : Within mid code = within_in (within_code made spare own s (n + 3) rings mid) wi in
          let wl : Within last code = within_tail _ (within_tail _ wm) in
          let a_last : IsLevel last next = λ q h. omega (arith, fr q h) in
          let a_mid : IsLevel mid next = λ q h. omega (arith, fr q h) in
          let a_all : IsLevel (here (made n) p ∷ inner) next = λ q h. omega (arith, code_level s (n + 3) rings mid bu free q h, a_mid q h, fr q h) in
          let head : Target next (made n) = target_here (made n) p w (λ q h. omega (arith, a_all q h)) in
          let again : Target next (made (n + 1)) = target_here (made (n + 1)) p wm (λ q h. omega (arith, a_mid q h)) in
          let behind : Target next (made (n + 2)) = target_here (made (n + 2)) p wl (λ q h. omega (arith, a_last q h)) in
          let k_mid : AllLead mid = (passes_lead (Some (made (n + 1))) p out, (chooses_lead (made n) q0 _ (target_at (made n) a_last head), (passes_lead (Some (made (n + 2))) p next, k))) in
          let to_mid : EntersNone mid next = λ q h. omega (arith, a_mid q h) in (
            passes_lead (Some (made n)) p inner,
            lead s (suc d) (n + 3) rings around mid bu fi la free
                (rings_more d ls (made (n + 2)) (made (n + 1)) (target_at (made (n + 2)) a_mid behind) (target_at (made (n + 1)) a_mid again) (rings_from d ls to_mid ri)) (lists_from around to_mid li) wi k_mid,
          )
      lead (Do p x a b c s) d n ls around next bu fi la fr ri li w k =
          let rings : Rings = (made (n + 1), made n) ∷ ls in
          let last : List Line = here (made (n + 1)) p ∷ next in
          let mid : List Line = here (made n) p ∷ last in
          let inner : List Line = code_of made spare own s (n + 2) rings mid in
          let free : Free s (n + 2) = λ q h. omega (arith, fr q h) in
          let wi : Within inner code = within_tail _ w in
          let wm : Within mid code = within_in (within_code made spare own s (n + 2) rings mid) wi in
          let wl : Within last code = within_tail _ wm in
          let to_mid : EntersNone mid next = λ q h. omega (arith, fr q h) in
          let again : Target mid (made n) = target_here (made n) p wm (λ q h. omega arith) in
          let behind : Target mid (made (n + 1)) = target_here (made (n + 1)) p wl (λ q h. omega (arith, fr q h)) in
          let ending : Ending (unlabelled_line p (Loop (made n) x a b c) ∷ inner) (made n) inner = record {
            place = p;
            behind = last;
            found = found (made n) p unique wm;
            later = omega (arith, occurs-code made spare own (made n) s (n + 2) rings mid bu, ap bit (same_number (made n)));
            leaves = λ q h. omega (arith, code_level s (n + 2) rings mid bu free q h);
          } in (
            record { targets = tt; ending = ending },
            lead s (suc d) (n + 2) rings around mid bu fi la free (rings_more d ls (made (n + 1)) (made n) behind again (rings_from d ls to_mid ri)) (lists_from around to_mid li) wi
                (passes_lead (Some (made n)) p last, (passes_lead (Some (made (n + 1))) p next, k)),
          )
      lead (Switch p e cs) d n ls around next bu fi la fr ri li w k =
          let last : List Line = here (made n) p ∷ next in
          let all : List Line = bodies made spare own cs (n + 1) (made n) ls last in
          let go : List Line = jump p (default_label made spare own cs (n + 1) (made n)) ∷ all in
          let free : ClausesFree cs (n + 1) = λ q h. omega (arith, fr q h) in
          let wb : Within all code = within_tail _ (within_in (within_tests made spare own cs (n + 1) go) (within_tail _ w)) in
          let wl : Within last code = within_in (within_bodies made spare own cs (n + 1) (made n) ls last) wb in
          let to_last : EntersNone last next = λ q h. omega (arith, fr q h) in
          let out : Target last (made n) = target_here (made n) p wl (λ q h. omega arith) in
          let level : IsLevel all last = bodies_level cs (n + 1) (made n) ls last bu free in
          let labels_lead : ClausesLead cs (n + 1) last = clause_targets cs (n + 1) (made n) ls last bu free wb in
          let k_all : AllLead all = lead_bodies cs d (n + 1) (made n) ls around last bu fi la free (rings_from d ls to_last ri) (lists_from around to_last li) out wb (passes_lead (Some (made n)) p next, k) in
          let k_go : AllLead go = (goes_lead _ p (target_at _ level (default_target cs (n + 1) (made n) labels_lead out)), k_all) in
          let go_level : IsLevel go last = λ q h. omega (arith, level q h) in
          (record { targets = tt; ending = tt }, tests_lead cs (n + 1) go (clauses_at go last cs (n + 1) go_level labels_lead) k_go)
      lead (Break p zero) d n ls around next bu fi la fr ri li w k = absurd (omega (arith, fi.0))
      lead (Break p (suc m)) d n ls around next bu fi la fr ri li w k = (goes_lead _ p (ri m (omega (arith, fi.1))).0, k)
      lead (Next p zero) d n ls around next bu fi la fr ri li w k = absurd (omega (arith, fi.0))
      lead (Next p (suc m)) d n ls around next bu fi la fr ri li w k = (goes_lead _ p (ri m (omega (arith, fi.1))).1, k)
      lead (Return p None) d n ls around next bu fi la fr ri li w k = (record { targets = tt; ending = tt }, k)
      lead (Return p (Some e)) d n ls around next bu fi la fr ri li w k = (record { targets = tt; ending = tt }, (record { targets = tt; ending = tt }, k))
      lead (Plain l p a) d n ls around next bu fi la fr ri li w k = (act_leads around l p a next fr bu la li, k)
      lead (Labelled l p s) d n ls around next bu fi la fr ri li w k =
          (passes_lead (Some l) p _, lead s d n ls around next bu fi la (λ q h. omega (arith, fr q h)) ri li (within_tail _ w) k)

      pub lead_all : (ss : Commands) (d n : ℕ) (ls : Rings) (around : List Commands) (next : List Line) → AreBuilt ss → AllFit d ss → AllLand around ss → AllFree ss n → RingsLead d ls next → ListsLead around next →
          Within (all_code made spare own ss n ls next) code → AllLead next → AllLead (all_code made spare own ss n ls next)
      lead_all NoCommand d n ls around next bu fi la fr ri li w k = k
      lead_all (AndCommand s ss) d n ls around next bu fi la fr ri li w k =
          let rest : List Line = all_code made spare own ss (n + labels s) ls next in
          let free : AllFree ss (n + labels s) = λ q h. omega (arith, fr q h) in
          let to_rest : EntersNone rest next = λ q h. omega (arith, all_level ss (n + labels s) ls next bu.1 free q h) in
          let k_rest : AllLead rest = lead_all ss d (n + labels s) ls around next bu.1 fi.1 la.1 free ri li (within_in (within_code made spare own s n ls rest) w) k in
          lead s d n ls around rest bu.0 fi.0 la.0 (λ q h. omega (arith, fr q h)) (rings_from d ls to_rest ri) (lists_from around to_rest li) w k_rest

      lead_bodies : (cs : Clauses) (d m out : ℕ) (ls : Rings) (around : List Commands) (next : List Line) → ClausesBuilt cs → ClausesFit d cs → ClausesLand around cs → ClausesFree cs m → RingsLead d ls next → ListsLead around next →
          Target next out → Within (bodies made spare own cs m out ls next) code → AllLead next → AllLead (bodies made spare own cs m out ls next)
      lead_bodies NoClause d m out ls around next bu fi la fr ri li t w k = k
      lead_bodies (AndClause es fallback ss p cs) d m out ls around next bu fi la fr ri li t w k =
          let rest : List Line = bodies made spare own cs (m + 1 + all_labels ss) out ls next in
          let go : List Line = jump p out ∷ rest in
          let inner : List Line = all_code made spare own ss (m + 1) ls go in
          let free : AllFree ss (m + 1) = λ q h. omega (arith, fr q h) in
          let free1 : ClausesFree cs (m + 1 + all_labels ss) = λ q h. omega (arith, fr q h) in
          let wi : Within inner code = within_tail _ w in
          let wr : Within rest code = within_tail _ (within_in (within_all made spare own ss (m + 1) ls go) wi) in
          let level : IsLevel rest next = bodies_level cs (m + 1 + all_labels ss) out ls next bu.1 free1 in
          let to_go : EntersNone go next = λ q h. omega (arith, level q h) in
          let k_rest : AllLead rest = lead_bodies cs d (m + 1 + all_labels ss) out ls around next bu.1 fi.1 la.1 free1 ri li t wr k in
          let k_go : AllLead go = (goes_lead out p (target_at out level t), k_rest) in
          let li_go : ListsLead around go = lists_from around to_go li in (
            passes_lead (Some (made m)) p inner,
            lead_all ss d (m + 1) ls (ss ∷ around) go bu.0 fi.0 la.0 free (rings_from d ls to_go ri) (lists_more ss (m + 1) ls go around bu.0 free wi li_go) wi k_go,
          )
