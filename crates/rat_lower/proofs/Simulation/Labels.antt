-- Each label stands once, so a jump to it comes to the one place, and a DO ends where it is to end.
use Rattle.std.proofs.Common.{◌≡◌, ℕ, ◌+◌, ◌≤◌, List, [], ◌∷◌, ◌++◌, length, Option, Some, None, Bool, true, false, refl, sym, ap, ◌∙◌, arith, append_assoc, length-append, if◌then◌else◌}
use Rattle.std.specs.Prelude.{nat_eq}
use Rattle.ground.specs.declared.place.Place.{Place}
use Rattle.f66_tree.specs.Syntax.{Text, Formula, Formulas, NoFormula, AndFormula, Par, Act, Assign, Goto, Computed, Sign, When, Loop, Invoke, Continue, Stop, Return, Read, Write, Format, Typed, Dimension, Common, Equivalence, Preset, Line, unlabelled_line}
use Rattle.f66_tree.specs.Units.{is_note}
use Rattle.f66_tree.specs.Execution.{has_label, from_label, runnable, Closer, closers, closer_of}
use Rattle.rat_tree.specs.Syntax.{Command, Empty, Block, If, IfElse, While, For, Repeat, RepeatUntil, Do, Switch, Break, Next, Plain, Labelled, Commands, NoCommand, AndCommand, Clauses, NoClause, AndClause}
use Rattle.rat_lower.specs.Checked.{bit}
use Rattle.rat_lower.specs.Code.{each_test, tests, default_label, bodies, Rings, jump, unless, here, with_test, with_act, labels, all_labels, code_of, all_code}
use Rattle.rat_lower.proofs.Simulation.Counts.{same_number, occurs, names, ends}
use Rattle.rat_tree.specs.Syntax as ratfor_tree

abbrev pub AreUnique : List Line → Type 0
AreUnique code = (l : ℕ) → occurs l code ≤ 1

closer_none : (l : ℕ) (a : Act) (rest : List Line) (found : List Closer) → bit (names l a) ≡ 0 → closer_of l a rest found ≡ found
closer_none l (Loop m y i1 i2 i3) rest found e = go (nat_eq m l) e
  where
    go : (v : Bool) → bit v ≡ 0 → (if v then (found ++ record { variable = y; inner = rest } ∷ []) else found) ≡ found
    go true h = absurd (omega (arith, h))
    go false h = refl
closer_none l (Assign y e1) rest found e = refl
closer_none l (Goto m) rest found e = refl
closer_none l (Computed ms y) rest found e = refl
closer_none l (Sign e1 i1 i2 i3) rest found e = refl
closer_none l (When e1 a) rest found e = refl
closer_none l (Invoke y es) rest found e = refl
closer_none l Continue rest found e = refl
closer_none l (Stop i) rest found e = refl
closer_none l Return rest found e = refl
closer_none l (Read i m es) rest found e = refl
closer_none l (Write i m es) rest found e = refl
closer_none l (Format fs) rest found e = refl
closer_none l (Typed t es) rest found e = refl
closer_none l (Dimension es) rest found e = refl
closer_none l (Common es) rest found e = refl
closer_none l (Equivalence es) rest found e = refl
closer_none l (Preset es) rest found e = refl

pub no_closers : (l : ℕ) (code : List Line) → ends l code ≡ 0 → closers l code ≡ []
no_closers l [] e = refl
no_closers l (s ∷ rest) e = closer_none l s.act rest (closers l rest) (omega (arith, e)) ∙ no_closers l rest (omega (arith, e))

ends-append : (l : ℕ) (a b : List Line) → ends l (a ++ b) ≡ ends l a + ends l b
ends-append l [] b = omega arith
ends-append l (s ∷ a) b = omega (arith, ends-append l a b)

occurs-append : (l : ℕ) (a b : List Line) → occurs l (a ++ b) ≡ occurs l a + occurs l b
occurs-append l [] b = omega arith
occurs-append l (s ∷ a) b = omega (arith, occurs-append l a b)

one_after : (l : ℕ) (p : Place) (x : Text) (a b c : Par) (inner pre : List Line) → ends l (pre ++ unlabelled_line p (Loop l x a b c) ∷ inner) ≤ 1 → closers l (pre ++ unlabelled_line p (Loop l x a b c) ∷ inner) ≡ record { variable = x; inner = inner } ∷ []
one_after l p x a b c inner [] le =
    ap (λ v. if v then (closers l inner ++ record { variable = x; inner = inner } ∷ []) else closers l inner) (same_number l)
    ∙ ap (λ q. q ++ record { variable = x; inner = inner } ∷ []) (no_closers l inner (omega (arith, ap bit (same_number l), le)))
one_after l p x a b c inner (s ∷ pre) le =
    closer_none l s.act (pre ++ unlabelled_line p (Loop l x a b c) ∷ inner) _ (omega (arith, le, ap bit (same_number l), ends-append l pre (unlabelled_line p (Loop l x a b c) ∷ inner)))
    ∙ one_after l p x a b c inner pre (omega (arith, le))

-- the statements from one place on, within all
pub record Within (rest code : List Line) : Type 0 where
  pub before : List Line
  pub is : before ++ rest ≡ code

pub within_self : (rest : List Line) → Within rest rest
within_self rest = record { before = []; is = refl }

pub within_cons : {a b : List Line} (s : Line) → Within a b → Within a (s ∷ b)
within_cons s h = record { before = s ∷ h.before; is = ap (λ l. s ∷ l) h.is }

pub within_in : {a b c : List Line} → Within a b → Within b c → Within a c
within_in {a} h k = record { before = k.before ++ h.before; is = append_assoc k.before h.before a ∙ ap (λ l. k.before ++ l) h.is ∙ k.is }

pub within_tail : {a c : List Line} (s : Line) → Within (s ∷ a) c → Within a c
within_tail {a} s h = within_in (within_cons s (within_self a)) h

pub within_test : (p : Place) (o : Option Formula) (m : ℕ) (next : List Line) → Within next (with_test p o m next)
within_test p None m next = within_self next
within_test p (Some e) m next = within_cons _ (within_self next)

pub within_act : (p : Place) (o : Option Act) (next : List Line) → Within next (with_act p o next)
within_act p None next = within_self next
within_act p (Some e) next = within_cons _ (within_self next)

-- the one DO that ends at a label
pub one_closer : {inner code : List Line} (l : ℕ) (p : Place) (x : Text) (a b c : Par) → ends l code ≤ 1 → Within (unlabelled_line p (Loop l x a b c) ∷ inner) code → closers l code ≡ record { variable = x; inner = inner } ∷ []
one_closer {inner} {code} l p x a b c le h =
    ap (closers l) (sym h.is) ∙ one_after l p x a b c inner h.before (omega (arith, ap (ends l) h.is, le))

-- the place of a label
found_after : (l : ℕ) (t : Line) (rest pre : List Line) → has_label l t.label ≡ true → occurs l (pre ++ t ∷ rest) ≤ 1 → from_label l (pre ++ t ∷ rest) ≡ t ∷ rest
found_after l t rest [] is le = ap (λ b. if b then (t ∷ rest) else from_label l rest) is
found_after l t rest (s ∷ pre) is le = go (has_label l s.label) refl (found_after l t rest pre is (omega arith))
  where
    go : (b : Bool) → has_label l s.label ≡ b → from_label l (pre ++ t ∷ rest) ≡ t ∷ rest → (if has_label l s.label then (s ∷ pre ++ t ∷ rest) else from_label l (pre ++ t ∷ rest)) ≡ t ∷ rest
    go true h e = absurd (omega (arith, ap bit h, ap bit is, occurs-append l pre (t ∷ rest)))
    go false h e = ap (λ b. if b then (s ∷ pre ++ t ∷ rest) else from_label l (pre ++ t ∷ rest)) h ∙ e

pub found_line : {code rest : List Line} (l : ℕ) (t : Line) → has_label l t.label ≡ true → AreUnique code → Within (t ∷ rest) code → from_label l code ≡ t ∷ rest
found_line {code} {rest} l t is unique h =
    let le : occurs l (h.before ++ t ∷ rest) ≤ 1 = omega (arith, ap (occurs l) h.is, unique l) in
    ap (from_label l) (sym h.is) ∙ found_after l t rest h.before is le

pub found : {code rest : List Line} (l : ℕ) (p : Place) → AreUnique code → Within (here l p ∷ rest) code → from_label l code ≡ here l p ∷ rest
found l p unique h = found_line l (here l p) (same_number l) unique h

pub within_each : (x : Text) (p : Place) (es : Formulas) (q : ℕ) (next : List Line) → Within next (each_test x p es q next)
within_each x p NoFormula q next = within_self next
within_each x p (AndFormula e es) q next = within_cons _ (within_each x p es q next)

-- a statement to begin comes first
abbrev pub Starts : List Line → Type 0
Starts rest = (t : Line) × (r : List Line) × (runnable rest ≡ t ∷ r)

starts_line : (t : Line) (next : List Line) → Starts next → Starts (t ∷ next)
starts_line t next h = go (is_note t.act) refl
  where
    go : (v : Bool) → is_note t.act ≡ v → Starts (t ∷ next)
    go true e = (h.0, h.1, ap (λ v. if v then runnable next else (t ∷ next)) e ∙ h.2)
    go false e = (t, next, ap (λ v. if v then runnable next else (t ∷ next)) e)

starts_act : (p : Place) (o : Option Act) (next : List Line) → Starts next → Starts (with_act p o next)
starts_act p None next h = h
starts_act p (Some a) next h = starts_line _ next h

module _ (made : ℕ → ℕ) (spare own : Text) where
  pub within_tests : (cs : Clauses) (m : ℕ) (next : List Line) → Within next (tests made spare own cs m next)
  within_tests NoClause m next = within_self next
  within_tests (AndClause es d ss p cs) m next = within_in (within_tests cs (m + 1 + all_labels ss) next) (within_each spare p es (made m) (tests made spare own cs (m + 1 + all_labels ss) next))

  mutual
    pub within_code : (s : Command) (n : ℕ) (ls : Rings) (next : List Line) → Within next (code_of made spare own s n ls next)
    within_code (Empty p) n ls next = within_self next
    within_code (Block p ss) n ls next = within_all ss n ls next
    within_code (If p e s) n ls next = within_cons _ (within_in (within_cons _ (within_self next)) (within_code s (n + 1) ls (here (made n) p ∷ next)))
    within_code (IfElse p e s t) n ls next =
        within_cons _ (within_in (within_cons _ (within_cons _ (within_in (within_cons _ (within_self next)) (within_code t (n + 2 + labels s) ls (here (made (n + 1)) p ∷ next))))) (within_code s (n + 2) ls (jump p (made (n + 1)) ∷ here (made n) p ∷ code_of made spare own t (n + 2 + labels s) ls (here (made (n + 1)) p ∷ next))))
    within_code (While p e s) n ls next =
        within_cons _ (within_cons _ (within_in (within_cons _ (within_cons _ (within_cons _ (within_self next)))) (within_code s (n + 3) ((made (n + 2), made (n + 1)) ∷ ls) (here (made (n + 1)) p ∷ jump p (made n) ∷ here (made (n + 2)) p ∷ next))))
    within_code (For p first e step s) n ls next =
        let out = jump p (made n) ∷ here (made (n + 2)) p ∷ next in
        let mid = here (made (n + 1)) p ∷ with_act p step out in
        let inner = code_of made spare own s (n + 3) ((made (n + 2), made (n + 1)) ∷ ls) mid in
        let a : Within next mid = within_cons _ (within_in (within_cons _ (within_cons _ (within_self next))) (within_act p step out)) in
        let b = within_in a (within_code s (n + 3) ((made (n + 2), made (n + 1)) ∷ ls) mid) in
        within_in (within_cons (here (made n) p) (within_in b (within_test p e (made (n + 2)) inner))) (within_act p first (here (made n) p ∷ with_test p e (made (n + 2)) inner))
    within_code (Repeat p s) n ls next =
        within_cons _ (within_in (within_cons _ (within_cons _ (within_cons _ (within_self next)))) (within_code s (n + 3) ((made (n + 2), made (n + 1)) ∷ ls) (here (made (n + 1)) p ∷ jump p (made n) ∷ here (made (n + 2)) p ∷ next)))
    within_code (RepeatUntil p s e q) n ls next =
        within_cons _ (within_in (within_cons _ (within_cons _ (within_cons _ (within_self next)))) (within_code s (n + 3) ((made (n + 2), made (n + 1)) ∷ ls) (here (made (n + 1)) p ∷ unless q e (made n) ∷ here (made (n + 2)) p ∷ next)))
    within_code (Do p x a b c s) n ls next =
        within_cons _ (within_in (within_cons _ (within_cons _ (within_self next))) (within_code s (n + 2) ((made (n + 1), made n) ∷ ls) (here (made n) p ∷ here (made (n + 1)) p ∷ next)))
    within_code (Switch p e cs) n ls next =
        within_cons _ (within_in (within_cons _ (within_in (within_cons _ (within_self next)) (within_bodies cs (n + 1) (made n) ls (here (made n) p ∷ next)))) (within_tests cs (n + 1) (jump p (default_label made spare own cs (n + 1) (made n)) ∷ bodies made spare own cs (n + 1) (made n) ls (here (made n) p ∷ next))))
    within_code (Break p k) n ls next = within_cons _ (within_self next)
    within_code (Next p k) n ls next = within_cons _ (within_self next)
    within_code (ratfor_tree.Return p None) n ls next = within_cons _ (within_self next)
    within_code (ratfor_tree.Return p (Some e)) n ls next = within_cons _ (within_cons _ (within_self next))
    within_code (Plain m p a) n ls next = within_cons _ (within_self next)
    within_code (Labelled m p s) n ls next = within_cons _ (within_code s n ls next)

    pub within_all : (ss : Commands) (n : ℕ) (ls : Rings) (next : List Line) → Within next (all_code made spare own ss n ls next)
    within_all NoCommand n ls next = within_self next
    within_all (AndCommand s ss) n ls next = within_in (within_all ss (n + labels s) ls next) (within_code s n ls (all_code made spare own ss (n + labels s) ls next))

    pub within_bodies : (cs : Clauses) (m out : ℕ) (ls : Rings) (next : List Line) → Within next (bodies made spare own cs m out ls next)
    within_bodies NoClause m out ls next = within_self next
    within_bodies (AndClause es d ss p cs) m out ls next =
        within_cons _ (within_in (within_cons _ (within_bodies cs (m + 1 + all_labels ss) out ls next)) (within_all ss (m + 1) ls (jump p out ∷ bodies made spare own cs (m + 1 + all_labels ss) out ls next)))

  mutual
    pub starts_code : (s : Command) (n : ℕ) (ls : Rings) (next : List Line) → Starts next → Starts (code_of made spare own s n ls next)
    starts_code (Empty p) n ls next h = h
    starts_code (Block p ss) n ls next h = starts_all ss n ls next h
    starts_code (If p e s) n ls next h = (_, _, refl)
    starts_code (IfElse p e s t) n ls next h = (_, _, refl)
    starts_code (While p e s) n ls next h = (_, _, refl)
    starts_code (For p first e step s) n ls next h = starts_act p first _ (_, _, refl)
    starts_code (Repeat p s) n ls next h = (_, _, refl)
    starts_code (RepeatUntil p s e q) n ls next h = (_, _, refl)
    starts_code (Do p x a b c s) n ls next h = (_, _, refl)
    starts_code (Switch p e cs) n ls next h = (_, _, refl)
    starts_code (Break p k) n ls next h = (_, _, refl)
    starts_code (Next p k) n ls next h = (_, _, refl)
    starts_code (ratfor_tree.Return p None) n ls next h = (_, _, refl)
    starts_code (ratfor_tree.Return p (Some e)) n ls next h = (_, _, refl)
    starts_code (Plain m p a) n ls next h = starts_line _ next h
    starts_code (Labelled m p s) n ls next h = (_, _, refl)

    pub starts_all : (ss : Commands) (n : ℕ) (ls : Rings) (next : List Line) → Starts next → Starts (all_code made spare own ss n ls next)
    starts_all NoCommand n ls next h = h
    starts_all (AndCommand s ss) n ls next h = starts_code s n ls _ (starts_all ss (n + labels s) ls next h)

pub longer_in : {a b : List Line} → Within a b → length a ≤ length b
longer_in {a} {b} h = omega (arith, ap length h.is, length-append h.before a)
