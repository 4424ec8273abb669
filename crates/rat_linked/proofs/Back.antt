-- What holds of all mentions of the statements that a unit becomes holds of all mentions of its parts.
use Rattle.std.proofs.Common.{◌≡◌, inr, ℕ, suc, ◌+◌, Bool, false, true≢false, List, [], ◌∷◌, ◌++◌, Option, Some, None}
use Rattle.std.specs.Prelude.{◌||◌, ⊤}
use Rattle.std.specs.List.{AllByRecursion}
use Rattle.ground.specs.declared.place.Place.{Place}
use Rattle.f66_tree.specs.Syntax.{Text, Formula, Ref, Formulas, NoFormula, AndFormula, Header, MainUnit, SubUnit, FuncUnit, DataUnit, Act, Assign, Line}
use Rattle.f66_tree.specs.Units.{Context, name_of}
use Rattle.f66_program.specs.Mentions.{Mention, mentions_of}
use Rattle.rat_tree.specs.Syntax.{Command, Empty, Block, If, IfElse, While, For, Repeat, RepeatUntil, Do, Switch, Break, Next, Return, Plain, Labelled, Commands, NoCommand, AndCommand, Clauses, NoClause, AndClause}
use Rattle.rat_check.specs.Parts.{Statement, Condition, ReturnHead, Labels, Part, part, with_mark, with_labels, parts_of, parts_in, clause_parts}
use Rattle.rat_check.specs.Said.{said_by, value_acts, said_if_any, condition_if_any, returned_act}
use Rattle.rat_check.specs.Rules.{returns_wrong}
use Rattle.rat_lower.specs.Code.{each_test, tests, default_label, bodies, Rings, jump, unless, here, with_test, with_act, with_return, labels, all_labels, code_of, all_code}
use Rattle.rat_linked.specs.Made.{IsProper}
use Rattle.rat_linked.proofs.Parts.{halves, whole, unmarked}
use Rattle.rat_linked.proofs.Forth.{Good, Lines}
use Rattle.spared_units.proofs.Among.{before}

module _ (h : Header) (c : Context) (P : Mention → Type 0) (made : ℕ → ℕ) (spare : Text) where
  abbrev G : Act → Type 0
  G = Good h c P

  abbrev L : List Line → Type 0
  L = Lines h c P

  -- all that a part says is so
  abbrev pub Told : Part → Type 0
  Told v = AllByRecursion G (said_by h v.form)

  abbrev Proper : List Part → Type 0
  Proper vs = AllByRecursion (IsProper h) vs

  abbrev own : Text
  own = name_of h

  returned : (k : Header) (e : Formula) → returns_wrong k (ReturnHead (Some e)) ≡ false → G (Assign (Ref (name_of k)) e) → G (returned_act k e)
  returned MainUnit e w = absurd (true≢false w)
  returned (SubUnit x ds) e w = absurd (true≢false w)
  returned (FuncUnit t x ds) e w = λ g. g
  returned DataUnit e w = absurd (true≢false w)

  marked : (k : ℕ) (r : Labels) (l : Option ℕ) (p : Place) (vs : List Part) → AllByRecursion Told vs → AllByRecursion Told (with_mark k r l p vs)
  marked k r None p vs g = g
  marked k r (Some l) p vs g = (tt, g)

  act_back : (p : Place) (o : Option Act) (next : List Line) → L (with_act p o next) → AllByRecursion G (said_if_any o) × L next
  act_back p None next g = (tt, g)
  act_back p (Some a) next g = ((g.0, tt), g.1)

  test_back : (p : Place) (o : Option Formula) (l : ℕ) (next : List Line) → L (with_test p o l next) → AllByRecursion G (condition_if_any o) × L next
  test_back p None l next g = (tt, g)
  test_back p (Some e) l next g = ((g.0, tt), g.1)

  return_back : (p : Place) (o : Option Formula) (next : List Line) → returns_wrong h (ReturnHead o) ≡ false → L (with_return own p o next) → AllByRecursion G (said_by h (ReturnHead o)) × L next
  return_back p None next w g = (tt, g.1)
  return_back p (Some e) next w g = ((returned h e w g.0, tt), g.1.1)

  each_back : (p : Place) (es : Formulas) (l : ℕ) (next : List Line) → L (each_test spare p es l next) → AllByRecursion G (value_acts es) × L next
  each_back p NoFormula l next g = (tt, g)
  each_back p (AndFormula e es) l next g = let k = each_back p es l next g.1 in (((λ m i. g.0 m (inr (before (mentions_of c e) [] m i))), k.0), k.1)

  -- the case expressions of all clauses
  abbrev Tested : Clauses → Type 0
  Tested NoClause = ⊤
  Tested (AndClause es fallback ss p cs) = AllByRecursion G (value_acts es) × Tested cs

  tests_back : (cs : Clauses) (m : ℕ) (next : List Line) → L (tests made spare own cs m next) → Tested cs × L next
  tests_back NoClause m next g = (tt, g)
  tests_back (AndClause es fallback ss p cs) m next g =
      let a = each_back p es (made m) (tests made spare own cs (m + 1 + all_labels ss) next) g in
      let b = tests_back cs (m + 1 + all_labels ss) next a.1 in
      ((a.0, b.0), b.1)

  mutual
    back : (s : Command) (k : ℕ) (r : Labels) (o : Option ℕ) (n : ℕ) (ls : Rings) (next : List Line) → Proper (parts_of k r o s) → L (code_of made spare own s n ls next) → AllByRecursion Told (parts_of k r o s) × L next
    back (Empty p) k r o n ls next w g = ((tt, tt), g)
    back (Block p ss) k r o n ls next w g = let a = all_back ss k (with_labels ss r) n ls next w.1 g in ((tt, a.0), a.1)
    back (If p e s) k r o n ls next w g =
        let a = back s k r None (n + 1) ls (here (made n) p ∷ next) w.1 g.1 in
        (((g.0, tt), a.0), a.1.1)
    back (IfElse p e s t) k r o n ls next w g =
        let both = halves (IsProper h) (parts_of k r None s) (parts_of k r None t) w.1 in
        let second : List Line = code_of made spare own t (n + 2 + labels s) ls (here (made (n + 1)) p ∷ next) in
        let a = back s k r None (n + 2) ls (jump p (made (n + 1)) ∷ here (made n) p ∷ second) both.0 g.1 in
        let b = back t k r None (n + 2 + labels s) ls (here (made (n + 1)) p ∷ next) both.1 a.1.1.1 in
        (((g.0, tt), whole Told (parts_of k r None s) (parts_of k r None t) a.0 b.0), b.1.1)
    back (While p e s) k r o n ls next w g =
        let a = back s (suc k) r None (n + 3) ((made (n + 2), made (n + 1)) ∷ ls) (here (made (n + 1)) p ∷ jump p (made n) ∷ here (made (n + 2)) p ∷ next) w.1 g.1.1 in
        (((g.1.0, tt), a.0), a.1.1.1.1)
    back (For p first e step s) k r o n ls next w g =
        let out : List Line = jump p (made n) ∷ here (made (n + 2)) p ∷ next in
        let mid : List Line = here (made (n + 1)) p ∷ with_act p step out in
        let inner : List Line = code_of made spare own s (n + 3) ((made (n + 2), made (n + 1)) ∷ ls) mid in
        let f = act_back p first (here (made n) p ∷ with_test p e (made (n + 2)) inner) g in
        let q = test_back p e (made (n + 2)) inner f.1.1 in
        let a = back s (suc k) r None (n + 3) ((made (n + 2), made (n + 1)) ∷ ls) mid w.1 q.1 in
        let d = act_back p step out a.1.1 in
        ((whole G (said_if_any first) (condition_if_any e ++ said_if_any step) f.0 (whole G (condition_if_any e) (said_if_any step) q.0 d.0), a.0), d.1.1.1)
    back (Repeat p s) k r o n ls next w g =
        let a = back s (suc k) r None (n + 3) ((made (n + 2), made (n + 1)) ∷ ls) (here (made (n + 1)) p ∷ jump p (made n) ∷ here (made (n + 2)) p ∷ next) w.1 g.1 in
        ((tt, a.0), a.1.1.1.1)
    back (RepeatUntil p s e q) k r o n ls next w g =
        let both = halves (IsProper h) (parts_of (suc k) r None s) (part k r None q (Condition e) ∷ []) w.1 in
        let a = back s (suc k) r None (n + 3) ((made (n + 2), made (n + 1)) ∷ ls) (here (made (n + 1)) p ∷ unless q e (made n) ∷ here (made (n + 2)) p ∷ next) both.0 g.1 in
        ((tt, whole Told (parts_of (suc k) r None s) (part k r None q (Condition e) ∷ []) a.0 ((a.1.1.0, tt), tt)), a.1.1.1.1)
    back (Do p x i j d s) k r o n ls next w g =
        let a = back s (suc k) r None (n + 2) ((made (n + 1), made n) ∷ ls) (here (made n) p ∷ here (made (n + 1)) p ∷ next) w.1 g.1 in
        (((g.0, tt), a.0), a.1.1.1)
    back (Switch p e cs) k r o n ls next w g =
        let last : List Line = here (made n) p ∷ next in
        let all : List Line = bodies made spare own cs (n + 1) (made n) ls last in
        let t = tests_back cs (n + 1) (jump p (default_label made spare own cs (n + 1) (made n)) ∷ all) g.1 in
        let b = bodies_back cs k r false (n + 1) (made n) ls last w.1 t.0 t.1.1 in
        ((((λ m i. g.0 m (inr i)), tt), b.0), b.1.1)
    back (Break p q) k r o n ls next w g = ((tt, tt), g.1)
    back (Next p q) k r o n ls next w g = ((tt, tt), g.1)
    back (Return p e) k r o n ls next w g = let a = return_back p e next w.0.returned g in ((a.0, tt), a.1)
    back (Plain l p a) k r o n ls next w g = (marked k r o p (part k r l p (Statement a) ∷ []) ((g.0, tt), tt), g.1)
    back (Labelled l p s) k r o n ls next w g =
        let a = back s k r (Some l) n ls next (unmarked (IsProper h) k r o p (parts_of k r (Some l) s) w) g.1 in
        (marked k r o p (parts_of k r (Some l) s) a.0, a.1)

    pub all_back : (ss : Commands) (k : ℕ) (r : Labels) (n : ℕ) (ls : Rings) (next : List Line) → Proper (parts_in k r ss) → L (all_code made spare own ss n ls next) → AllByRecursion Told (parts_in k r ss) × L next
    all_back NoCommand k r n ls next w g = (tt, g)
    all_back (AndCommand s ss) k r n ls next w g =
        let both = halves (IsProper h) (parts_of k r None s) (parts_in k r ss) w in
        let a = back s k r None n ls (all_code made spare own ss (n + labels s) ls next) both.0 g in
        let b = all_back ss k r (n + labels s) ls next both.1 a.1 in
        (whole Told (parts_of k r None s) (parts_in k r ss) a.0 b.0, b.1)

    bodies_back : (cs : Clauses) (k : ℕ) (r : Labels) (seen : Bool) (m out : ℕ) (ls : Rings) (next : List Line) → Proper (clause_parts k r seen cs) → Tested cs → L (bodies made spare own cs m out ls next) → AllByRecursion Told (clause_parts k r seen cs) × L next
    bodies_back NoClause k r seen m out ls next w t g = (tt, g)
    bodies_back (AndClause es fallback ss p cs) k r seen m out ls next w t g =
        let both = halves (IsProper h) (parts_in k (with_labels ss r) ss) (clause_parts k r (seen || fallback) cs) w.1 in
        let a = all_back ss k (with_labels ss r) (m + 1) ls (jump p out ∷ bodies made spare own cs (m + 1 + all_labels ss) out ls next) both.0 g.1 in
        let b = bodies_back cs k r (seen || fallback) (m + 1 + all_labels ss) out ls next both.1 t.1 a.1.1 in
        ((t.0, whole Told (parts_in k (with_labels ss r) ss) (clause_parts k r (seen || fallback) cs) a.0 b.0), b.1)
