-- What holds of all mentions of the parts of a unit holds of all mentions of the statements that it becomes.
use Rattle.std.proofs.Common.{◌≡◌, inl, inr, ℕ, suc, ◌+◌, Bool, true, false, true≢false, List, [], ◌∷◌, ◌++◌, Option, Some, None, refl, subst}
use Rattle.std.specs.Prelude.{◌||◌}
use Rattle.std.specs.List.{AllByRecursion}
use Rattle.std.proofs.lemmas.Bool.{or_left, or_right}
use Rattle.ground.specs.declared.place.Place.{Place}
use Rattle.f66_tree.specs.Syntax.{Text, Formula, Ref, Formulas, NoFormula, AndFormula, Header, MainUnit, SubUnit, FuncUnit, DataUnit, Act, Assign, Goto, Sign, When, Line}
use Rattle.f66_tree.specs.Units.{Context, name_of}
use Rattle.f66_program.specs.Mentions.{Mention, AVariable, mentions_of, mentions_in}
use Rattle.rat_tree.specs.Syntax.{Command, Empty, Block, If, IfElse, While, For, Repeat, RepeatUntil, Do, Switch, Break, Next, Return, Plain, Labelled, Commands, NoCommand, AndCommand, Clauses, NoClause, AndClause}
use Rattle.rat_check.specs.Parts.{Statement, Condition, ReturnHead, Labels, Part, part, with_labels, parts_of, parts_in, clause_parts}
use Rattle.rat_check.specs.Said.{said_by, value_acts, said_if_any, condition_if_any, returned_act}
use Rattle.rat_check.specs.Rules.{returns_wrong}
use Rattle.rat_lower.specs.Code.{case_test, each_test, tests, default_label, bodies, Rings, jump, unless, here, with_test, with_act, with_return, labels, all_labels, code_of, all_code, has_switch, have_switch, end_unless}
use Rattle.rat_linked.specs.Made.{IsProper}
use Rattle.rat_linked.proofs.Parts.{halves, unmarked}
use Rattle.spared_units.proofs.Among.{Among, split}

module _ (h : Header) (c : Context) (P : Mention → Type 0) where
  -- all that a statement mentions is so
  abbrev pub Good : Act → Type 0
  Good a = (m : Mention) → Among (mentions_in c a) m → P m

  abbrev pub Lines : List Line → Type 0
  Lines lines = AllByRecursion (λ s. Good s.act) lines

  -- all that a part says is so, and it is proper
  abbrev pub Says : Part → Type 0
  Says v = AllByRecursion Good (said_by h v.form) × IsProper h v

  module _ (made : ℕ → ℕ) (spare : Text) where
    abbrev own : Text
    own = name_of h

    nothing : {m : Mention} → ⊥ → P m
    nothing k = absurd k

    compared : P (AVariable spare) → (e : Formula) (l : ℕ) → Good (Sign e 0 0 0) → Good (When (case_test spare e) (Goto l))
    compared ps e l g m (inl k) = subst P k ps
    compared ps e l g m (inr k) = elim (split (mentions_of c e) [] m k) [ inl i ↦ g m i | inr i ↦ absurd i ]

    stored : P (AVariable spare) → (e : Formula) → Good (Sign e 0 0 0) → Good (Assign (Ref spare) e)
    stored ps e g m (inl k) = subst P k ps
    stored ps e g m (inr k) = g m k

    returned : (k : Header) (e : Formula) → returns_wrong k (ReturnHead (Some e)) ≡ false → Good (returned_act k e) → Good (Assign (Ref (name_of k)) e)
    returned MainUnit e w = absurd (true≢false w)
    returned (SubUnit x ds) e w = absurd (true≢false w)
    returned (FuncUnit t x ds) e w = λ g. g
    returned DataUnit e w = absurd (true≢false w)

    test_forth : (p : Place) (o : Option Formula) (l : ℕ) (next : List Line) → AllByRecursion Good (condition_if_any o) → Lines next → Lines (with_test p o l next)
    test_forth p None l next g k = k
    test_forth p (Some e) l next g k = (g.0, k)

    act_forth : (p : Place) (o : Option Act) (next : List Line) → AllByRecursion Good (said_if_any o) → Lines next → Lines (with_act p o next)
    act_forth p None next g k = k
    act_forth p (Some a) next g k = (g.0, k)

    each_forth : P (AVariable spare) → (p : Place) (es : Formulas) (l : ℕ) (next : List Line) → AllByRecursion Good (value_acts es) → Lines next → Lines (each_test spare p es l next)
    each_forth ps p NoFormula l next g k = k
    each_forth ps p (AndFormula e es) l next g k = (compared ps e l g.0, each_forth ps p es l next g.1 k)

    return_forth : (p : Place) (o : Option Formula) (next : List Line) → AllByRecursion Good (said_by h (ReturnHead o)) → returns_wrong h (ReturnHead o) ≡ false → Lines next → Lines (with_return own p o next)
    return_forth p None next g w k = (λ m. nothing, k)
    return_forth p (Some e) next g w k = (returned h e w g.0, (λ m. nothing, k))

    tests_forth : P (AVariable spare) → (cs : Clauses) (k : ℕ) (r : Labels) (seen : Bool) (m : ℕ) (next : List Line) → AllByRecursion Says (clause_parts k r seen cs) → Lines next → Lines (tests made spare own cs m next)
    tests_forth ps NoClause k r seen m next g j = j
    tests_forth ps (AndClause es fallback ss p cs) k r seen m next g j =
        let both = halves Says (parts_in k (with_labels ss r) ss) (clause_parts k r (seen || fallback) cs) g.1 in
        each_forth ps p es (made m) _ g.0.0 (tests_forth ps cs k r (seen || fallback) (m + 1 + all_labels ss) next both.1 j)

    mutual
      forth : (s : Command) (k : ℕ) (r : Labels) (o : Option ℕ) (n : ℕ) (ls : Rings) (next : List Line) → (has_switch s ≡ true → P (AVariable spare)) → AllByRecursion Says (parts_of k r o s) → Lines next → Lines (code_of made spare own s n ls next)
      forth (Empty p) k r o n ls next may g j = j
      forth (Block p ss) k r o n ls next may g j = all_forth ss k (with_labels ss r) n ls next may g.1 j
      forth (If p e s) k r o n ls next may g j = (g.0.0.0, forth s k r None (n + 1) ls (here (made n) p ∷ next) may g.1 (λ m. nothing, j))
      forth (IfElse p e s t) k r o n ls next may g j =
          let both = halves Says (parts_of k r None s) (parts_of k r None t) g.1 in
          let last : List Line = here (made (n + 1)) p ∷ next in
          let second : List Line = code_of made spare own t (n + 2 + labels s) ls last in
          let j_second : Lines second = forth t k r None (n + 2 + labels s) ls last (λ e1. may (or_right (has_switch s) (has_switch t) e1)) both.1 (λ m. nothing, j) in
          (g.0.0.0, forth s k r None (n + 2) ls (jump p (made (n + 1)) ∷ here (made n) p ∷ second) (λ e1. may (or_left (has_switch s) (has_switch t) e1)) both.0 (λ m. nothing, (λ m. nothing, j_second)))
      forth (While p e s) k r o n ls next may g j =
          let mid : List Line = here (made (n + 1)) p ∷ jump p (made n) ∷ here (made (n + 2)) p ∷ next in
          (λ m. nothing, (g.0.0.0, forth s (suc k) r None (n + 3) ((made (n + 2), made (n + 1)) ∷ ls) mid may g.1 (λ m. nothing, (λ m. nothing, (λ m. nothing, j)))))
      forth (For p first e step s) k r o n ls next may g j =
          let out : List Line = jump p (made n) ∷ here (made (n + 2)) p ∷ next in
          let mid : List Line = here (made (n + 1)) p ∷ with_act p step out in
          let inner : List Line = code_of made spare own s (n + 3) ((made (n + 2), made (n + 1)) ∷ ls) mid in
          let a = halves Good (said_if_any first) (condition_if_any e ++ said_if_any step) g.0.0 in
          let b = halves Good (condition_if_any e) (said_if_any step) a.1 in
          let j_mid : Lines mid = (λ m. nothing, act_forth p step out b.1 (λ m. nothing, (λ m. nothing, j))) in
          act_forth p first (here (made n) p ∷ with_test p e (made (n + 2)) inner) a.0
          (λ m. nothing, test_forth p e (made (n + 2)) inner b.0 (forth s (suc k) r None (n + 3) ((made (n + 2), made (n + 1)) ∷ ls) mid may g.1 j_mid))
      forth (Repeat p s) k r o n ls next may g j =
          let mid : List Line = here (made (n + 1)) p ∷ jump p (made n) ∷ here (made (n + 2)) p ∷ next in
          (λ m. nothing, forth s (suc k) r None (n + 3) ((made (n + 2), made (n + 1)) ∷ ls) mid may g.1 (λ m. nothing, (λ m. nothing, (λ m. nothing, j))))
      forth (RepeatUntil p s e q) k r o n ls next may g j =
          let both = halves Says (parts_of (suc k) r None s) (part k r None q (Condition e) ∷ []) g.1 in
          let mid : List Line = here (made (n + 1)) p ∷ unless q e (made n) ∷ here (made (n + 2)) p ∷ next in
          (λ m. nothing, forth s (suc k) r None (n + 3) ((made (n + 2), made (n + 1)) ∷ ls) mid may both.0 (λ m. nothing, (both.1.0.0.0, (λ m. nothing, j))))
      forth (Do p x a b d s) k r o n ls next may g j =
          let mid : List Line = here (made n) p ∷ here (made (n + 1)) p ∷ next in
          (g.0.0.0, forth s (suc k) r None (n + 2) ((made (n + 1), made n) ∷ ls) mid may g.1 (λ m. nothing, (λ m. nothing, j)))
      forth (Switch p e cs) k r o n ls next may g j =
          let last : List Line = here (made n) p ∷ next in
          let all : List Line = bodies made spare own cs (n + 1) (made n) ls last in
          let j_all : Lines all = bodies_forth cs k r false (n + 1) (made n) ls last (may refl) g.1 (λ m. nothing, j) in
          (stored (may refl) e g.0.0.0, tests_forth (may refl) cs k r false (n + 1) (jump p (default_label made spare own cs (n + 1) (made n)) ∷ all) g.1 (λ m. nothing, j_all))
      forth (Break p q) k r o n ls next may g j = (λ m. nothing, j)
      forth (Next p q) k r o n ls next may g j = (λ m. nothing, j)
      forth (Return p e) k r o n ls next may g j = return_forth p e next g.0.0 g.0.1.returned j
      forth (Plain l p a) k r o n ls next may g j = ((unmarked Says k r o p (part k r l p (Statement a) ∷ []) g).0.0.0, j)
      forth (Labelled l p s) k r o n ls next may g j = (λ m. nothing, forth s k r (Some l) n ls next may (unmarked Says k r o p (parts_of k r (Some l) s) g) j)

      pub all_forth : (ss : Commands) (k : ℕ) (r : Labels) (n : ℕ) (ls : Rings) (next : List Line) → (have_switch ss ≡ true → P (AVariable spare)) → AllByRecursion Says (parts_in k r ss) → Lines next → Lines (all_code made spare own ss n ls next)
      all_forth NoCommand k r n ls next may g j = j
      all_forth (AndCommand s ss) k r n ls next may g j =
          let both = halves Says (parts_of k r None s) (parts_in k r ss) g in
          forth s k r None n ls (all_code made spare own ss (n + labels s) ls next) (λ e. may (or_left (has_switch s) (have_switch ss) e)) both.0
          (all_forth ss k r (n + labels s) ls next (λ e. may (or_right (has_switch s) (have_switch ss) e)) both.1 j)

      bodies_forth : (cs : Clauses) (k : ℕ) (r : Labels) (seen : Bool) (m out : ℕ) (ls : Rings) (next : List Line) → P (AVariable spare) → AllByRecursion Says (clause_parts k r seen cs) → Lines next → Lines (bodies made spare own cs m out ls next)
      bodies_forth NoClause k r seen m out ls next ps g j = j
      bodies_forth (AndClause es fallback ss p cs) k r seen m out ls next ps g j =
          let both = halves Says (parts_in k (with_labels ss r) ss) (clause_parts k r (seen || fallback) cs) g.1 in
          let rest : List Line = bodies made spare own cs (m + 1 + all_labels ss) out ls next in
          (λ i. nothing, all_forth ss k (with_labels ss r) (m + 1) ls (jump p out ∷ rest) (λ e. ps) both.0 (λ i. nothing, bodies_forth cs k r (seen || fallback) (m + 1 + all_labels ss) out ls next ps both.1 j))

    -- what ends a unit mentions nothing
    pub end_forth : (main v : Bool) (p : Place) → Lines (end_unless main v p)
    end_forth true true p = tt
    end_forth true false p = (λ m. nothing, tt)
    end_forth false true p = tt
    end_forth false false p = (λ m. nothing, tt)
