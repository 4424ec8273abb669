-- A unit without a fault: its statements are built, its loops are left from within, and its jumps land.
use Rattle.std.proofs.Common.{◌≡◌, ℕ, suc, ◌≤◌, Bool, true, false, true≢false, List, [], ◌∷◌, Option, Some, None, sym, leb-true}
use Rattle.std.specs.Prelude.{nat_le, ◌&&◌, ◌||◌}
use Rattle.f66_tree.specs.Syntax.{Act, When, Loop}
use Rattle.rat_tree.specs.Syntax.{Command, Empty, Block, If, IfElse, While, For, Repeat, RepeatUntil, Do, Switch, Break, Next, Return, Plain, Labelled, Commands, NoCommand, AndCommand, Clauses, NoClause, AndClause}
use Rattle.rat_check.specs.Parts.{Condition, Statement, Labels, part, with_labels, parts_of, parts_in, clause_parts}
use Rattle.rat_check.specs.Rules.{is_plain, is_simple, UnitRules}
use Rattle.rat_check.proofs.CleanLemmas.{and_true}
use Rattle.rat_lower.specs.Checked.{IsPlain, IsPlainIfAny, IsBuilt, AreBuilt, ClausesBuilt, Fits, AllFit, ClausesFit, Lands, AllLand, ClausesLand}
use Rattle.rat_lower.proofs.Accepted.NoFault.{split, unmarked, Fine, AllFine}
use Rattle.rat_lower.proofs.Accepted.Reached.{Sees, sees_list, act_lands, step_lands}

act_plain : (a : Act) → is_plain a ≡ true → IsPlain a
act_plain (When e b) h = absurd (true≢false (sym h))
act_plain (Loop l x i j m) h = absurd (true≢false (sym h))
act_plain _ h = tt

step_plain : (o : Option Act) → is_simple o ≡ true → IsPlainIfAny o
step_plain None h = tt
step_plain (Some (When e b)) h = absurd (true≢false (sym h))
step_plain (Some (Loop l x i j m)) h = absurd (true≢false (sym h))
step_plain (Some _) h = tt

count_is : (k n : ℕ) → (nat_le 1 n && nat_le n k) ≡ true → (1 ≤ n) × (n ≤ k)
count_is k n e = let h = and_true (nat_le 1 n) (nat_le n k) e in (leb-true 1 n h.0, leb-true n k h.1)

module _ (u : UnitRules) where
  -- what a statement without a fault is
  record Clear (k : ℕ) (around : List Commands) (c : Command) : Type 0 where
    pub built : IsBuilt c
    pub fits : Fits k c
    pub lands : Lands around c

  pub record AllClear (k : ℕ) (around : List Commands) (ss : Commands) : Type 0 where
    pub built : AreBuilt ss
    pub fits : AllFit k ss
    pub lands : AllLand around ss

  record ClausesClear (k : ℕ) (around : List Commands) (cs : Clauses) : Type 0 where
    pub built : ClausesBuilt cs
    pub fits : ClausesFit k cs
    pub lands : ClausesLand around cs

  mutual
    clear : (c : Command) (k : ℕ) (r : Labels) (l : Option ℕ) (around : List Commands) → Sees r around → AllFine u (parts_of k r l c) → Clear k around c
    clear (Empty p) k r l around sees h = record { built = tt; fits = tt; lands = tt }
    clear (Block p ss) k r l around sees h =
        let a = all_clear ss k (with_labels ss r) (ss ∷ around) (sees_list ss r around sees) h.1 in
        record { built = a.built; fits = a.fits; lands = a.lands }
    clear (If p f c) k r l around sees h = let a = clear c k r None around sees h.1 in record { built = a.built; fits = a.fits; lands = a.lands }
    clear (IfElse p f c d) k r l around sees h =
        let both = split (Fine u) (parts_of k r None c) (parts_of k r None d) h.1 in
        let a = clear c k r None around sees both.0 in
        let b = clear d k r None around sees both.1 in
        record { built = (a.built, b.built); fits = (a.fits, b.fits); lands = (a.lands, b.lands) }
    clear (While p f c) k r l around sees h = let a = clear c (suc k) r None around sees h.1 in record { built = a.built; fits = a.fits; lands = a.lands }
    clear (For p first f step c) k r l around sees h =
        let a = clear c (suc k) r None around sees h.1 in
        let form = and_true (is_simple first) (is_simple step) h.0.ratfor in
        record { built = (step_plain first form.0, step_plain step form.1, a.built); fits = a.fits; lands = (step_lands around first form.0, step_lands around step form.1, a.lands) }
    clear (Repeat p c) k r l around sees h = let a = clear c (suc k) r None around sees h.1 in record { built = a.built; fits = a.fits; lands = a.lands }
    clear (RepeatUntil p c f q) k r l around sees h =
        let both = split (Fine u) (parts_of (suc k) r None c) (part k r None q (Condition f) ∷ []) h.1 in
        let a = clear c (suc k) r None around sees both.0 in
        record { built = a.built; fits = a.fits; lands = a.lands }
    clear (Do p x i j m c) k r l around sees h = let a = clear c (suc k) r None around sees h.1 in record { built = a.built; fits = a.fits; lands = a.lands }
    clear (Switch p f cs) k r l around sees h = let a = clauses_clear cs k r false around sees h.1 in record { built = a.built; fits = a.fits; lands = a.lands }
    clear (Break p n) k r l around sees h = record { built = tt; fits = count_is k n h.0.inside; lands = tt }
    clear (Next p n) k r l around sees h = record { built = tt; fits = count_is k n h.0.inside; lands = tt }
    clear (Return p f) k r l around sees h = record { built = tt; fits = tt; lands = tt }
    clear (Plain m p a) k r l around sees h =
        let one = unmarked (Fine u) k r l p (part k r m p (Statement a) ∷ []) h in
        record { built = act_plain a one.0.ratfor; fits = tt; lands = act_lands u.formats r around sees a one.0.ratfor one.0.found }
    clear (Labelled m p c) k r l around sees h =
        let a = clear c k r (Some m) around sees (unmarked (Fine u) k r l p (parts_of k r (Some m) c) h) in
        record { built = a.built; fits = a.fits; lands = a.lands }

    pub all_clear : (ss : Commands) (k : ℕ) (r : Labels) (around : List Commands) → Sees r around → AllFine u (parts_in k r ss) → AllClear k around ss
    all_clear NoCommand k r around sees h = record { built = tt; fits = tt; lands = tt }
    all_clear (AndCommand c ss) k r around sees h =
        let both = split (Fine u) (parts_of k r None c) (parts_in k r ss) h in
        let a = clear c k r None around sees both.0 in
        let b = all_clear ss k r around sees both.1 in
        record { built = (a.built, b.built); fits = (a.fits, b.fits); lands = (a.lands, b.lands) }

    clauses_clear : (cs : Clauses) (k : ℕ) (r : Labels) (seen : Bool) (around : List Commands) → Sees r around → AllFine u (clause_parts k r seen cs) → ClausesClear k around cs
    clauses_clear NoClause k r seen around sees h = record { built = tt; fits = tt; lands = tt }
    clauses_clear (AndClause es fallback ss p cs) k r seen around sees h =
        let both = split (Fine u) (parts_in k (with_labels ss r) ss) (clause_parts k r (seen || fallback) cs) h.1 in
        let a = all_clear ss k (with_labels ss r) (ss ∷ around) (sees_list ss r around sees) both.0 in
        let b = clauses_clear cs k r (seen || fallback) around sees both.1 in
        record { built = (a.built, b.built); fits = (a.fits, b.fits); lands = (a.lands, b.lands) }
