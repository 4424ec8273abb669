-- The labels of a unit by its parts: in a unit without a fault no label stands twice, and those that are given to it are known.
use Rattle.std.proofs.Common.{◌≡◌, ℕ, suc, ◌+◌, ◌≤◌, Bool, true, false, true≢false, List, [], ◌∷◌, ◌++◌, Option, Some, None, refl, sym, ap, ◌∙◌, arith}
use Rattle.std.specs.Prelude.{not, nat_eq, nat_le, ◌&&◌, ◌||◌}
use Rattle.std.proofs.lemmas.Bool.{eqb-true, leb-true}
use Rattle.ground.specs.declared.place.Place.{Place}
use Rattle.f66_tree.specs.Execution.{has_label}
use Rattle.rat_tree.specs.Syntax.{Command, Empty, Block, If, IfElse, While, For, Repeat, RepeatUntil, Do, Switch, Break, Next, Return, Plain, Labelled, Commands, NoCommand, AndCommand, Clauses, NoClause, AndClause}
use Rattle.name_alloc.specs.Numbers.{is_in}
use Rattle.rat_check.specs.Parts.{Statement, Condition, Labels, no_label, with_label, Part, part, with_mark, with_labels, parts_of, parts_in, clause_parts, unit_parts}
use Rattle.rat_check.specs.Rules.{is_own_label, Before, nothing_before, behind, UnitRules}
use Rattle.rat_check.proofs.CleanLemmas.{and_true, first_keeps}
use Rattle.rat_check.specs.FirstFault.{with_own, first_broken}
use Rattle.rat_check.specs.Survey.{is_among}
use Rattle.rat_lower.specs.Checked.{bit, given, all_given, clause_given}
use Rattle.rat_lower.proofs.Accepted.NoFault.{both_false}
use Rattle.rat_lower.proofs.Accepted.Reached.{eq_turned}

-- how many parts have a label
abbrev pub uses : ℕ → List Part → ℕ
uses l [] = 0
uses l (v ∷ vs) = bit (has_label l v.label) + uses l vs

uses_append : (l : ℕ) (xs ys : List Part) → uses l (xs ++ ys) ≡ uses l xs + uses l ys
uses_append l [] ys = omega arith
uses_append l (x ∷ xs) ys = omega (arith, uses_append l xs ys)

uses_mark : (l k : ℕ) (r : Labels) (o : Option ℕ) (p : Place) (vs : List Part) → uses l (with_mark k r o p vs) ≡ bit (has_label l o) + uses l vs
uses_mark l k r None p vs = omega arith
uses_mark l k r (Some m) p vs = refl

mutual
  uses_of : (l : ℕ) (c : Command) (k : ℕ) (r : Labels) (o : Option ℕ) → uses l (parts_of k r o c) ≡ bit (has_label l o) + given l c
  uses_of l (Empty p) k r o = refl
  uses_of l (Block p ss) k r o = omega (arith, uses_in l ss k (with_labels ss r))
  uses_of l (If p e c) k r o = omega (arith, uses_of l c k r None)
  uses_of l (IfElse p e c d) k r o = omega (arith, uses_append l (parts_of k r None c) (parts_of k r None d), uses_of l c k r None, uses_of l d k r None)
  uses_of l (While p e c) k r o = omega (arith, uses_of l c (suc k) r None)
  uses_of l (For p first e step c) k r o = omega (arith, uses_of l c (suc k) r None)
  uses_of l (Repeat p c) k r o = omega (arith, uses_of l c (suc k) r None)
  uses_of l (RepeatUntil p c e q) k r o = omega (arith, uses_append l (parts_of (suc k) r None c) (part k r None q (Condition e) ∷ []), uses_of l c (suc k) r None)
  uses_of l (Do p x i j m c) k r o = omega (arith, uses_of l c (suc k) r None)
  uses_of l (Switch p e cs) k r o = omega (arith, uses_clauses l cs k r false)
  uses_of l (Break p n) k r o = refl
  uses_of l (Next p n) k r o = refl
  uses_of l (Return p e) k r o = refl
  uses_of l (Plain m p a) k r o = omega (arith, uses_mark l k r o p (part k r m p (Statement a) ∷ []))
  uses_of l (Labelled m p c) k r o = omega (arith, uses_mark l k r o p (parts_of k r (Some m) c), uses_of l c k r (Some m))

  uses_in : (l : ℕ) (ss : Commands) (k : ℕ) (r : Labels) → uses l (parts_in k r ss) ≡ all_given l ss
  uses_in l NoCommand k r = refl
  uses_in l (AndCommand c ss) k r = omega (arith, uses_append l (parts_of k r None c) (parts_in k r ss), uses_of l c k r None, uses_in l ss k r)

  uses_clauses : (l : ℕ) (cs : Clauses) (k : ℕ) (r : Labels) (seen : Bool) → uses l (clause_parts k r seen cs) ≡ clause_given l cs
  uses_clauses l NoClause k r seen = refl
  uses_clauses l (AndClause es fallback ss p cs) k r seen =
      omega (arith, uses_append l (parts_in k (with_labels ss r) ss) (clause_parts k r (seen || fallback) cs), uses_in l ss k (with_labels ss r), uses_clauses l cs k r (seen || fallback))

-- ---- no label stands twice ----

not_true : (a : Bool) → not a ≡ true → a ≡ false
not_true true e = absurd (true≢false (sym e))
not_true false e = refl

-- a label that a part may have was not there before
one_more : (before : Labels) (o : Option ℕ) (l n : ℕ) → is_own_label before o ≡ true → bit (with_label o before l) + n ≤ 1 → bit (before l) + (bit (has_label l o) + n) ≤ 1
one_more before None l n e h = omega (arith, h)
one_more before (Some m) l n e h =
    let k = and_true (nat_le 1 m && nat_le m 99999) (not (before m)) e in
    by (nat_eq m l) refl (not_true (before m) k.1)
  where
    by : (v : Bool) → nat_eq m l ≡ v → before m ≡ false → bit (before l) + (bit (nat_eq m l) + n) ≤ 1
    by true is none_there =
        let gone : bit (before l) ≡ 0 = ap bit (ap before (sym (eqb-true m l is)) ∙ none_there) in
        let there : bit (nat_eq l m || before l) ≡ 1 = ap (λ v. bit (v || before l)) (eq_turned l m ∙ is) in
        omega (arith, gone, there, h, ap bit is)
    by false other none_there =
        let there : bit (nat_eq l m || before l) ≡ bit (before l) = ap (λ v. bit (v || before l)) (eq_turned l m ∙ other) in
        omega (arith, there, h, ap bit other)

at_most : (b : Bool) → bit b ≤ 1
at_most true = omega arith
at_most false = omega arith

at_most_once : (u : UnitRules) (b : Before) (vs : List Part) (l : ℕ) → first_broken u b vs ≡ None → bit (b.labels l) + uses l vs ≤ 1
at_most_once u b [] l e = omega (arith, at_most (b.labels l))
at_most_once u b (v ∷ vs) l e =
    let h = first_keeps u b v vs e in
    one_more b.labels v.label l (uses l vs) h.0.own (at_most_once u (behind u.context.header b v) vs l h.1)

pub given_once : (u : UnitRules) (ss : Commands) → first_broken u nothing_before (unit_parts ss) ≡ None → (l : ℕ) → all_given l ss ≤ 1
given_once u ss e l = omega (arith, at_most_once u nothing_before (unit_parts ss) l e, uses_in l ss 0 (with_labels ss no_label))

-- ---- labels are from 1 to 99999 ----

own_range : (before : Labels) (o : Option ℕ) (l : ℕ) → is_own_label before o ≡ true → has_label l o ≡ true → (1 ≤ l) × (l ≤ 99999)
own_range before None l e h = absurd (true≢false (sym h))
own_range before (Some m) l e h =
    let k = and_true (nat_le 1 m && nat_le m 99999) (not (before m)) e in
    let r = and_true (nat_le 1 m) (nat_le m 99999) k.0 in
    let same : m ≡ l = eqb-true m l h in
    (omega (arith, leb-true 1 m r.0, same), omega (arith, leb-true m 99999 r.1, same))

in_range : (u : UnitRules) (b : Before) (vs : List Part) (l : ℕ) → first_broken u b vs ≡ None → 1 ≤ uses l vs → (1 ≤ l) × (l ≤ 99999)
in_range u b [] l e h = absurd (omega (arith, h))
in_range u b (v ∷ vs) l e h =
    let k = first_keeps u b v vs e in
    by (has_label l v.label) refl (own_range b.labels v.label l k.0.own) (in_range u (behind u.context.header b v) vs l k.1)
  where
    by : (b : Bool) → has_label l v.label ≡ b → (has_label l v.label ≡ true → (1 ≤ l) × (l ≤ 99999)) → (1 ≤ uses l vs → (1 ≤ l) × (l ≤ 99999)) → (1 ≤ l) × (l ≤ 99999)
    by true is own later = own is
    by false is own later = later (omega (arith, h, ap bit is))

pub given_range : (u : UnitRules) (ss : Commands) → first_broken u nothing_before (unit_parts ss) ≡ None → (l : ℕ) → 1 ≤ all_given l ss → (1 ≤ l) × (l ≤ 99999)
given_range u ss e l h = in_range u nothing_before (unit_parts ss) l e (omega (arith, h, uses_in l ss 0 (with_labels ss no_label)))

-- ---- labels that are not there ----

was_not : (o : Option ℕ) (ls : Labels) (l : ℕ) → with_label o ls l ≡ false → (ls l ≡ false) × (bit (has_label l o) ≡ 0)
was_not None ls l e = (e, refl)
was_not (Some m) ls l e = let h = both_false (nat_eq l m) (ls l) e in (h.1, ap bit (eq_turned m l ∙ h.0))

not_there : (vs : List Part) (ls : Labels) (l : ℕ) → with_own vs ls l ≡ false → (ls l ≡ false) × (uses l vs ≡ 0)
not_there [] ls l e = (e, refl)
not_there (v ∷ vs) ls l e =
    let h = not_there vs (with_label v.label ls) l e in
    let k = was_not v.label ls l h.0 in
    (k.0, omega (arith, h.1, k.1))

among_in : (ls : List ℕ) (l : ℕ) → is_among ls l ≡ is_in ls l
among_in [] l = refl
among_in (m ∷ ms) l = ap (λ v. v || is_among ms l) (eq_turned l m) ∙ ap (λ v. nat_eq m l || v) (among_in ms l)

-- a label that the list of all labels lacks is given to no statement
pub not_given : (ls : List ℕ) (ss : Commands) → is_among ls ≡ with_own (unit_parts ss) no_label → (l : ℕ) → is_in ls l ≡ false → all_given l ss ≡ 0
not_given ls ss all l e =
    sym (uses_in l ss 0 (with_labels ss no_label)) ∙ (not_there (unit_parts ss) no_label l (sym (ap (λ set. set l) all) ∙ among_in ls l ∙ e)).1
