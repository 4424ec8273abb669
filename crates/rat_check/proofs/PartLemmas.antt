-- Parts and surveys, which the walk's arms are made of.
use Rattle.std.proofs.Common.{◌≡◌, ℕ, ◌⊎◌, inl, inr, ◌≢◌, subst, Option, None, Some, List, [], ◌∷◌, ◌++◌, take, length, refl, ap, ◌∙◌, sym, true, false, Bool, nat_eq, ◌||◌, if◌then◌else◌}
use Rattle.std.proofs.lemmas.Grind.{common_steps}
use Rattle.std.proofs.lemmas.Bool.Decides.{eqb_tells}
use Rattle.std.proofs.lemmas.List.{append-nil, append_assoc}
use Rattle.std.proofs.lemmas.List.Folds.{list_any-append}
use Rattle.std.proofs.Math.Bool.{or-false}
use Rattle.std.proofs.Math.Seq.{take-append_seam}
use Rattle.ground.specs.declared.place.Place.{Place}
use Rattle.rat_tree.specs.Syntax.{Command, Commands, NoCommand, AndCommand}
use Rattle.rat_tree.specs.Views.{labelled}
use Rattle.rat_check.specs.Parts.{Labels, with_label, target_of, with_labels, Part, parts_of, parts_in}
use Rattle.rat_check.specs.Survey.{is_among, adding_if, adding_all, Survey, noting, noting_all, reaching}

pub parts-labelled : (k : ℕ) (r : Labels) (l : Option ℕ) (p : Place) (c : Command) → parts_of k r None (labelled l p c) ≡ parts_of k r l c
parts-labelled k r None p c = refl
parts-labelled k r (Some l) p c = refl

pub noting-append : (xs ys : List Part) (s : Survey) → noting_all (xs ++ ys) s ≡ noting_all ys (noting_all xs s)
noting-append [] ys s = refl
noting-append (x ∷ xs) ys s = noting-append xs ys (noting s x)

pub noting-reach : (vs : List Part) (s : Survey) → (noting_all vs s).reach ≡ s.reach
noting-reach [] s = refl
noting-reach (v ∷ vs) s = noting-reach vs (noting s v)

pub noting-reaching : (vs : List Part) (r q : List ℕ) (s : Survey) → reaching r (noting_all vs (reaching q s)) ≡ noting_all vs (reaching r s)
noting-reaching [] r q s = refl
noting-reaching (v ∷ vs) r q s = noting-reaching vs r q (noting s v)

pub ruleset part_steps = (common_steps, parts-labelled, noting-append, noting-reach)

-- parts behind others, in the reach that all of them have
pub behind : (s s1 s2 : Survey) (vs : List Part) (f : Labels → List Part) → s1 ≡ noting_all vs s → s2 ≡ noting_all (f (is_among s1.reach)) s1 → s2 ≡ noting_all (vs ++ f (is_among s.reach)) s
behind s s1 s2 vs f first second =
    second ∙ ap (λ x. noting_all (f (is_among x.reach)) x) first
    ∙ ap (λ r. noting_all (f (is_among r)) (noting_all vs s)) (noting-reach vs s)
    ∙ sym (noting-append vs (f (is_among s.reach)) s)

-- labels are added to a list of them as to a set
module _ (l m : ℕ) (ls : List ℕ) where
  already : is_among ls l ≡ true → is_among ls m ≡ (nat_eq m l || is_among ls m)
  already is = by (eqb_tells m l)
    where
      by : ((nat_eq m l ≡ true) × (m ≡ l)) ⊎ ((nat_eq m l ≡ false) × (m ≢ l)) → is_among ls m ≡ (nat_eq m l || is_among ls m)
      by (inl (same, at)) = subst (λ x. is_among ls x ≡ true) (sym at) is ∙ sym (ap (λ b. b || is_among ls m) same)
      by (inr (other, at)) = sym (ap (λ b. b || is_among ls m) other)

  or_turned : (a b : Bool) → (a || b) ≡ (b || a)
  or_turned true true = refl
  or_turned true false = refl
  or_turned false true = refl
  or_turned false false = refl

  at_the_end : is_among (ls ++ l ∷ []) m ≡ (nat_eq m l || is_among ls m)
  at_the_end = list_any-append (nat_eq m) ls (l ∷ []) ∙ ap (λ b. is_among ls m || b) (or-false (nat_eq m l)) ∙ or_turned (is_among ls m) (nat_eq m l)

  either_way : (here : Bool) → here ≡ is_among ls l → is_among (if here then ls else (ls ++ l ∷ [])) m ≡ (nat_eq m l || is_among ls m)
  either_way true is = already (sym is)
  either_way false is = at_the_end

pub among_adding_if : (o : Option ℕ) (ls : List ℕ) → is_among (adding_if o ls) ≡ with_label o (is_among ls)
among_adding_if None ls i m = is_among ls m
among_adding_if (Some l) ls i m = either_way l m ls (is_among ls l) refl i

pub among_adding_all : (ss : Commands) (ls : List ℕ) → is_among (adding_all ss ls) ≡ with_labels ss (is_among ls)
among_adding_all NoCommand ls = refl
among_adding_all (AndCommand c ss) ls = among_adding_all ss (adding_if (target_of c) ls) ∙ ap (with_labels ss) (among_adding_if (target_of c) ls)

-- what is added stands at the end
adding_extends : (here : Bool) (l : ℕ) (ls : List ℕ) → (rest : List ℕ) × ((if here then ls else (ls ++ l ∷ [])) ≡ ls ++ rest)
adding_extends true l ls = ([], sym (append-nil ls))
adding_extends false l ls = (l ∷ [], refl)

adding_if_extends : (o : Option ℕ) (ls : List ℕ) → (rest : List ℕ) × (adding_if o ls ≡ ls ++ rest)
adding_if_extends None ls = ([], sym (append-nil ls))
adding_if_extends (Some l) ls = adding_extends (is_among ls l) l ls

adding_all_extends : (ss : Commands) (ls : List ℕ) → (rest : List ℕ) × (adding_all ss ls ≡ ls ++ rest)
adding_all_extends NoCommand ls = ([], sym (append-nil ls))
adding_all_extends (AndCommand c ss) ls =
    let one = adding_if_extends (target_of c) ls in
    let more = adding_all_extends ss (adding_if (target_of c) ls) in
    (one.0 ++ more.0, more.1 ∙ ap (λ xs. xs ++ more.0) one.1 ∙ append_assoc ls one.0 more.0)

pub left_again : (ss : Commands) (ls : List ℕ) → take (length ls) (adding_all ss ls) ≡ ls
left_again ss ls =
    let all = adding_all_extends ss ls in
    ap (take (length ls)) all.1 ∙ take-append_seam ls all.0

-- a list of statements, from the moment where its labels come in reach to that where they go
pub list_noted : (s s1 s2 s3 : Survey) (k : ℕ) (ss : Commands) (n : ℕ) → n ≡ length s.reach → s1 ≡ reaching (adding_all ss s.reach) s →
    s2 ≡ noting_all (parts_in k (is_among s1.reach) ss) s1 → s3 ≡ reaching (take n s2.reach) s2 → s3 ≡ noting_all (parts_in k (with_labels ss (is_among s.reach)) ss) s
list_noted s s1 s2 s3 k ss n count first second third =
    let inside = adding_all ss s.reach in
    let vs = parts_in k (with_labels ss (is_among s.reach)) ss in
    let noted : s2 ≡ noting_all vs (reaching inside s) =
    second ∙ ap (λ x. noting_all (parts_in k (is_among x.reach) ss) x) first ∙ ap (λ r. noting_all (parts_in k r ss) (reaching inside s)) (among_adding_all ss s.reach) in
    let reach : s2.reach ≡ inside = ap (λ x. x.reach) noted ∙ noting-reach vs (reaching inside s) in
    third ∙ ap (λ m. reaching (take m s2.reach) s2) count ∙ ap (λ q. reaching (take (length s.reach) q) s2) reach
    ∙ ap (λ q. reaching q s2) (left_again ss s.reach) ∙ ap (reaching s.reach) noted ∙ noting-reaching vs s.reach inside s
