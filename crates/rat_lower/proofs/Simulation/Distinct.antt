-- No label of a unit stands twice, where made labels rise, source labels differ, and none of them is made.
use Rattle.std.proofs.Common.{◌≡◌, ◌≢◌, subst, ℕ, zero, suc, ◌+◌, ◌≤◌, ◌<◌, Bool, true, false, refl, ap, ◌∙◌, arith, ⊎_elim}
use Rattle.std.specs.Prelude.{nat_eq}
use Rattle.std.proofs.lemmas.Bool.{cases_lt, eqb-true}
use Rattle.rat_tree.specs.Syntax.{Command, Empty, Block, If, IfElse, While, For, Repeat, RepeatUntil, Do, Switch, Break, Next, Return, Plain, Labelled, Commands, NoCommand, AndCommand, Clauses, NoClause, AndClause}
use Rattle.rat_lower.specs.Checked.{bit, given, all_given, clause_given}
use Rattle.rat_lower.specs.Code.{labels, all_labels, clause_labels}
use Rattle.rat_lower.proofs.Simulation.Counts.{heads, all_heads, clause_heads, dos, all_dos, clause_dos}

module _ (made : ℕ → ℕ) where
  -- whether a label is one of the k labels from n on
  abbrev pub span : ℕ → ℕ → ℕ → ℕ
  span l n zero = 0
  span l n (suc k) = bit (nat_eq (made n) l) + span l (suc n) k

  pub span-add : (l n a b : ℕ) → span l n (a + b) ≡ span l n a + span l (n + a) b
  span-add l n zero b =
      let e : 0 + b ≡ b = omega arith in
      let f : n ≡ n + 0 = omega arith in
      let g : span l (n + 0) b ≡ 0 + span l (n + 0) b = omega arith in
      ap (λ k. span l n k) e ∙ ap (λ k. span l k b) f ∙ g
  span-add l n (suc a) b =
      let e : suc a + b ≡ suc (a + b) = omega arith in
      let f : suc n + a ≡ n + suc a = omega arith in
      let g : bit (nat_eq (made n) l) + span l (suc n) (a + b) ≡ bit (nat_eq (made n) l) + span l (suc n) a + span l (suc n + a) b = omega (arith, span-add l (suc n) a b) in
      ap (λ k. span l n k) e ∙ g ∙ ap (λ k. bit (nat_eq (made n) l) + span l (suc n) a + span l k b) f

  pub span-one : (l n k : ℕ) → span l n (k + 1) ≡ bit (nat_eq (made n) l) + span l (n + 1) k
  span-one l n k =
      let e : k + 1 ≡ suc k = omega arith in
      let f : suc n ≡ n + 1 = omega arith in
      ap (λ m. span l n m) e ∙ ap (λ m. bit (nat_eq (made n) l) + span l m k) f

  pub span-two : (l n k : ℕ) → span l n (k + 2) ≡ bit (nat_eq (made n) l) + (bit (nat_eq (made (n + 1)) l) + span l (n + 2) k)
  span-two l n k =
      let e : k + 2 ≡ k + 1 + 1 = omega arith in
      let f : n + 1 + 1 ≡ n + 2 = omega arith in
      ap (λ m. span l n m) e ∙ span-one l n (k + 1) ∙ ap (λ m. bit (nat_eq (made n) l) + m) (span-one l (n + 1) k ∙ ap (λ m. bit (nat_eq (made (n + 1)) l) + span l m k) f)

  pub span-three : (l n k : ℕ) → span l n (k + 3) ≡ bit (nat_eq (made n) l) + (bit (nat_eq (made (n + 1)) l) + (bit (nat_eq (made (n + 2)) l) + span l (n + 3) k))
  span-three l n k =
      let e : k + 3 ≡ k + 1 + 2 = omega arith in
      let f : n + 2 + 1 ≡ n + 3 = omega arith in
      ap (λ m. span l n m) e ∙ span-two l n (k + 1) ∙ ap (λ m. bit (nat_eq (made n) l) + (bit (nat_eq (made (n + 1)) l) + m)) (span-one l (n + 2) k ∙ ap (λ m. bit (nat_eq (made (n + 2)) l) + span l m k) f)

  mutual
    count : (l : ℕ) (s : Command) (n : ℕ) → heads made l s n + dos made l s n ≡ given l s + span l n (labels s)
    count l (Empty p) n = omega arith
    count l (Block p ss) n = count-all l ss n
    count l (If p e s) n = omega (arith, span-one l n (labels s), count l s (n + 1))
    count l (IfElse p e s t) n = omega (arith, count l s (n + 2), count l t (n + 2 + labels s), span-add l (n + 2) (labels s) (labels t), span-two l n (labels s + labels t))
    count l (While p e s) n = omega (arith, span-three l n (labels s), count l s (n + 3))
    count l (For p first e step s) n = omega (arith, span-three l n (labels s), count l s (n + 3))
    count l (Repeat p s) n = omega (arith, span-three l n (labels s), count l s (n + 3))
    count l (RepeatUntil p s e q) n = omega (arith, span-three l n (labels s), count l s (n + 3))
    count l (Do p x a b c s) n = omega (arith, span-two l n (labels s), count l s (n + 2))
    count l (Switch p e cs) n = omega (arith, span-one l n (clause_labels cs), count-clauses l cs (n + 1))
    count l (Break p k) n = omega arith
    count l (Next p k) n = omega arith
    count l (Return p e) n = omega arith
    count l (Plain m p a) n = omega arith
    count l (Labelled m p s) n = omega (arith, count l s n)

    pub count-all : (l : ℕ) (ss : Commands) (n : ℕ) → all_heads made l ss n + all_dos made l ss n ≡ all_given l ss + span l n (all_labels ss)
    count-all l NoCommand n = omega arith
    count-all l (AndCommand s ss) n = omega (arith, count l s n, count-all l ss (n + labels s), span-add l n (labels s) (all_labels ss))

    count-clauses : (l : ℕ) (cs : Clauses) (m : ℕ) → clause_heads made l cs m + clause_dos made l cs m ≡ clause_given l cs + span l m (clause_labels cs)
    count-clauses l NoClause m = omega arith
    count-clauses l (AndClause es d ss p cs) m =
        let e : m + (all_labels ss + 1) ≡ m + 1 + all_labels ss = omega arith in
        omega (arith, count-all l ss (m + 1), count-clauses l cs (m + 1 + all_labels ss), span-add l m (all_labels ss + 1) (clause_labels cs), span-one l m (all_labels ss), ap (λ k. span l k (clause_labels cs)) e)

  -- made labels differ, so each stands at most once
  span-NoCommand : (l n k : ℕ) → ((i : ℕ) → n ≤ i → made i ≢ l) → span l n k ≡ 0
  span-NoCommand l n zero other = refl
  span-NoCommand l n (suc k) other = go (nat_eq (made n) l) refl (span-NoCommand l (suc n) k (λ i le. other i (omega arith)))
    where
      go : (b : Bool) → nat_eq (made n) l ≡ b → span l (suc n) k ≡ 0 → bit (nat_eq (made n) l) + span l (suc n) k ≡ 0
      go true e h = absurd (other n (omega arith) (eqb-true (made n) l e))
      go false e h = omega (arith, ap bit e)

  span-most : (rises : (i j : ℕ) → i < j → made i < made j) (l n k : ℕ) → span l n k ≤ 1
  span-most rises l n zero = omega arith
  span-most rises l n (suc k) = go (nat_eq (made n) l) refl (span-most rises l (suc n) k)
    where
      go : (b : Bool) → nat_eq (made n) l ≡ b → span l (suc n) k ≤ 1 → bit (nat_eq (made n) l) + span l (suc n) k ≤ 1
      go true e h =
          let same = eqb-true (made n) l e in
          let later : (i : ℕ) → suc n ≤ i → made i ≢ l = λ i le q. absurd (omega (arith, rises n i le)) in
          omega (arith, ap bit e, span-NoCommand l (suc n) k later)
      go false e h = omega (arith, ap bit e)

  -- a label of the source is no made one
  span-given : (l n k : ℕ) (g : ℕ) → ((i : ℕ) → made i ≡ l → g ≡ 0) → (1 ≤ g) → span l n k ≡ 0
  span-given l n k g other le = span-NoCommand l n k (λ i _ e. absurd (omega (arith, other i e)))

  pub distinct : (rises : (i j : ℕ) → i < j → made i < made j) (ss : Commands) → ((i : ℕ) → all_given (made i) ss ≡ 0) → ((l : ℕ) → all_given l ss ≤ 1) → (l : ℕ) → all_heads made l ss 0 + all_dos made l ss 0 ≤ 1
  distinct rises ss fresh once l =
      ⊎_elim
      (λ (lt : all_given l ss < 1). omega (arith, count-all l ss 0, span-most rises l 0 (all_labels ss)))
      (λ (le : 1 ≤ all_given l ss). omega (arith, count-all l ss 0, once l, span-given l 0 (all_labels ss) (all_given l ss) (λ i e. subst (λ m. all_given m ss ≡ 0) e (fresh i)) le))
      (cases_lt (all_given l ss) 1)

  -- one of the k labels from n on
  pub record Made (l n k : ℕ) : Type 0 where
    pub index : ℕ
    pub below : index < n + k
    pub is : made index ≡ l

  pub span_made : (l n k : ℕ) → 1 ≤ span l n k → Made l n k
  span_made l n zero h = absurd (omega (arith, h))
  span_made l n (suc k) h = by (nat_eq (made n) l) refl (span_made l (suc n) k)
    where
      by : (b : Bool) → nat_eq (made n) l ≡ b → (1 ≤ span l (suc n) k → Made l (suc n) k) → Made l n (suc k)
      by true e later = record { index = n; below = omega arith; is = eqb-true (made n) l e }
      by false e later =
          let rest : Made l (suc n) k = later (omega (arith, h, ap bit e)) in
          record { index = rest.index; below = omega (arith, rest.below); is = rest.is }
