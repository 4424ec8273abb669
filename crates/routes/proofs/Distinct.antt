-- How often a label stands in the lines of routes: as often as in the source, and once more where it is made. So none stands twice.
use Rattle.std.proofs.Common.{◌≡◌, ◌≢◌, subst, ℕ, zero, suc, ◌+◌, ◌≤◌, ◌<◌, Bool, true, false, List, [], ◌∷◌, ◌++◌, refl, ap, ◌∙◌, arith, ⊎_elim}
use Rattle.std.specs.Prelude.{nat_eq}
use Rattle.std.proofs.lemmas.Bool.{cases_lt, eqb-true}
use Rattle.f66_tree.specs.Syntax.{Line}
use Rattle.f66_tree.specs.Execution.{has_label}
use Rattle.routes.specs.Routes.{Route, Plain, BreakIf, Break, Ring, Cycle, Block, InTurn, Labelled, Transfer, Routes, NoRoute, AndRoute}
use Rattle.routes.specs.Code.{Behind, jump, here, labels, all_labels, code_of, all_code}
use Rattle.routes.specs.Numbered.{bit, given, all_given, IsNumbered}
use Rattle.routes.specs.PlacedUnit.{AreDeclarations, AreUnlabelled}

pub same_number : (n : ℕ) → nat_eq n n ≡ true
same_number n = grind arith

-- how often a label stands in a list of statements
abbrev pub occurs : ℕ → List Line → ℕ
occurs l [] = 0
occurs l (s ∷ rest) = bit (has_label l s.label) + occurs l rest

-- no label stands twice
abbrev pub AreUnique : List Line → Type 0
AreUnique code = (l : ℕ) → occurs l code ≤ 1

pub occurs_append : (l : ℕ) (a b : List Line) → occurs l (a ++ b) ≡ occurs l a + occurs l b
occurs_append l [] b = omega arith
occurs_append l (s ∷ a) b = omega (arith, occurs_append l a b)

occurs_declared : (l : ℕ) (before : List Line) → AreDeclarations before → occurs l before ≡ 0
occurs_declared l [] is = refl
occurs_declared l (s ∷ rest) is = omega (arith, ap (λ o. bit (has_label l o)) is.0, occurs_declared l rest is.2)

occurs_unlabelled : (l : ℕ) (next : List Line) → AreUnlabelled next → occurs l next ≡ 0
occurs_unlabelled l [] is = refl
occurs_unlabelled l (s ∷ rest) is = omega (arith, ap (λ o. bit (has_label l o)) is.0, occurs_unlabelled l rest is.2)

module _ (made : ℕ → ℕ) where
  -- how many of the k labels that are made from n on are this one
  abbrev span : ℕ → ℕ → ℕ → ℕ
  span l n zero = 0
  span l n (suc k) = bit (nat_eq (made n) l) + span l (suc n) k

  span_add : (l n a b : ℕ) → span l n (a + b) ≡ span l n a + span l (n + a) b
  span_add l n zero b =
      let e : 0 + b ≡ b = omega arith in
      let f : n ≡ n + 0 = omega arith in
      let g : span l (n + 0) b ≡ 0 + span l (n + 0) b = omega arith in
      ap (λ k. span l n k) e ∙ ap (λ k. span l k b) f ∙ g
  span_add l n (suc a) b =
      let e : suc a + b ≡ suc (a + b) = omega arith in
      let f : suc n + a ≡ n + suc a = omega arith in
      let g : bit (nat_eq (made n) l) + span l (suc n) (a + b) ≡ bit (nat_eq (made n) l) + span l (suc n) a + span l (suc n + a) b = omega (arith, span_add l (suc n) a b) in
      ap (λ k. span l n k) e ∙ g ∙ ap (λ k. bit (nat_eq (made n) l) + span l (suc n) a + span l k b) f

  span_one : (l n k : ℕ) → span l n (k + 1) ≡ bit (nat_eq (made n) l) + span l (n + 1) k
  span_one l n k =
      let e : k + 1 ≡ suc k = omega arith in
      let f : suc n ≡ n + 1 = omega arith in
      ap (λ m. span l n m) e ∙ ap (λ m. bit (nat_eq (made n) l) + span l m k) f

  span_two : (l n k : ℕ) → span l n (k + 2) ≡ bit (nat_eq (made n) l) + (bit (nat_eq (made (n + 1)) l) + span l (n + 2) k)
  span_two l n k =
      let e : k + 2 ≡ k + 1 + 1 = omega arith in
      let f : n + 1 + 1 ≡ n + 2 = omega arith in
      ap (λ m. span l n m) e ∙ span_one l n (k + 1) ∙ ap (λ m. bit (nat_eq (made n) l) + m) (span_one l (n + 1) k ∙ ap (λ m. bit (nat_eq (made (n + 1)) l) + span l m k) f)

  mutual
    occurs_route : (l : ℕ) (r : Route) (n : ℕ) (ls : Behind) (next : List Line) → occurs l (code_of made r n ls next) ≡ given l r + span l n (labels r) + occurs l next
    occurs_route l (Plain p a) n ls next = omega arith
    occurs_route l (BreakIf p e k) n ls next = omega arith
    occurs_route l (Break p k) n ls next = omega arith
    occurs_route l (Ring p rs) n ls next = omega (arith, span_one l n (all_labels rs), occurs_all l rs (n + 1) (made n ∷ ls) (here (made n) p ∷ next))
    occurs_route l (Cycle p top rest) n ls next =
        let out = jump p (made n) ∷ here (made (n + 1)) p ∷ next in
        let second = all_code made rest (n + 2 + all_labels top) (made (n + 1) ∷ ls) out in
        omega (arith, span_two l n (all_labels top + all_labels rest), span_add l (n + 2) (all_labels top) (all_labels rest), occurs_all l top (n + 2) (made (n + 1) ∷ ls) second, occurs_all l rest (n + 2 + all_labels top) (made (n + 1) ∷ ls) out)
    occurs_route l (Block rs) n ls next = occurs_all l rs n ls next
    occurs_route l (InTurn rs) n ls next = occurs_all l rs n ls next
    occurs_route l (Labelled m p r) n ls next = omega (arith, occurs_route l r n ls next)
    occurs_route l (Transfer p way u fs es) n ls next = omega arith

    occurs_all : (l : ℕ) (rs : Routes) (n : ℕ) (ls : Behind) (next : List Line) → occurs l (all_code made rs n ls next) ≡ all_given l rs + span l n (all_labels rs) + occurs l next
    occurs_all l NoRoute n ls next = omega arith
    occurs_all l (AndRoute r rs) n ls next =
        omega (arith, occurs_route l r n ls (all_code made rs (n + labels r) ls next), occurs_all l rs (n + labels r) ls next, span_add l n (labels r) (all_labels rs))

  -- made labels differ, so each stands at most once
  span_none : (l n k : ℕ) → ((i : ℕ) → n ≤ i → made i ≢ l) → span l n k ≡ 0
  span_none l n zero other = refl
  span_none l n (suc k) other = go (nat_eq (made n) l) refl (span_none l (suc n) k (λ i le. other i (omega arith)))
    where
      go : (b : Bool) → nat_eq (made n) l ≡ b → span l (suc n) k ≡ 0 → bit (nat_eq (made n) l) + span l (suc n) k ≡ 0
      go true e h = absurd (other n (omega arith) (eqb-true (made n) l e))
      go false e h = omega (arith, ap bit e)

  span_most : (rises : (i j : ℕ) → i < j → made i < made j) (l n k : ℕ) → span l n k ≤ 1
  span_most rises l n zero = omega arith
  span_most rises l n (suc k) = go (nat_eq (made n) l) refl (span_most rises l (suc n) k)
    where
      go : (b : Bool) → nat_eq (made n) l ≡ b → span l (suc n) k ≤ 1 → bit (nat_eq (made n) l) + span l (suc n) k ≤ 1
      go true e h =
          let same = eqb-true (made n) l e in
          let later : (i : ℕ) → suc n ≤ i → made i ≢ l = λ i le q. absurd (omega (arith, rises n i le)) in
          omega (arith, ap bit e, span_none l (suc n) k later)
      go false e h = omega (arith, ap bit e)

  -- a label of the source is no made one
  span_given : (rs : Routes) (l n k : ℕ) → IsNumbered made rs → 1 ≤ all_given l rs → span l n k ≡ 0
  span_given rs l n k ok le = span_none l n k (λ i _ e. absurd (omega (arith, le, subst (λ m. all_given m rs ≡ 0) e (ok.unused i))))

  at_most_one : (rs : Routes) (l k : ℕ) → IsNumbered made rs → all_given l rs + span l 0 k ≤ 1
  at_most_one rs l k ok =
      ⊎_elim (λ (lt : all_given l rs < 1). omega (arith, lt, span_most ok.rises l 0 k)) (λ (le : 1 ≤ all_given l rs). omega (arith, ok.once l, span_given rs l 0 k ok le)) (cases_lt (all_given l rs) 1)

  -- no label of a unit stands twice
  pub distinct : (rs : Routes) (before next : List Line) → IsNumbered made rs → AreDeclarations before → AreUnlabelled next → AreUnique (before ++ all_code made rs 0 [] next)
  distinct rs before next ok declared unlabelled l =
      omega (arith, occurs_append l before (all_code made rs 0 [] next), occurs_declared l before declared, occurs_all l rs 0 [] next, occurs_unlabelled l next unlabelled, at_most_one rs l (all_labels rs) ok)
