-- Which lines stand in those of routes: each label of the source, and what comes next. No label of a unit stands at two places.
use Rattle.std.proofs.Common.{◌≡◌, ℕ, zero, suc, ◌+◌, ◌≤◌, Bool, true, false, List, [], ◌∷◌, ◌++◌, Option, Some, refl, ap, ◌∙◌, arith, ◌⊎◌, inl, inr}
use Rattle.std.specs.Prelude.{nat_eq}
use Rattle.std.specs.List.{slice_get}
use Rattle.std.proofs.lemmas.Bool.{eqb-true}
use Rattle.std.proofs.lemmas.Option.{none-some, same_Some}
use Rattle.ground.specs.declared.place.Place.{Place}
use Rattle.f66_tree.specs.Syntax.{Format, Line, labelled_line}
use Rattle.f66_tree.specs.Execution.{has_label}
use Rattle.routes.specs.Routes.{Route, Plain, BreakIf, Break, Ring, Cycle, Block, InTurn, Labelled, Transfer, Routes, NoRoute, AndRoute}
use Rattle.routes.specs.Code.{Behind, jump, here, labels, all_labels, code_of, all_code}
use Rattle.routes.specs.Numbered.{bit, given, all_given}
use Rattle.routes.proofs.Distinct.{same_number, occurs}

-- a line of a list
abbrev pub Has : List Line → Line → Type 0
Has lines s = (j : ℕ) × (slice_get lines j ≡ Some s)

-- each line of one list is one of another
abbrev pub Within : List Line → List Line → Type 0
Within a b = (s : Line) → Has a s → Has b s

pub in_rest : (t : Line) (a : List Line) → Within a (t ∷ a)
in_rest t a s h = (suc h.0, h.1)

pub behind_others : (a b : List Line) → Within b (a ++ b)
behind_others [] b s h = h
behind_others (t ∷ a) b s h = in_rest t (a ++ b) s (behind_others a b s h)

-- ---- a label that stands once ----

counted : (l : ℕ) (o : Option ℕ) → o ≡ Some l → bit (has_label l o) ≡ 1
counted l o e = ap (λ q. bit (has_label l q)) e ∙ ap bit (same_number l)

occurs_at : (l : ℕ) (lines : List Line) (i : ℕ) (s : Line) → slice_get lines i ≡ Some s → s.label ≡ Some l → 1 ≤ occurs l lines
occurs_at l [] i s e h = absurd (none-some s e)
occurs_at l (t ∷ lines) zero s e h = omega (arith, counted l t.label (ap (λ q. q.label) (same_Some t s e) ∙ h))
occurs_at l (t ∷ lines) (suc i) s e h = omega (arith, occurs_at l lines i s e h)

pub one_place : (l : ℕ) (lines : List Line) (i j : ℕ) (s t : Line) → occurs l lines ≤ 1 → slice_get lines i ≡ Some s → slice_get lines j ≡ Some t → s.label ≡ Some l → t.label ≡ Some l → i ≡ j
one_place l [] i j s t once e f h k = absurd (none-some s e)
one_place l (q ∷ lines) zero zero s t once e f h k = refl
one_place l (q ∷ lines) zero (suc j) s t once e f h k =
    absurd (omega (arith, once, counted l q.label (ap (λ r. r.label) (same_Some q s e) ∙ h), occurs_at l lines j t f k))
one_place l (q ∷ lines) (suc i) zero s t once e f h k =
    absurd (omega (arith, once, counted l q.label (ap (λ r. r.label) (same_Some q t f) ∙ k), occurs_at l lines i s e h))
one_place l (q ∷ lines) (suc i) (suc j) s t once e f h k = ap suc (one_place l lines i j s t (omega (arith, once)) e f h k)

-- ---- the lines of routes ----

either_given : (a b : ℕ) → 1 ≤ a + b → (1 ≤ a) ⊎ (1 ≤ b)
either_given zero b h = inr (omega (arith, h))
either_given (suc a) b h = inl (omega arith)

bit_is : (m l : ℕ) (b : Bool) → nat_eq m l ≡ b → 1 ≤ bit b → m ≡ l
bit_is m l true e h = eqb-true m l e
bit_is m l false e h = absurd (omega (arith, h))

module _ (made : ℕ → ℕ) where
  -- what comes next is among them
  mutual
    pub next_of_route : (r : Route) (n : ℕ) (ls : Behind) (next : List Line) → Within next (code_of made r n ls next)
    next_of_route (Plain p a) n ls next s h = in_rest _ next s h
    next_of_route (BreakIf p e k) n ls next s h = in_rest _ next s h
    next_of_route (Break p k) n ls next s h = in_rest _ next s h
    next_of_route (Ring p rs) n ls next s h = next_of_all rs (n + 1) (made n ∷ ls) (here (made n) p ∷ next) s (in_rest _ next s h)
    next_of_route (Cycle p top rest) n ls next s h =
        let out = jump p (made n) ∷ here (made (n + 1)) p ∷ next in
        let second = all_code made rest (n + 2 + all_labels top) (made (n + 1) ∷ ls) out in
        in_rest _ _ s
        (next_of_all top (n + 2) (made (n + 1) ∷ ls) second s
        (next_of_all rest (n + 2 + all_labels top) (made (n + 1) ∷ ls) out s (in_rest _ (here (made (n + 1)) p ∷ next) s (in_rest _ next s h))))
    next_of_route (Block rs) n ls next s h = next_of_all rs n ls next s h
    next_of_route (InTurn rs) n ls next s h = next_of_all rs n ls next s h
    next_of_route (Labelled m p r) n ls next s h = in_rest _ _ s (next_of_route r n ls next s h)
    next_of_route (Transfer p way u fs es) n ls next s h = in_rest _ (labelled_line (made n) p (Format fs) ∷ next) s (in_rest (labelled_line (made n) p (Format fs)) next s h)

    pub next_of_all : (rs : Routes) (n : ℕ) (ls : Behind) (next : List Line) → Within next (all_code made rs n ls next)
    next_of_all NoRoute n ls next s h = h
    next_of_all (AndRoute r rs) n ls next s h = next_of_route r n ls (all_code made rs (n + labels r) ls next) s (next_of_all rs (n + labels r) ls next s h)

  -- each label of the source has a CONTINUE
  abbrev pub Stands : ℕ → List Line → Type 0
  Stands l lines = (p : Place) × Has lines (here l p)

  pub stands_in : (l : ℕ) (a b : List Line) → Within a b → Stands l a → Stands l b
  stands_in l a b within h = (h.0, within (here l h.0) h.1)

  mutual
    route_stands : (l : ℕ) (r : Route) (n : ℕ) (ls : Behind) (next : List Line) → 1 ≤ given l r → Stands l (code_of made r n ls next)
    route_stands l (Plain p a) n ls next h = absurd (omega (arith, h))
    route_stands l (BreakIf p e k) n ls next h = absurd (omega (arith, h))
    route_stands l (Break p k) n ls next h = absurd (omega (arith, h))
    route_stands l (Ring p rs) n ls next h = all_stand l rs (n + 1) (made n ∷ ls) (here (made n) p ∷ next) h
    route_stands l (Cycle p top rest) n ls next h =
        let out = jump p (made n) ∷ here (made (n + 1)) p ∷ next in
        let second = all_code made rest (n + 2 + all_labels top) (made (n + 1) ∷ ls) out in
        let both = all_code made top (n + 2) (made (n + 1) ∷ ls) second in
        stands_in l both (here (made n) p ∷ both) (in_rest (here (made n) p) both) (elim (either_given (all_given l top) (all_given l rest) h) [
          | inl k ↦ all_stand l top (n + 2) (made (n + 1) ∷ ls) second k
          | inr k ↦ stands_in l second both (next_of_all top (n + 2) (made (n + 1) ∷ ls) second) (all_stand l rest (n + 2 + all_labels top) (made (n + 1) ∷ ls) out k)
        ])
    route_stands l (Block rs) n ls next h = all_stand l rs n ls next h
    route_stands l (InTurn rs) n ls next h = all_stand l rs n ls next h
    route_stands l (Labelled m p r) n ls next h = elim (either_given (bit (nat_eq m l)) (given l r) h) [
      | inl k ↦ (p, (0, ap (λ q. Some (here q p)) (bit_is m l (nat_eq m l) refl k)))
      | inr k ↦ stands_in l (code_of made r n ls next) (here m p ∷ code_of made r n ls next) (in_rest (here m p) (code_of made r n ls next)) (route_stands l r n ls next k)
    ]
    route_stands l (Transfer p way u fs es) n ls next h = absurd (omega (arith, h))

    pub all_stand : (l : ℕ) (rs : Routes) (n : ℕ) (ls : Behind) (next : List Line) → 1 ≤ all_given l rs → Stands l (all_code made rs n ls next)
    all_stand l NoRoute n ls next h = absurd (omega (arith, h))
    all_stand l (AndRoute r rs) n ls next h =
        let rest = all_code made rs (n + labels r) ls next in
        elim (either_given (given l r) (all_given l rs) h) [
          | inl k ↦ route_stands l r n ls rest k
          | inr k ↦ stands_in l rest (code_of made r n ls rest) (next_of_route r n ls rest) (all_stand l rs (n + labels r) ls next k)
        ]
