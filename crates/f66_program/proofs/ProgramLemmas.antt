-- A program of units of which none is bad is not bad.
use Rattle.std.proofs.Common.{◌≡◌, ◌≤◌, ℕ, suc, List, [], ◌∷◌, cond, sym, refl, arith, inl, inr, subst, eqb}
use Rattle.std.proofs.lemmas.Bool.{eq-eqb, ne_eqb}
use Rattle.std.proofs.lemmas.Bool.{cases_eq}
use Rattle.std.proofs.lemmas.List.Elements.{All-nil, All-head, All-tail, All-contains, Contains-append_cases}
use Rattle.std.specs.List.{All, Contains}
use Rattle.f66_tree.specs.Syntax.{Routine}
use Rattle.f66_program.specs.Mentions.{context_of}
use Rattle.f66_program.specs.Association.{Tie, AreBad, IsBadUnit, not_filled, unit_ties, ties_from, ties_of}
use Rattle.f66_program.proofs.WholeLemmas.{whole_good}
use Rattle.f66_program.proofs.TieLemmas.{IsOwnTie, own_lines, bad_unit}
use Rattle.f66_program.proofs.Untied.{none_bad}

-- the ties of the unit with a number, where the first has the number s
ties_in : ℕ → List Routine → ℕ → List Tie
ties_in s [] u = []
ties_in s (r ∷ rs) u = cond (eqb u s) (unit_ties u r) (ties_in (suc s) rs u)

here : (s : ℕ) (r : Routine) (rs : List Routine) → ties_in s (r ∷ rs) s ≡ unit_ties s r
unfolding ties_in
here s r rs = (let e = eq-eqb s s refl in rw e refl)

past : (s : ℕ) (r : Routine) (rs : List Routine) (u : ℕ) → suc s ≤ u → ties_in s (r ∷ rs) u ≡ ties_in (suc s) rs u
unfolding ties_in
past s r rs u l = (let e = ne_eqb u s (λ e. omega (arith, e)) in rw e refl)

parts : (s : ℕ) (rs : List Routine) (t : Tie) → Contains (ties_from s rs) t → (u : ℕ) × (s ≤ u) × Contains (ties_in s rs u) t
parts s [] t c = absurd (omega (arith, c.1))
parts s (r ∷ rs) t c = elim (Contains-append_cases (unit_ties s r) (ties_from (suc s) rs) t c) [
  | inl h ↦ (s, omega arith, subst (λ ts. Contains ts t) (sym (here s r rs)) h)
  | inr h ↦ (let w = parts (suc s) rs t h in (w.0, omega (arith, w.1), subst (λ ts. Contains ts t) (sym (past s r rs w.0 w.1)) w.2))
]

owned : (s : ℕ) (rs : List Routine) (u : ℕ) → All (IsOwnTie u) (ties_in s rs u)
unfolding ties_in
owned s [] u = All-nil (IsOwnTie u)
owned s (r ∷ rs) u = elim (cases_eq u s) [
  | inl e ↦ (let t = eq-eqb u s e in rw t (own_lines u (context_of r) not_filled r.lines))
  | inr ne ↦ (let t = ne_eqb u s ne in rw t (owned (suc s) rs u))
]

good : (s : ℕ) (rs : List Routine) → All (λ r. ¬ IsBadUnit r) rs → (u : ℕ) → ¬ AreBad (ties_in s rs u)
unfolding ties_in
good s [] w u b = none_bad b
good s (r ∷ rs) w u b = elim (cases_eq u s) [
  | inl e ↦ (let t = eq-eqb u s e in All-head (λ r. ¬ IsBadUnit r) r rs w (bad_unit u r (rw t at b)))
  | inr ne ↦ (let t = ne_eqb u s ne in good (suc s) rs (All-tail (λ r. ¬ IsBadUnit r) r rs w) u (rw t at b))
]

pub well_together : (rs : List Routine) → All (λ r. ¬ IsBadUnit r) rs → ¬ AreBad (ties_of rs)
well_together rs w = whole_good (ties_in 0 rs) (good 0 rs w) (ties_of rs) (λ u t c. All-contains (IsOwnTie u) (ties_in 0 rs u) t (owned 0 rs u) c)
    (λ t c. (let p = parts 0 rs t c in (p.0, p.2)))
