-- Weights of labels, added over the parts of one procedure.
use Rattle.std.proofs.Common.{◌≡◌, ℕ, zero, suc, ◌+◌, ◌≤◌, Bool, true, false, List, [], ◌∷◌, ◌++◌, Some, refl, sym, ap, ◌∙◌, subst, arith, if◌then◌else◌}
use Rattle.std.specs.Prelude.{nat_eq}
use Rattle.std.specs.List.{slice_get}
use Rattle.std.proofs.lemmas.Bool.{eq-eqb}
use Rattle.std.proofs.lemmas.Option.{none-some, same_Some}
use Rattle.f66_tree.specs.Syntax.{Text}
use Rattle.efl_tree.specs.Syntax.{EflProcedure}
use Rattle.efl_scope.specs.Parts.{Part, parts_by, parts_from}
use Rattle.efl_scope.specs.ScopeRules.{labels_of}

abbrev pub total : (Text → ℕ) → List Text → ℕ
total w [] = 0
total w (x ∷ xs) = w x + total w xs

pub total_joined : (w : Text → ℕ) (xs ys : List Text) → total w (xs ++ ys) ≡ total w xs + total w ys
total_joined w [] ys = omega arith
total_joined w (x ∷ xs) ys = let e = total_joined w xs ys in omega (e, arith)

-- of the procedure with this number
abbrev pub in_part : (Text → ℕ) → ℕ → Part → ℕ
in_part w n v = if nat_eq n v.around.unit then total w (labels_of v.form) else 0

abbrev pub in_parts : (Text → ℕ) → ℕ → List Part → ℕ
in_parts w n [] = 0
in_parts w n (v ∷ vs) = in_part w n v + in_parts w n vs

pub own_part : (w : Text → ℕ) (n : ℕ) (v : Part) → v.around.unit ≡ n → in_part w n v ≡ total w (labels_of v.form)
own_part w n v same = ap (λ b. if b then total w (labels_of v.form) else 0) (eq-eqb n v.around.unit (sym same))

pub parts_joined : (w : Text → ℕ) (n : ℕ) (xs ys : List Part) → in_parts w n (xs ++ ys) ≡ in_parts w n xs + in_parts w n ys
parts_joined w n [] ys = omega arith
parts_joined w n (x ∷ xs) ys = let e = parts_joined w n xs ys in omega (e, arith)

-- those of one procedure are among all
within_all : (w : Text → ℕ) (n k i : ℕ) (us : List EflProcedure) (u : EflProcedure) → slice_get us i ≡ Some u → in_parts w n (parts_by (k + i) u) ≤ in_parts w n (parts_from k us)
within_all w n k i [] u e = absurd (none-some u e)
within_all w n k zero (x ∷ us) u e =
    let first : in_parts w n (parts_by (k + 0) u) ≡ in_parts w n (parts_by k x) = let z : k + 0 ≡ k = omega arith in ap (λ m. in_parts w n (parts_by m u)) z ∙ ap (λ y. in_parts w n (parts_by k y)) (sym (same_Some x u e)) in
    let both = parts_joined w n (parts_by k x) (parts_from (k + 1) us) in omega (first, both, arith)
within_all w n k (suc i) (x ∷ us) u e =
    let later = within_all w n (k + 1) i us u e in
    let here : in_parts w n (parts_by (k + 1 + i) u) ≡ in_parts w n (parts_by (k + suc i) u) = let z : k + 1 + i ≡ k + suc i = omega arith in ap (λ m. in_parts w n (parts_by m u)) z in
    let both = parts_joined w n (parts_by k x) (parts_from (k + 1) us) in omega (later, here, both, arith)

pub one_within : (w : Text → ℕ) (n i : ℕ) (us : List EflProcedure) (u : EflProcedure) → slice_get us i ≡ Some u → in_parts w n (parts_by i u) ≤ in_parts w n (parts_from 0 us)
one_within w n i us u e = let z : 0 + i ≡ i = omega arith in subst (λ m. in_parts w n (parts_by m u) ≤ in_parts w n (parts_from 0 us)) z (within_all w n 0 i us u e)

-- where each weighs nothing
pub nothing_weighs : (n : ℕ) (vs : List Part) → in_parts (λ x. 0) n vs ≡ 0
nothing_weighs n [] = refl
nothing_weighs n (v ∷ vs) = let e = nothing_weighs n vs in let f = by_unit (nat_eq n v.around.unit) in omega (e, f, arith)
  where
    none : (xs : List Text) → total (λ x. 0) xs ≡ 0
    none [] = refl
    none (x ∷ xs) = let e = none xs in omega (e, arith)

    by_unit : (b : Bool) → (if b then total (λ x. 0) (labels_of v.form) else 0) ≡ 0
    by_unit true = none (labels_of v.form)
    by_unit false = refl
