-- By the places of each procedure as they are known, a program passes the limit where it does by the definition.
use Rattle.std.proofs.Common.{◌≡◌, ◌<◌, ◌≤◌, ℕ, suc, ◌+◌, nat_lt, Bool, true, false, List, [], ◌∷◌, Option, Some, unwrap_or, if◌then◌else◌, refl, sym, ap, subst, ◌∙◌, add-zero, zero-add, arith}
use Rattle.std.specs.List.{slice_get}
use Rattle.std.proofs.lemmas.Bool.Decides.{Decides-ltb}
use Rattle.ground.specs.declared.fault.Fault.{Fault}
use Rattle.efl_tree.specs.Syntax.{EflProcedure}
use Rattle.efl_scope.specs.Marks.{Located}
use Rattle.efl_types.specs.Storage.{unit_places, limit_at, passed_from}
use Rattle.efl_types.specs.Whole.{begins_at}
use Rattle.efl_storage.specs.Counted.{up_to_limit, passed_by}

-- whether the limit is passed is known, and up to the limit the number is right
still_passed : (before a : ℕ) → nat_lt 1000000 (before + a) ≡ true → nat_lt 1000000 (before + up_to_limit a) ≡ true
still_passed before a is =
    let past : 1000000 < before + a = (Decides-ltb 1000000 (before + a)).0 is in
    (Decides-ltb 1000000 (before + up_to_limit a)).1 (omega (arith, past))

still_within : (before a : ℕ) → nat_lt 1000000 (before + a) ≡ false → up_to_limit a ≡ a
still_within before a is = each (nat_lt 1000000 a) refl
  where
    each : (b : Bool) → nat_lt 1000000 a ≡ b → up_to_limit a ≡ a
    each true more = absurd (let past : 1000000 < a = (Decides-ltb 1000000 a).0 more in
        let all : nat_lt 1000000 (before + a) ≡ true = (Decides-ltb 1000000 (before + a)).1 (omega (arith, past)) in
        let d : true ≡ false = sym all ∙ is in cc)
    each false few = by_limit (few_at few)
      where
        few_at : nat_lt 1000000 a ≡ false → a ≤ 1000000
        few_at e = grind (arith, e)

        by_limit : a ≤ 1000000 → up_to_limit a ≡ a
        by_limit le = omega (arith, le)

module _ (all : List EflProcedure) (xs : List Located) (sums : List ℕ)
    (are : (n : ℕ) (u : EflProcedure) → slice_get all n ≡ Some u → slice_get sums n ≡ Some (up_to_limit (unit_places all xs n u))) where
  passed_is : (us : List EflProcedure) (n before : ℕ) → ((j : ℕ) (u : EflProcedure) → slice_get us j ≡ Some u → slice_get all (n + j) ≡ Some u) →
      passed_from all xs n before us ≡ passed_by sums n before us
  passed_is [] n before at = refl
  passed_is (u ∷ us) n before at = each (nat_lt 1000000 (before + a)) refl (passed_is us (n + 1) (before + a) behind)
    where
      a : ℕ
      a = unit_places all xs n u

      here : slice_get all n ≡ Some u
      here = subst (λ i. slice_get all i ≡ Some u) (add-zero n) (at 0 u refl)

      known : unwrap_or (slice_get sums n) 0 ≡ up_to_limit a
      known = ap (λ o. unwrap_or o 0) (are n u here)

      behind : (j : ℕ) (v : EflProcedure) → slice_get us j ≡ Some v → slice_get all ((n + 1) + j) ≡ Some v
      behind j v e = let same : n + suc j ≡ (n + 1) + j = omega arith in subst (λ i. slice_get all i ≡ Some v) same (at (suc j) v e)

      next : ℕ → Option Fault
      next sum = if nat_lt 1000000 sum then Some (limit_at (begins_at u.body u.finish)) else passed_by sums (n + 1) sum us

      each : (b : Bool) → nat_lt 1000000 (before + a) ≡ b → passed_from all xs (n + 1) (before + a) us ≡ passed_by sums (n + 1) (before + a) us →
          (if b then Some (limit_at (begins_at u.body u.finish)) else passed_from all xs (n + 1) (before + a) us) ≡ next (before + unwrap_or (slice_get sums n) 0)
      each true past rest = sym (ap (λ m. next (before + m)) known ∙ ap (λ b. if b then Some (limit_at (begins_at u.body u.finish)) else passed_by sums (n + 1) (before + up_to_limit a) us) (still_passed before a past))
      each false within rest =
          rest
          ∙ sym (ap (λ b. if b then Some (limit_at (begins_at u.body u.finish)) else passed_by sums (n + 1) (before + a) us) within)
          ∙ sym (ap (λ m. next (before + m)) (known ∙ still_within before a within))

  pub passed_all : passed_from all xs 0 0 all ≡ passed_by sums 0 0 all
  passed_all = passed_is all 0 0 (λ j u e. subst (λ i. slice_get all i ≡ Some u) (sym (zero-add j)) e)

-- ---- one procedure more ----

module _ (sums : List ℕ) (n before sum v : ℕ) (u : EflProcedure) (us : List EflProcedure) (is : v ≡ unwrap_or (slice_get sums n) 0) where
  pub passes_here : 1000000 < sum → sum ≤ before + v → Some (limit_at (begins_at u.body u.finish)) ≡ passed_by sums n before (u ∷ us)
  passes_here past le =
      let all : 1000000 < before + v = omega (arith, past, le) in
      let test : nat_lt 1000000 (before + unwrap_or (slice_get sums n) 0) ≡ true = subst (λ m. nat_lt 1000000 (before + m) ≡ true) is ((Decides-ltb 1000000 (before + v)).1 all) in
      sym (ap (λ b. if b then Some (limit_at (begins_at u.body u.finish)) else passed_by sums (n + 1) (before + unwrap_or (slice_get sums n) 0) us) test)

  pub passes_later : sum ≤ 1000000 → sum ≡ before + v → passed_by sums (n + 1) sum us ≡ passed_by sums n before (u ∷ us)
  passes_later le same = by (nat_lt 1000000 sum) refl
    where
      total : before + unwrap_or (slice_get sums n) 0 ≡ sum
      total = sym (same ∙ ap (λ m. before + m) is)

      by : (b : Bool) → nat_lt 1000000 sum ≡ b → passed_by sums (n + 1) sum us ≡ passed_by sums n before (u ∷ us)
      by true past = absurd (let more : 1000000 < sum = (Decides-ltb 1000000 sum).0 past in omega (arith, more, le))
      by false within =
          sym (ap (λ s. if nat_lt 1000000 s then Some (limit_at (begins_at u.body u.finish)) else passed_by sums (n + 1) s us) total
          ∙ ap (λ b. if b then Some (limit_at (begins_at u.body u.finish)) else passed_by sums (n + 1) sum us) within)
