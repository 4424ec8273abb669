-- What is known behind variables one behind the other, and behind one more.
use Rattle.std.proofs.Common.{◌≡◌, ◌<◌, ℕ, zero, suc, ◌+◌, length, not, nat_eq, Bool, true, false, List, [], ◌∷◌, ◌++◌, Some, if◌then◌else◌, refl, sym, ap, subst, ◌∙◌, arith}
use Rattle.std.specs.Prelude.{filter, sum_by, option_map, replicate}
use Rattle.std.specs.List.{list_any, slice_get}
use Rattle.std.proofs.lemmas.Grind.{common_steps}
use Rattle.std.proofs.lemmas.Bool.Decides.{Decides-eqb}
use Rattle.std.proofs.lemmas.List.Elements.{filter-append}
use Rattle.std.proofs.lemmas.List.Sums.{sum_by-append}
use Rattle.std.proofs.lemmas.Option.{slice_get_within}
use Rattle.efl_tree.specs.Syntax.{EflProcedure}
use Rattle.efl_scope.specs.Marks.{Located, same_located, distinct}
use Rattle.efl_types.specs.Storage.{counted, counts_in, unit_places}
use Rattle.efl_variables.specs.declared.variables.Variables.{Variables}
use Rattle.efl_variables.specs.Numbered.{AreVariables, with_one}
use Rattle.efl_variables.proofs.DistinctLemmas.{distinct_one}
use Rattle.efl_storage.specs.Counted.{up_to_limit, Counts, value_of, AreItsPlaces, AddsPlaces}

-- ---- places ----

units_append : (us : List EflProcedure) (xs ys : List Located) (n : ℕ) (u : EflProcedure) → unit_places us (xs ++ ys) n u ≡ unit_places us xs n u + unit_places us ys n u
units_append us xs ys n u =
    ap (λ zs. sum_by (λ x. counted x.variable.kind) zs) (filter-append (counts_in us n u) xs ys)
    ∙ sum_by-append (λ x. counted x.variable.kind) (filter (counts_in us n u) xs) (filter (counts_in us n u) ys)

units_one : (us : List EflProcedure) (x : Located) (n : ℕ) (u : EflProcedure) → unit_places us (x ∷ []) n u ≡ value_of us n u x
units_one us x n u = each (counts_in us n u x)
  where
    each : (b : Bool) → sum_by (λ y. counted y.variable.kind) (if b then x ∷ [] else []) ≡ (if b then counted x.variable.kind else 0)
    each true = grind arith
    each false = refl

limit_twice : (a b : ℕ) → up_to_limit (up_to_limit a + b) ≡ up_to_limit (a + b)
limit_twice a b = omega arith

module _ (us : List EflProcedure) (xs : List Located) (x : Located) (many : ℕ) (old new : List ℕ) (its : AreItsPlaces us x many) (adds : AddsPlaces old x.unit many new)
    (is_new : list_any (same_located x) (distinct [] xs) ≡ false) (n : ℕ) (u : EflProcedure) (at : slice_get us n ≡ Some u) (was : slice_get old n ≡ Some (up_to_limit (unit_places us (distinct [] xs) n u))) where
  more_all : unit_places us (distinct [] (xs ++ x ∷ [])) n u ≡ unit_places us (distinct [] xs) n u + value_of us n u x
  more_all =
      ap (λ ys. unit_places us ys n u) (distinct_one xs x ∙ ap (λ b. if b then distinct [] xs else distinct [] xs ++ x ∷ []) is_new)
      ∙ units_append us (distinct [] xs) (x ∷ []) n u ∙ ap (λ m. unit_places us (distinct [] xs) n u + m) (units_one us x n u)

  abbrev so_far : ℕ
  so_far = unit_places us (distinct [] xs) n u

  here : n ≡ x.unit → many ≡ value_of us n u x
  here e = subst (λ m. slice_get us m ≡ Some u → many ≡ value_of us m u x) (sym e) (its u) at

  elsewhere : (b : Bool) → nat_eq x.unit n ≡ b → b ≡ false → value_of us n u x ≡ 0
  elsewhere b e off = grind (arith, common_steps, e, off)

  added : (b : Bool) → nat_eq n x.unit ≡ b → (if b then option_map (λ s. up_to_limit (s + many)) (slice_get old n) else slice_get old n) ≡ Some (up_to_limit (so_far + value_of us n u x))
  added true same =
      ap (λ o. option_map (λ s. up_to_limit (s + many)) o) was ∙ ap (λ s. Some s) (limit_twice so_far many)
      ∙ ap (λ m. Some (up_to_limit (so_far + m))) (here ((Decides-eqb n x.unit).0 same))
  added false other =
      let none : value_of us n u x ≡ 0 = elsewhere (nat_eq x.unit n) refl (turned (nat_eq x.unit n) refl) in
      was ∙ ap (λ m. Some (up_to_limit m)) (let e : so_far ≡ so_far + 0 = omega arith in e ∙ ap (λ m. so_far + m) (sym none))
    where
      turned : (b : Bool) → nat_eq x.unit n ≡ b → b ≡ false
      turned false e = refl
      turned true e = absurd (let one = (Decides-eqb n x.unit).1 (sym ((Decides-eqb x.unit n).0 e)) in let d : true ≡ false = sym one ∙ other in cc)

  pub places_more : slice_get new n ≡ Some (up_to_limit (unit_places us (distinct [] (xs ++ x ∷ [])) n u))
  places_more = adds n ∙ added (nat_eq n x.unit) refl ∙ ap (λ m. Some (up_to_limit m)) (sym more_all)

-- ---- one variable more ----

module _ (us : List EflProcedure) (xs : List Located) (old new : Variables) (sums : List ℕ) (x : Located) (met : AreVariables (with_one (distinct [] xs) x) new) (c : Counts us xs old sums) where
  all_known : AreVariables (distinct [] (xs ++ x ∷ [])) new
  all_known = subst (λ ys. AreVariables ys new) (sym (distinct_one xs x)) met

  pub counts_again : true ≡ list_any (same_located x) (distinct [] xs) → Counts us (xs ++ x ∷ []) new sums
  counts_again there = record {
    variables = all_known;
    places = λ n u at. subst (λ ys. slice_get sums n ≡ Some (up_to_limit (unit_places us ys n u))) (sym same) (c.places n u at);
  }
    where
      same : distinct [] (xs ++ x ∷ []) ≡ distinct [] xs
      same = distinct_one xs x ∙ ap (λ b. if b then distinct [] xs else distinct [] xs ++ x ∷ []) (sym there)

  pub counts_more : (many : ℕ) (after : List ℕ) → false ≡ list_any (same_located x) (distinct [] xs) → AreItsPlaces us x many → AddsPlaces sums x.unit many after → Counts us (xs ++ x ∷ []) new after
  counts_more many after is_new its adds = record {
    variables = all_known;
    places = λ n u at. places_more us xs x many sums after its adds (sym is_new) n u at (c.places n u at);
  }

-- ---- before the first variable ----

zeros : (m n : ℕ) → n < m → slice_get {X = ℕ} (replicate m 0) n ≡ Some 0
zeros zero n lt = absurd (omega (arith, lt))
zeros (suc m) zero lt = refl
zeros (suc m) (suc n) lt = zeros m n (omega (arith, lt))

pub counts_none : (us : List EflProcedure) (many : ℕ) (known : Variables) (sums : List ℕ) → length us ≡ many → AreVariables [] known → sums ≡ replicate many 0 → Counts us [] known sums
counts_none us many known sums long none are = record {
  variables = none;
  places = λ n u at. ap (λ xs. slice_get xs n) are ∙ zeros many n (subst (λ m. n < m) long (slice_get_within us n u at));
}

-- ---- whether a variable is a new one ----

pub known_before : (b : Bool) → false ≡ not b → true ≡ b
known_before true e = refl
known_before false e = sym e

pub met_first : (b : Bool) → true ≡ not b → false ≡ b
met_first true e = sym e
met_first false e = refl
