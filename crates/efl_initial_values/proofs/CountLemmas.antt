-- Values that are counted up to the limit.
use Rattle.std.proofs.Common.{◌≡◌, ◌≤◌, ◌<◌, ℕ, zero, suc, ◌+◌, min, nat_lt, Bool, true, false, ◌&&◌, if◌then◌else◌, List, [], length, drop, get_or, map, sum, sum_by, Option, Some, None, refl, sym, ap, ◌∙◌, arith}
use Rattle.std.specs.Option.{option_map}
use Rattle.std.proofs.lemmas.List.{drop_all, drop_more}
use Rattle.std.proofs.lemmas.List.Sums.{sum_by-cons}
use Rattle.rule_table.specs.Words.{is_some_and}
use Rattle.ground.specs.declared.value.Kind.{Kind}
use Rattle.efl_tree.specs.declared.declaration.EflConst.{EflConst}
use Rattle.efl_tree.specs.declared.declaration.EflPreset as memory
use Rattle.efl_tree.specs.Views.{preset_of}
use Rattle.efl_scope.specs.DataTypes.{DataType, places, is_large}
use Rattle.efl_scope.proofs.TreeLemmas.{drop_next}
use Rattle.efl_types.specs.Presets.{many_values, kinds_of, kinds_if_small, kinds_from, misfit}
use Rattle.efl_scoped.specs.Told.{capped}
use Rattle.efl_initial_values.specs.Filling.{Values}
use Rattle.efl_initial_values.proofs.KindLemmas.{many_kinds}
use Rattle.efl_initial_values.proofs.OffsetLemmas.{none_of, some_of}

abbrev pub counted : Values → ℕ
counted cs = sum_by (λ c. c.0) cs

one_counted : (before after v rest all : ℕ) → after ≡ capped (before + v) → capped (before + (v + rest)) ≡ all → capped (after + rest) ≡ all
one_counted before after v rest all is so_far = omega (arith, is, so_far)

pub value_counted : (cs : Values) (i before after : ℕ) (d : ℕ × EflConst) → i < length cs → after ≡ capped (before + (get_or cs i d).0) → capped (before + counted (drop i cs)) ≡ capped (counted cs) →
    capped (after + counted (drop (i + 1) cs)) ≡ capped (counted cs)
value_counted cs i before after d within is so_far =
    one_counted before after (get_or cs i d).0 (counted (drop (i + 1) cs)) (capped (counted cs)) is
    (sym (ap (λ xs. capped (before + counted xs)) (drop_more cs i d within) ∙ ap (λ n. capped (before + n)) (sum_by-cons (λ c. c.0) (get_or cs i d) (drop (i + 1) cs))) ∙ so_far)

pub values_counted : (cs : Values) (i before r : ℕ) → length cs ≤ i → capped (before + counted (drop i cs)) ≡ capped (counted cs) → r ≡ min before 32768 → r ≡ capped (counted cs)
values_counted cs i before r past so_far is = last before r (capped (counted cs)) is (sym (ap (λ xs. capped (before + counted xs)) (drop_all i cs past)) ∙ so_far)
  where
    last : (before r all : ℕ) → r ≡ min before 32768 → capped (before + 0) ≡ all → r ≡ all
    last before r all is so_far = omega (arith, is, so_far)

abbrev pub counted_of : List memory.EflPreset → ℕ
counted_of ps = sum (map many_values (map preset_of ps))

pub presets_counted : (ps : List memory.EflPreset) (i before r : ℕ) → length ps ≤ i → capped (before + counted_of (drop i ps)) ≡ capped (counted_of ps) → r ≡ min before 32768 → r ≡ capped (counted_of ps)
presets_counted ps i before r past so_far is = last before r (capped (counted_of ps)) is (sym (ap (λ xs. capped (before + counted_of xs)) (drop_all i ps past)) ∙ so_far)
  where
    last : (before r all : ℕ) → r ≡ min before 32768 → capped (before + 0) ≡ all → r ≡ all
    last before r all is so_far = omega (arith, is, so_far)

-- ---- more values than places ----

pub no_overflow : (t : DataType) (n : ℕ) (o : Option ℕ) → None ≡ option_map capped o → false ≡ is_some_and (λ i. nat_lt (places t) (i + n)) o
no_overflow t n o none = sym (ap (is_some_and (λ i. nat_lt (places t) (i + n))) (none_of o none))

pub overflow_is : (t : DataType) (n places' values i sum' : ℕ) (o : Option ℕ) → places' ≡ places t → places' ≤ 32767 → values ≡ capped n → Some i ≡ option_map capped o → sum' ≡ capped (i + values) →
    nat_lt places' sum' ≡ is_some_and (λ j. nat_lt (places t) (j + n)) o
overflow_is t n p values i s o is few counted found total =
    let exact = some_of o i found in
    each p exact.number n i values s few exact.same counted total ∙ ap (λ q. nat_lt q (exact.number + n)) is ∙ sym (ap (is_some_and (λ j. nat_lt (places t) (j + n))) exact.is)
  where
    each : (p j n i values s : ℕ) → p ≤ 32767 → i ≡ capped j → values ≡ capped n → s ≡ capped (i + values) → nat_lt p s ≡ nat_lt p (j + n)
    each p j n i values s few one two three = let same : capped s ≡ capped (j + n) = omega (arith, one, two, three) in let low : s ≤ 32768 = omega (arith, three) in grind (arith, few, same, low)

-- ---- kinds from a place on ----

drop_capped : (t : DataType) (i : ℕ) → places t ≤ 32767 → drop (capped i) (kinds_of t) ≡ drop i (kinds_of t)
drop_capped t i few = each (nat_lt 32768 i) refl
  where
    each : (b : Bool) → nat_lt 32768 i ≡ b → drop (capped i) (kinds_of t) ≡ drop i (kinds_of t)
    each true is =
        let long : length (kinds_of t) ≤ 32767 = (let same = many_kinds t in omega (arith, same, few)) in
        let large : 32768 < i = grind (arith, is) in
        drop_all (capped i) (kinds_of t) (omega (arith, long, large)) ∙ sym (drop_all i (kinds_of t) (omega (arith, long, large)))
    each false is = let low : capped i ≡ i = (let h : i ≤ 32768 = grind (arith, is) in omega (arith, h)) in ap (λ n. drop n (kinds_of t)) low

small_capped : (t : DataType) (i : ℕ) → drop (capped i) (kinds_if_small t) ≡ drop i (kinds_if_small t)
small_capped t i = each (is_large t) refl
  where
    nothing : (i : ℕ) → drop {A = Kind} i [] ≡ []
    nothing zero = refl
    nothing (suc i) = refl

    each : (b : Bool) → is_large t ≡ b → drop (capped i) (kinds_if_small t) ≡ drop i (kinds_if_small t)
    each true large =
        let none : kinds_if_small t ≡ [] = ap (λ b. if b then [] else kinds_of t) large in
        ap (drop (capped i)) none ∙ nothing (capped i) ∙ sym (ap (drop i) none ∙ nothing i)
    each false small =
        let all : kinds_if_small t ≡ kinds_of t = ap (λ b. if b then [] else kinds_of t) small in
        let few : places t ≤ 32767 = grind (arith, small) in
        ap (drop (capped i)) all ∙ drop_capped t i few ∙ sym (ap (drop i) all)

pub kinds_none : (t p : DataType) (cs : Values) (o : Option ℕ) → None ≡ option_map capped o → misfit (kinds_if_small p) cs ≡ misfit (kinds_from o t p) cs
kinds_none t p cs o none = sym (ap (λ x. misfit (kinds_from x t p) cs) (none_of o none))

pub kinds_some : (t p : DataType) (cs : Values) (o : Option ℕ) (i : ℕ) → Some i ≡ option_map capped o → misfit (drop i (kinds_if_small t)) cs ≡ misfit (kinds_from o t p) cs
kinds_some t p cs o i found =
    let exact = some_of o i found in
    ap (λ n. misfit (drop n (kinds_if_small t)) cs) exact.same ∙ ap (λ ks. misfit ks cs) (small_capped t exact.number) ∙ sym (ap (λ x. misfit (kinds_from x t p) cs) exact.is)

-- ---- presets ----

pub preset_counted : (ps : List memory.EflPreset) (i before more after : ℕ) (p : memory.EflPreset) (seen : Values) → i < length ps → p ≡ get_or ps i p → seen ≡ p.values.items → more ≡ capped (counted seen) → after ≡ capped (before + more) →
    capped (before + counted_of (drop i ps)) ≡ capped (counted_of ps) → capped (after + counted_of (drop (i + 1) ps)) ≡ capped (counted_of ps)
preset_counted ps i before more after p seen within at same is all so_far =
    step before more after (counted p.values.items) (counted_of (drop (i + 1) ps)) (capped (counted_of ps)) (is ∙ ap (λ cs. capped (counted cs)) same) all
    (sym (ap (λ xs. capped (before + counted_of xs)) (drop_next ps i p within at) ∙ ap (λ n. capped (before + n)) (sum_by-cons (λ n. n) (counted p.values.items) (map many_values (map preset_of (drop (i + 1) ps))))) ∙ so_far)
  where
    step : (before more after v rest all : ℕ) → more ≡ capped v → after ≡ capped (before + more) → capped (before + (v + rest)) ≡ all → capped (after + rest) ≡ all
    step before more after v rest all one two so_far = omega (arith, one, two, so_far)

pub limit_passed : (m n before more all : ℕ) → before ≡ capped m → more ≡ capped n → all ≡ capped (before + more) → (nat_lt 0 more && nat_lt 32767 all) ≡ (nat_lt 0 n && nat_lt 32767 (m + n))
limit_passed m n before more all one two sum =
    ap (λ b. b && nat_lt 32767 all) (first n more two) ∙ ap (λ b. nat_lt 0 n && b) (second m n before more all one two sum)
  where
    first : (n more : ℕ) → more ≡ capped n → nat_lt 0 more ≡ nat_lt 0 n
    first n more is = grind (arith, is)

    second : (m n before more all : ℕ) → before ≡ capped m → more ≡ capped n → all ≡ capped (before + more) → nat_lt 32767 all ≡ nat_lt 32767 (m + n)
    second m n before more all one two sum = let same : all ≡ capped (m + n) = omega (arith, one, two, sum) in grind (arith, same)
