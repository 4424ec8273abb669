-- The variables and functions in the type statements of all units are no more than the variables of a program and its calls.
use Rattle.std.proofs.Common.{◌≡◌, ◌≤◌, ◌<◌, ◌+◌, ℕ, zero, suc, arith, Bool, true, false, cond, List, [], ◌∷◌, length, refl, ap}
use Rattle.std.specs.Prelude.{nat_eq, ◌&&◌, ◌||◌}
use Rattle.std.specs.List.{filter, list_any, enumerate_from, range_with_len, sum_by}
use Rattle.std.proofs.lemmas.Bool.{eqb-true}
use Rattle.std.proofs.lemmas.List.{length-map}
use Rattle.std.proofs.lemmas.List.FromFn.{length-enumerate_from}
use Rattle.std.proofs.lemmas.List.Sums.{sum_by-cons}
use Rattle.ground.specs.declared.value.Kind.TheVariants.{Integer, Logical}
use Rattle.call_cycles.specs.declared.edge.Edge.{Edge}
use Rattle.efl_tree.specs.Syntax.{EflProcedure, EflProgram}
use Rattle.efl_scope.specs.DataTypes as types
use Rattle.efl_scope.specs.DataTypes.{DataType}
use Rattle.efl_scope.specs.Marks.{Located, program_variables}
use Rattle.efl_types.specs.Signatures.{Result, Gives, result_of}
use Rattle.efl_types.specs.Whole.{edges_of}
use Rattle.routes.specs.Numbered.{bit}
use Rattle.efl_lowered.specs.Lowering.{is_scalar, stands_in, variables_in, is_result, gives, calls, functions_in}

-- ---- sums ----

sum_of_both : (f g : ℕ → ℕ) (ns : List ℕ) → sum_by (λ n. f n + g n) ns ≡ sum_by f ns + sum_by g ns
sum_of_both f g [] = omega arith
sum_of_both f g (n ∷ ns) = omega (arith, sum_by-cons (λ m. f m + g m) n ns, sum_by-cons f n ns, sum_by-cons g n ns, sum_of_both f g ns)

sum_of_less : (f g : ℕ → ℕ) (ns : List ℕ) → ((n : ℕ) → f n ≤ g n) → sum_by f ns ≤ sum_by g ns
sum_of_less f g [] h = omega arith
sum_of_less f g (n ∷ ns) h = omega (arith, sum_by-cons f n ns, sum_by-cons g n ns, h n, sum_of_less f g ns h)

sum_of_none : (ns : List ℕ) → sum_by (λ n. 0) ns ≡ 0
sum_of_none [] = omega arith
sum_of_none (n ∷ ns) = omega (arith, sum_by-cons (λ m. 0) n ns, sum_of_none ns)

-- ---- numbers that are met once ----

apart : (k i : ℕ) → k < i → bit (nat_eq k i) ≡ 0
apart k i lt = by (nat_eq k i) refl
  where
    by : (b : Bool) → nat_eq k i ≡ b → bit b ≡ 0
    by true e = absurd (let same = eqb-true k i e in omega (arith, lt, same))
    by false e = refl

none_behind : (k i m : ℕ) → k < i → sum_by (λ n. bit (nat_eq k n)) (range_with_len i m) ≡ 0
none_behind k i zero lt = omega arith
none_behind k i (suc m) lt =
    omega (arith, sum_by-cons (λ n. bit (nat_eq k n)) i (range_with_len (i + 1) m), apart k i lt, none_behind k (i + 1) m (omega (arith, lt)))

at_most_one : (b : Bool) → bit b ≤ 1
at_most_one true = omega arith
at_most_one false = omega arith

met_once : (k i m : ℕ) → sum_by (λ n. bit (nat_eq k n)) (range_with_len i m) ≤ 1
met_once k i zero = omega arith
met_once k i (suc m) = by (nat_eq k i) refl (met_once k (i + 1) m)
  where
    first : sum_by (λ n. bit (nat_eq k n)) (i ∷ range_with_len (i + 1) m) ≡ bit (nat_eq k i) + sum_by (λ n. bit (nat_eq k n)) (range_with_len (i + 1) m)
    first = sum_by-cons (λ n. bit (nat_eq k n)) i (range_with_len (i + 1) m)

    by : (b : Bool) → nat_eq k i ≡ b → sum_by (λ n. bit (nat_eq k n)) (range_with_len (i + 1) m) ≤ 1 → sum_by (λ n. bit (nat_eq k n)) (i ∷ range_with_len (i + 1) m) ≤ 1
    by true e rest = (let same = eqb-true k i e in omega (arith, first, at_most_one (nat_eq k i), none_behind k (i + 1) m (omega (arith, same))))
    by false e rest = (let none = ap bit e in omega (arith, first, none, rest))

-- ---- how many pass ----

one_more : {X : Type 0} (b : Bool) (x : X) (xs : List X) → length (cond b (x ∷ xs) xs) ≡ bit b + length xs
one_more true x xs = omega arith
one_more false x xs = omega arith

-- those that pass the first test or the second pass the third, and none passes both
either_passes : {X : Type 0} (p q r : X → Bool) (xs : List X) → ((x : X) → bit (p x) + bit (q x) ≤ bit (r x)) → length (filter p xs) + length (filter q xs) ≤ length (filter r xs)
either_passes p q r [] h = omega arith
either_passes p q r (x ∷ xs) h =
    omega (arith, one_more (p x) x (filter p xs), one_more (q x) x (filter q xs), one_more (r x) x (filter r xs), h x, either_passes p q r xs h)

any_passes : {X : Type 0} (p : X → Bool) (xs : List X) → bit (list_any p xs) ≤ length (filter p xs)
any_passes p [] = omega arith
any_passes p (x ∷ xs) = by (p x) (any_passes p xs)
  where
    by : (b : Bool) → bit (list_any p xs) ≤ length (filter p xs) → bit (b || list_any p xs) ≤ length (cond b (x ∷ filter p xs) (filter p xs))
    by true h = omega arith
    by false h = h

-- each of those that pass has one number
each_once : {X : Type 0} (test : X → Bool) (number : X → ℕ) (i m : ℕ) (xs : List X) → sum_by (λ n. length (filter (λ x. test x && nat_eq (number x) n) xs)) (range_with_len i m) ≤ length (filter test xs)
each_once test number i m [] = omega (arith, sum_of_none (range_with_len i m))
each_once {X} test number i m (x ∷ xs) =
    let here : ℕ → ℕ = λ n. bit (test x && nat_eq (number x) n) in
    let rest : ℕ → ℕ = λ n. length (filter (λ y. test y && nat_eq (number y) n) xs) in
    let all : ℕ → ℕ = λ n. length (filter (λ y. test y && nat_eq (number y) n) (x ∷ xs)) in
    omega (
      arith,
      sum_of_less all (λ n. here n + rest n) (range_with_len i m) (λ n. omega (arith, one_more (test x && nat_eq (number x) n) x (filter (λ y. test y && nat_eq (number y) n) xs))),
      sum_of_both here rest (range_with_len i m),
      one (test x),
      one_more (test x) x (filter test xs),
      each_once test number i m xs,
    )
  where
    one : (b : Bool) → sum_by (λ n. bit (b && nat_eq (number x) n)) (range_with_len i m) ≤ bit b
    one true = met_once (number x) i m
    one false = omega (arith, sum_of_none (range_with_len i m))

none_fails : {X : Type 0} (xs : List X) → length (filter (λ x. true) xs) ≤ length xs
none_fails [] = omega arith
none_fails (x ∷ xs) = omega (arith, none_fails xs)

-- ---- variables ----

scalar_of_one : (t : DataType) → bit (is_scalar Integer t) + bit (is_scalar Logical t) ≤ 1
scalar_of_one (types.Scalar Integer) = omega arith
scalar_of_one (types.Scalar Logical) = omega arith
scalar_of_one t = omega arith

gives_one : (r : Result) → bit (is_result Integer r) + bit (is_result Logical r) ≤ 1
gives_one (Gives Integer) = omega arith
gives_one (Gives Logical) = omega arith
gives_one r = omega arith

both_of_one : (a b c : Bool) → bit b + bit c ≤ 1 → bit (a && b) + bit (a && c) ≤ bit a
both_of_one true b c h = omega (arith, h)
both_of_one false b c h = omega arith

either_with : (a b c : Bool) → bit a + bit b ≤ 1 → bit (a && c) + bit (b && c) ≤ bit c
either_with a b true h = with_true a b h
  where
    with_true : (a b : Bool) → bit a + bit b ≤ 1 → bit (a && true) + bit (b && true) ≤ 1
    with_true true true h = omega (arith, h)
    with_true true false h = omega arith
    with_true false true h = omega arith
    with_true false false h = omega arith
either_with true true false h = omega arith
either_with true false false h = omega arith
either_with false true false h = omega arith
either_with false false false h = omega arith

module _ (p : EflProgram) where
  abbrev Vs : List Located
  Vs = program_variables p

  abbrev pub names_at : ℕ → ℕ
  names_at n = length (variables_in Vs n Integer) + length (variables_in Vs n Logical) + (length (functions_in p n Integer) + length (functions_in p n Logical))

  abbrev in_unit : ℕ → ℕ × Located → Bool
  in_unit n x = true && nat_eq x.1.unit n

  variables_few : (n : ℕ) → length (variables_in Vs n Integer) + length (variables_in Vs n Logical) ≤ length (filter (in_unit n) (enumerate_from 0 Vs))
  variables_few n =
      omega (
        arith,
        length-map (filter (λ x. stands_in n Integer x.1) (enumerate_from 0 Vs)) (λ x. x.0),
        length-map (filter (λ x. stands_in n Logical x.1) (enumerate_from 0 Vs)) (λ x. x.0),
        either_passes (λ x. stands_in n Integer x.1) (λ x. stands_in n Logical x.1) (in_unit n) (enumerate_from 0 Vs)
            (λ x. both_of_one (nat_eq x.1.unit n) (is_scalar Integer x.1.variable.kind) (is_scalar Logical x.1.variable.kind) (scalar_of_one x.1.variable.kind)),
      )

  -- ---- functions ----

  abbrev Es : List Edge
  Es = edges_of p

  abbrev leads : ℕ → ℕ → Edge → Bool
  leads n m e = nat_eq e.from n && nat_eq e.to m

  -- of the procedures from a number on, those that a procedure calls
  called_few : (n i : ℕ) (us : List EflProcedure) →
      length (filter (λ x. calls p n x.0) (enumerate_from i us)) ≤ sum_by (λ m. length (filter (leads n m) Es)) (range_with_len i (length us))
  called_few n i [] = omega arith
  called_few n i (u ∷ us) =
      omega (
        arith,
        one_more (calls p n i) (i, u) (filter (λ x. calls p n x.0) (enumerate_from (i + 1) us)),
        any_passes (leads n i) Es,
        sum_by-cons (λ m. length (filter (leads n m) Es)) i (range_with_len (i + 1) (length us)),
        called_few n (i + 1) us,
      )

  functions_few : (n : ℕ) → length (functions_in p n Integer) + length (functions_in p n Logical) ≤ length (filter (λ e. true && nat_eq e.from n) Es)
  functions_few n =
      let us = enumerate_from 0 p.procedures in
      omega (
        arith,
        length-map (filter (λ x. gives Integer x.1 && calls p n x.0) us) (λ x. x.0),
        length-map (filter (λ x. gives Logical x.1 && calls p n x.0) us) (λ x. x.0),
        either_passes (λ x. gives Integer x.1 && calls p n x.0) (λ x. gives Logical x.1 && calls p n x.0) (λ x. calls p n x.0) us
            (λ x. either_with (gives Integer x.1) (gives Logical x.1) (calls p n x.0) (gives_one (result_of x.1.result))),
        called_few n 0 p.procedures,
        each_once (λ e. nat_eq e.from n) (λ e. e.to) 0 (length p.procedures) Es,
      )

  -- ---- all units ----

  pub names_counted : sum_by names_at (range_with_len 0 (length p.procedures)) ≤ length Vs + length Es
  names_counted =
      let ns = range_with_len 0 (length p.procedures) in
      let variables : ℕ → ℕ = λ n. length (filter (in_unit n) (enumerate_from 0 Vs)) in
      let functions : ℕ → ℕ = λ n. length (filter (λ e. true && nat_eq e.from n) Es) in
      omega (
        arith,
        sum_of_less names_at (λ n. variables n + functions n) ns (λ n. omega (arith, variables_few n, functions_few n)),
        sum_of_both variables functions ns,
        each_once (λ x. true) (λ x. x.1.unit) 0 (length p.procedures) (enumerate_from 0 Vs),
        none_fails (enumerate_from 0 Vs),
        length-enumerate_from 0 Vs,
        each_once (λ e. true) (λ e. e.from) 0 (length p.procedures) Es,
        none_fails Es,
      )
