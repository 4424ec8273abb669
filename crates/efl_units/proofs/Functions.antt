-- The functions that a procedure calls, each once and in order.
use Rattle.std.proofs.Common.{◌≡◌, ◌<◌, ◌≤◌, ℕ, ◌+◌, nat_eq, Bool, true, false, cond, List, [], ◌∷◌, ◌++◌, length, map, Option, None, Some, refl, sym, ap, ◌∙◌, arith}
use Rattle.std.specs.Prelude.{filter, ◌&&◌, ◌||◌, if◌then◌else◌}
use Rattle.std.specs.List.{list_any, enumerate_from}
use Rattle.std.proofs.lemmas.Bool.{eqb-true, eq-eqb}
use Rattle.ground.specs.declared.value.Kind.{Kind}
use Rattle.call_cycles.specs.declared.edge.Edge.{Edge}
use Rattle.efl_tree.specs.Syntax.{EflProcedure}
use Rattle.efl_lowered.specs.Lowering.{gives}
use Rattle.efl_units.specs.Groups.{group_at, called_in}
use Rattle.efl_units.specs.Once.{is_that, once_behind}
use Rattle.efl_units.proofs.Grouped.{got, got_both}

-- a number of callers, each of which calls the same
abbrev pub repeated : ℕ → ℕ → List ℕ → List ℕ
repeated n i g = got n (map (λ c. (c, i)) g)

-- ---- each once ----

that_same : (i : ℕ) → is_that (Some i) i ≡ true
that_same i = eq-eqb i i refl

-- more of the same
same_more : (n i : ℕ) (g rest : List ℕ) → once_behind (Some i) (repeated n i g ++ rest) ≡ once_behind (Some i) rest
same_more n i [] rest = refl
same_more n i (c ∷ g) rest = each (nat_eq c n) (same_more n i g rest)
  where
    each : (b : Bool) → once_behind (Some i) (repeated n i g ++ rest) ≡ once_behind (Some i) rest → once_behind (Some i) (cond b (i ∷ repeated n i g) (repeated n i g) ++ rest) ≡ once_behind (Some i) rest
    each true more = ap (λ t. if t then once_behind (Some i) (repeated n i g ++ rest) else i ∷ once_behind (Some i) (repeated n i g ++ rest)) (that_same i) ∙ more
    each false more = more

-- another number, where it comes
next_once : (o : Option ℕ) (n i : ℕ) (g rest : List ℕ) → is_that o i ≡ false → once_behind o (repeated n i g ++ rest) ≡ cond (list_any (λ c. nat_eq c n) g) (i ∷ once_behind (Some i) rest) (once_behind o rest)
next_once o n i [] rest new = refl
next_once o n i (c ∷ g) rest new = each (nat_eq c n) (next_once o n i g rest new)
  where
    each : (b : Bool) → once_behind o (repeated n i g ++ rest) ≡ cond (list_any (λ c. nat_eq c n) g) (i ∷ once_behind (Some i) rest) (once_behind o rest) →
        once_behind o (cond b (i ∷ repeated n i g) (repeated n i g) ++ rest) ≡ cond (b || list_any (λ c. nat_eq c n) g) (i ∷ once_behind (Some i) rest) (once_behind o rest)
    each true more = ap (λ t. if t then once_behind (Some i) (repeated n i g ++ rest) else i ∷ once_behind (Some i) (repeated n i g ++ rest)) new ∙ ap (λ all. i ∷ all) (same_more n i g rest)
    each false more = more

-- ---- all functions ----

-- the last number before is below
abbrev IsBefore : Option ℕ → ℕ → Type 0
IsBefore None i = Unit {0}
IsBefore (Some y) i = y < i

not_that : (o : Option ℕ) (i : ℕ) → IsBefore o i → is_that o i ≡ false
not_that None i h = refl
not_that (Some y) i h = each (nat_eq y i) refl
  where
    each : (b : Bool) → nat_eq y i ≡ b → b ≡ false
    each false e = refl
    each true e = (let same = eqb-true y i e in absurd (omega (arith, h, same)))

still_before : (o : Option ℕ) (i : ℕ) → IsBefore o i → IsBefore o (i + 1)
still_before None i h = tt
still_before (Some y) i h = omega (arith, h)

module _ (k : Kind) (gs : List (List ℕ)) (n : ℕ) (calls : ℕ → Bool) where
  abbrev chosen : ℕ → List EflProcedure → List ℕ
  chosen i us = map (λ x. x.0) (filter (λ x. gives k x.1 && calls x.0) (enumerate_from i us))

  -- from a number on, whatever came before
  abbrev FromOn : ℕ → List EflProcedure → Type 0
  FromOn i us = (q : Option ℕ) → IsBefore q i → once_behind q (got n (called_in k gs i us)) ≡ chosen i us

  pub called_once : (us : List EflProcedure) (o : Option ℕ) (i : ℕ) → IsBefore o i → ((m : ℕ) → i ≤ m → m < i + length us → list_any (λ c. nat_eq c n) (group_at gs m) ≡ calls m) →
      once_behind o (got n (called_in k gs i us)) ≡ chosen i us
  called_once [] o i before same = refl
  called_once (u ∷ us) o i before same =
      each (gives k u) (λ q h. called_once us q (i + 1) h (λ m low high. same m (omega (arith, low)) (omega (arith, high))))
    where
      here : list_any (λ c. nat_eq c n) (group_at gs i) ≡ calls i
      here = same i (omega arith) (omega arith)

      by_call : (b : Bool) → FromOn (i + 1) us → cond b (i ∷ once_behind (Some i) (got n (called_in k gs (i + 1) us))) (once_behind o (got n (called_in k gs (i + 1) us)))
          ≡ map (λ x. x.0) (cond b ((i, u) ∷ filter (λ x. gives k x.1 && calls x.0) (enumerate_from (i + 1) us)) (filter (λ x. gives k x.1 && calls x.0) (enumerate_from (i + 1) us)))
      by_call true rest = ap (λ all. i ∷ all) (rest (Some i) (omega arith))
      by_call false rest = rest o (still_before o i before)

      each : (b : Bool) → FromOn (i + 1) us → once_behind o (got n (if b then map (λ c. (c, i)) (group_at gs i) ++ called_in k gs (i + 1) us else called_in k gs (i + 1) us))
          ≡ map (λ x. x.0) (cond (b && calls i) ((i, u) ∷ filter (λ x. gives k x.1 && calls x.0) (enumerate_from (i + 1) us)) (filter (λ x. gives k x.1 && calls x.0) (enumerate_from (i + 1) us)))
      each true rest =
          ap (once_behind o) (got_both n (map (λ c. (c, i)) (group_at gs i)) (called_in k gs (i + 1) us)) ∙ next_once o n i (group_at gs i) (got n (called_in k gs (i + 1) us)) (not_that o i before)
          ∙ ap (λ b. cond b (i ∷ once_behind (Some i) (got n (called_in k gs (i + 1) us))) (once_behind o (got n (called_in k gs (i + 1) us)))) here ∙ by_call (calls i) rest
      each false rest = rest o (still_before o i before)

-- ---- callers ----

and_true : (a : Bool) → (a && true) ≡ a
and_true true = refl
and_true false = refl

and_false : (a : Bool) → (a && false) ≡ false
and_false true = refl
and_false false = refl

-- a procedure is among the callers of another where it calls it
pub is_caller : (n m : ℕ) (es : List Edge) → list_any (λ c. nat_eq c n) (got m (map (λ e. (e.to, e.from)) es)) ≡ list_any (λ e. nat_eq e.from n && nat_eq e.to m) es
is_caller n m [] = refl
is_caller n m (e ∷ es) = each (nat_eq e.to m) (is_caller n m es)
  where
    each : (b : Bool) → list_any (λ c. nat_eq c n) (got m (map (λ x. (x.to, x.from)) es)) ≡ list_any (λ x. nat_eq x.from n && nat_eq x.to m) es →
        list_any (λ c. nat_eq c n) (cond b (e.from ∷ got m (map (λ x. (x.to, x.from)) es)) (got m (map (λ x. (x.to, x.from)) es))) ≡ ((nat_eq e.from n && b) || list_any (λ x. nat_eq x.from n && nat_eq x.to m) es)
    each true more = ap (λ r. nat_eq e.from n || r) more ∙ ap (λ a. a || list_any (λ x. nat_eq x.from n && nat_eq x.to m) es) (sym (and_true (nat_eq e.from n)))
    each false more = more ∙ ap (λ a. a || list_any (λ x. nat_eq x.from n && nat_eq x.to m) es) (sym (and_false (nat_eq e.from n)))
