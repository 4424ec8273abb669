-- Where places are, counted up to the limit.
use Rattle.std.proofs.Common.{◌≡◌, ◌≢◌, ◌≤◌, ◌<◌, ℕ, zero, suc, ◌+◌, ◌*◌, min, nat_eq, Bool, true, false, List, [], ◌∷◌, length, drop, get_or, Option, Some, None, refl, sym, ap, ◌∙◌, arith}
use Rattle.std.specs.Prelude.{neg_ℤ}
use Rattle.std.specs.Option.{option_map, option_and_then}
use Rattle.std.specs.List.{slice_get}
use Rattle.std.proofs.lemmas.List.{drop_all}
use Rattle.std.proofs.lemmas.Option.{get_or_from_slice_get}
use Rattle.efl_scope.proofs.TreeLemmas.{drop_next}
use Rattle.efl_tree.specs.declared.declaration.EflBound.{EflBound}
use Rattle.efl_tree.specs.declared.expression.EflExpr.{EflExpr}
use Rattle.efl_tree.specs.Syntax.{EflExprs, NoExpr, AndExpr, Int, Plus, Minus}
use Rattle.efl_tree.specs.Syntax as efl
use Rattle.efl_tree.specs.Views.{exprs_of}
use Rattle.efl_scope.specs.DataTypes.{low_of, many_from}
use Rattle.efl_types.specs.Signatures.{many}
use Rattle.efl_types.specs.Presets.{constant, steps_to, plus, elements_before}
use Rattle.efl_scoped.specs.Told.{capped}
use Rattle.efl_scoped.proofs.CountLemmas.{capped_times, times_capped}
use Rattle.efl_initial_values.specs.Offsets.{number_in, steps_if, on_from}

-- ---- numbers up to the limit ----

pub on_from_zero : (o : Option ℕ) → on_from 0 o ≡ option_map capped o
on_from_zero None = refl
on_from_zero (Some n) = ap (λ i. Some (capped i)) (each n)
  where
    each : (n : ℕ) → 0 + n ≡ n
    each n = omega arith

-- what stands before is counted
pub on_from_counted : (a b c d : ℕ) (o : Option ℕ) → d ≡ capped b → c ≡ capped (a + d) → on_from a (plus (Some b) o) ≡ on_from c o
on_from_counted a b c d None one two = refl
on_from_counted a b c d (Some n) one two = ap Some (each a b c d n one two)
  where
    each : (a b c d n : ℕ) → d ≡ capped b → c ≡ capped (a + d) → capped (a + (b + n)) ≡ capped (c + n)
    each a b c d n one two = omega (arith, one, two)

pub on_from_all : (a b : ℕ) → b ≡ min a 32768 → Some b ≡ on_from a (Some 0)
on_from_all a b is = ap Some (each a b is)
  where
    each : (a b : ℕ) → b ≡ min a 32768 → b ≡ capped (a + 0)
    each a b is = omega (arith, is)

pub on_from_capped : (a : ℕ) (o p : Option ℕ) → option_map capped o ≡ option_map capped p → on_from a o ≡ on_from a p
on_from_capped a None None same = refl
on_from_capped a None (Some n) same = absurd cc
on_from_capped a (Some n) None same = absurd cc
on_from_capped a (Some n) (Some m) same = ap Some (each a n m (some same))
  where
    some : Some (capped n) ≡ Some (capped m) → capped n ≡ capped m
    some same = cc

    each : (a n m : ℕ) → capped n ≡ capped m → capped (a + n) ≡ capped (a + m)
    each a n m same = omega (arith, same)

pub none_of : (o : Option ℕ) → None ≡ option_map capped o → o ≡ None
none_of None is = refl
none_of (Some n) is = absurd cc

-- the number before it was counted up to the limit
pub record Uncapped (o : Option ℕ) (r : ℕ) : Type 0 where
  pub number : ℕ
  pub is : o ≡ Some number
  pub same : r ≡ capped number

pub some_of : (o : Option ℕ) (r : ℕ) → Some r ≡ option_map capped o → Uncapped o r
some_of None r is = absurd cc
some_of (Some n) r is = record { number = n; is = refl; same = cc }

plus_none : (o : Option ℕ) → plus o None ≡ None
plus_none None = refl
plus_none (Some n) = refl

-- ---- elements ----

pub other_counts : (m : ℕ) (bs : List EflBound) (es : EflExprs) → length bs ≢ many es → elements_before m bs es ≡ None
other_counts m [] NoExpr other = absurd (other refl)
other_counts m [] (AndExpr e es) other = refl
other_counts m (b ∷ bs) NoExpr other = refl
other_counts m (b ∷ bs) (AndExpr e es) other =
    ap (plus (option_map (λ i. i * m) (option_and_then (steps_to b) (constant e)))) (other_counts (m * many_from (low_of b) b.high) bs es (λ same. other (next same)))
    ∙ plus_none (option_map (λ i. i * m) (option_and_then (steps_to b) (constant e)))
  where
    next : length bs ≡ many es → suc (length bs) ≡ many es + 1
    next same = omega (arith, same)

pub many_is : (es : List EflExpr) → many (exprs_of es) ≡ length es
many_is [] = refl
many_is (e ∷ es) = let more = many_is es in one (many (exprs_of es)) (length es) more
  where
    one : (a b : ℕ) → a ≡ b → a + 1 ≡ suc b
    one a b same = omega (arith, same)

-- of the steps between elements only as much counts as up to the limit
pub steps_capped : (m n : ℕ) (bs : List EflBound) (es : EflExprs) → capped m ≡ capped n → option_map capped (elements_before m bs es) ≡ option_map capped (elements_before n bs es)
steps_capped m n [] NoExpr same = refl
steps_capped m n [] (AndExpr e es) same = refl
steps_capped m n (b ∷ bs) NoExpr same = refl
steps_capped m n (b ∷ bs) (AndExpr e es) same =
    let wide = many_from (low_of b) b.high in
    each (option_and_then (steps_to b) (constant e)) (elements_before (m * wide) bs es) (elements_before (n * wide) bs es)
    (steps_capped (m * wide) (n * wide) bs es (sym (capped_times m wide) ∙ ap (λ x. capped (x * wide)) same ∙ capped_times n wide))
  where
    each : (s o p : Option ℕ) → option_map capped o ≡ option_map capped p → option_map capped (plus (option_map (λ i. i * m) s) o) ≡ option_map capped (plus (option_map (λ i. i * n) s) p)
    each None o p more = refl
    each (Some i) None None more = refl
    each (Some i) None (Some b) more = absurd cc
    each (Some i) (Some a) None more = absurd cc
    each (Some i) (Some a) (Some b) more = ap Some (sum (i * m) (i * n) a b (sym (times_capped i m) ∙ ap (λ x. capped (i * x)) same ∙ times_capped i n) (some more))
      where
        some : Some (capped a) ≡ Some (capped b) → capped a ≡ capped b
        some more = cc

        sum : (x y a b : ℕ) → capped x ≡ capped y → capped a ≡ capped b → capped (x + a) ≡ capped (y + b)
        sum x y a b one two = omega (arith, one, two)

-- ---- subscripts in memory ----

same_step : (step width many' step' : ℕ) → capped many' ≡ capped width → step' ≡ capped (step * many') → capped (step * width) ≡ capped step'
same_step step width many' step' same is =
    sym (times_capped step width) ∙ ap (λ x. capped (step * x)) (sym same) ∙ times_capped step many' ∙ sym (again (step * many')) ∙ ap capped (sym is)
  where
    again : (a : ℕ) → capped (capped a) ≡ capped a
    again a = omega arith

-- the subscript with this number, and those behind it
behind_it : (bs : List EflBound) (es : List EflExpr) (i step : ℕ) (b : EflBound) (e : EflExpr) → i < length bs → i < length es → b ≡ get_or bs i b → slice_get es i ≡ Some e →
    elements_before step (drop i bs) (exprs_of (drop i es))
    ≡ plus (option_map (λ n. n * step) (steps_if b (Some e))) (elements_before (step * many_from (low_of b) b.high) (drop (i + 1) bs) (exprs_of (drop (i + 1) es)))
behind_it bs es i step b e one two at is =
    ap (λ xs. elements_before step xs (exprs_of (drop i es))) (drop_next bs i b one at)
    ∙ ap (λ xs. elements_before step (b ∷ drop (i + 1) bs) (exprs_of xs)) (drop_next es i e two (sym (get_or_from_slice_get es i e e is)))

pub elements_next : (bs : List EflBound) (es : List EflExpr) (i before step s product after many' step' : ℕ) (b : EflBound) (all : Option ℕ) → i < length bs → i < length es → b ≡ get_or bs i b →
    Some s ≡ steps_if b (slice_get es i) → product ≡ capped (s * step) → after ≡ capped (before + product) → capped many' ≡ capped (many_from (low_of b) b.high) → step' ≡ capped (step * many') →
    on_from before (elements_before step (drop i bs) (exprs_of (drop i es))) ≡ all → on_from after (elements_before step' (drop (i + 1) bs) (exprs_of (drop (i + 1) es))) ≡ all
elements_next bs es i before step s product after many' step' b all one two at found first second wide third so_far = each (slice_get es i) refl found
  where
    each : (o : Option EflExpr) → slice_get es i ≡ o → Some s ≡ steps_if b o → on_from after (elements_before step' (drop (i + 1) bs) (exprs_of (drop (i + 1) es))) ≡ all
    each None is found = absurd cc
    each (Some e) is found =
        let wider = step * many_from (low_of b) b.high in
        let rest = elements_before wider (drop (i + 1) bs) (exprs_of (drop (i + 1) es)) in
        sym (on_from_capped after rest (elements_before step' (drop (i + 1) bs) (exprs_of (drop (i + 1) es))) (steps_capped wider step' (drop (i + 1) bs) (exprs_of (drop (i + 1) es)) (same_step step (many_from (low_of b) b.high) many' step' wide third)))
        ∙ sym (on_from_counted before (s * step) after product rest first second)
        ∙ ap (λ o. on_from before (plus (option_map (λ n. n * step) o) rest)) found
        ∙ sym (ap (on_from before) (behind_it bs es i step b e one two at is)) ∙ so_far

none_past : (es : List EflExpr) (i : ℕ) → slice_get es i ≡ None → length es ≤ i
none_past [] i none = omega arith
none_past (e ∷ es) zero none = absurd cc
none_past (e ∷ es) (suc i) none = let rest = none_past es i none in omega (arith, rest)

past : (n i : ℕ) → i < n → n ≤ i → ⊥
past n i one two = omega (arith, one, two)

pub elements_none : (bs : List EflBound) (es : List EflExpr) (i before step : ℕ) (b : EflBound) (all : Option ℕ) → i < length bs → i < length es → b ≡ get_or bs i b →
    None ≡ steps_if b (slice_get es i) → on_from before (elements_before step (drop i bs) (exprs_of (drop i es))) ≡ all → None ≡ all
elements_none bs es i before step b all one two at none so_far = each (slice_get es i) refl none
  where
    each : (o : Option EflExpr) → slice_get es i ≡ o → None ≡ steps_if b o → None ≡ all
    each None is none = absurd (past (length es) i two (none_past es i is))
    each (Some e) is none =
        ap (λ o. on_from before (plus (option_map (λ n. n * step) o) (elements_before (step * many_from (low_of b) b.high) (drop (i + 1) bs) (exprs_of (drop (i + 1) es))))) none
        ∙ sym (ap (on_from before) (behind_it bs es i step b e one two at is)) ∙ so_far

pub elements_done : (bs : List EflBound) (es : List EflExpr) (i before step r : ℕ) (all : Option ℕ) → length bs ≤ i → length bs ≡ length es → r ≡ min before 32768 →
    on_from before (elements_before step (drop i bs) (exprs_of (drop i es))) ≡ all → Some r ≡ all
elements_done bs es i before step r all past same is so_far =
    on_from_all before r is
    ∙ sym (ap (λ xs. on_from before (elements_before step xs (exprs_of (drop i es)))) (drop_all i bs past) ∙ ap (λ xs. on_from before (elements_before step [] (exprs_of xs))) (drop_all i es (omega (arith, past, same))))
    ∙ so_far

pub other_lengths : (bs : List EflBound) (es : List EflExpr) (r : Bool) → r ≡ nat_eq (length bs) (length es) → r ≡ false → None ≡ option_map capped (elements_before 1 bs (exprs_of es))
other_lengths bs es r is other = sym (ap (option_map capped) (other_counts 1 bs (exprs_of es) (λ same. differ (length bs) (length es) (sym is ∙ other) (same ∙ many_is es))))
  where
    differ : (a b : ℕ) → nat_eq a b ≡ false → a ≡ b → ⊥
    differ a b other same = grind (arith, other, same)

pub same_lengths : (a b : ℕ) (r : Bool) → r ≡ nat_eq a b → r ≡ true → a ≡ b
same_lengths a b r is same = let yes : nat_eq a b ≡ true = sym is ∙ same in grind (arith, yes)

-- ---- constants ----

pub constant_plus : (e : efl.EflExpr) → constant (Plus e) ≡ number_in e
constant_plus (Int z) = refl
constant_plus _ = refl

pub constant_minus : (e : efl.EflExpr) → constant (Minus e) ≡ option_map neg_ℤ (number_in e)
constant_minus (Int z) = refl
constant_minus _ = refl
