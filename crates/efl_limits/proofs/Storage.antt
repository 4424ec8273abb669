-- An accepted program of few tokens needs little storage: each name of a variable and each call is one of its tokens, and a procedure has
-- more tokens than it needs temporaries.
use Rattle.std.proofs.Common.{◌≤◌, ℕ, arith, Bool, true, false, List, [], ◌∷◌, length, length-append, Option, None, Some}
use Rattle.std.proofs.lemmas.List.{length-map}
use Rattle.std.specs.Prelude.{flat_map, filter_map, option_map, unwrap_or, if◌then◌else◌}
use Rattle.std.specs.List.{cons_option, list_any, slice_get}
use Rattle.efl_tree.specs.Syntax.{EflProcedure, EflProgram}
use Rattle.efl_scope.specs.Scopes.{Variable, meaning, variable_if}
use Rattle.efl_scope.specs.Parts.{Part, program_parts}
use Rattle.efl_scope.specs.Uses.{uses_in}
use Rattle.efl_scope.specs.Marks.{Located, same_located, met_by, implied_at, variables_by, variables_at, located_at, distinct, program_variables}
use Rattle.call_cycles.specs.declared.edge.Edge.{Edge}
use Rattle.efl_types.specs.TypeRules.{names_of}
use Rattle.efl_types.specs.Whole.{CallAt, called_by, calls_in, called_in, program_calls, edges_of}
use Rattle.efl_limits.proofs.PartTokens.{names_at, counted}

-- ---- lists ----

some_few : {A B : Type 0} (f : A → Option B) (xs : List A) → length (filter_map f xs) ≤ length xs
some_few f [] = omega arith
some_few f (x ∷ xs) = by (f x) (some_few f xs)
  where
    by : (o : Option _) → length (filter_map f xs) ≤ length xs → length (cons_option o (filter_map f xs)) ≤ length (x ∷ xs)
    by None h = omega (arith, h)
    by (Some y) h = omega (arith, h)

joined_few : {B : Type 0} (f : Part → List B) → ((v : Part) → length (f v) ≤ names_at v) → (vs : List Part) → length (flat_map f vs) ≤ counted vs
joined_few f h [] = omega arith
joined_few f h (v ∷ vs) = omega (arith, length-append (f v) (flat_map f vs), h v, joined_few f h vs)

-- ---- variables ----

located_few : (us : List EflProcedure) (v : Part) → length (located_at us v) ≤ names_at v
located_few us v =
    let own = filter_map (λ x. variable_if (meaning v.around.blocks x)) (variables_by v.form) in
    let more = filter_map (met_by (implied_at us v.around.unit) v.around.blocks) (uses_in v.form) in
    let put : Variable → Located = λ x. record { unit = v.around.unit; variable = x } in
    omega (
      arith,
      length-map (variables_at us v) put,
      length-append own more,
      some_few (λ x. variable_if (meaning v.around.blocks x)) (variables_by v.form),
      some_few (met_by (implied_at us v.around.unit) v.around.blocks) (uses_in v.form),
    )

once_few : (before xs : List Located) → length (distinct before xs) ≤ length xs
once_few before [] = omega arith
once_few before (x ∷ xs) = by (list_any (same_located x) before) (once_few before xs) (once_few (x ∷ before) xs)
  where
    by : (b : Bool) → length (distinct before xs) ≤ length xs → length (distinct (x ∷ before) xs) ≤ length xs →
        length (if b then (distinct before xs) else (x ∷ distinct (x ∷ before) xs)) ≤ length (x ∷ xs)
    by true f g = omega (arith, f)
    by false f g = omega (arith, g)

pub variables_few : (p : EflProgram) → length (program_variables p) ≤ counted (program_parts p)
variables_few p =
    omega (arith, once_few [] (flat_map (located_at p.procedures) (program_parts p)), joined_few (located_at p.procedures) (located_few p.procedures) (program_parts p))

-- ---- calls ----

unit_few : (o : Option EflProcedure) (f : EflProcedure → List ℕ) (k : ℕ) → ((u : EflProcedure) → length (f u) ≤ k) → length (unwrap_or (option_map f o) []) ≤ k
unit_few None f k h = omega arith
unit_few (Some u) f k h = h u

calls_few : (us : List EflProcedure) (v : Part) → length (calls_in us v) ≤ names_at v
calls_few us v =
    let called = unit_few (slice_get us v.around.unit) (λ u. filter_map (called_by us (names_of us u v)) (uses_in v.form)) (length (uses_in v.form)) (λ u. some_few (called_by us (names_of us u v)) (uses_in v.form)) in
    let put : ℕ → CallAt = λ to. record { edge = record { from = v.around.unit; to = to }; place = v.place } in
    omega (arith, called, length-map (called_in us v) put)

pub edges_few : (p : EflProgram) → length (edges_of p) ≤ counted (program_parts p)
edges_few p =
    let edge : CallAt → Edge = λ c. c.edge in
    omega (arith, length-map (program_calls p) edge, joined_few (calls_in p.procedures) (calls_few p.procedures) (program_parts p))
