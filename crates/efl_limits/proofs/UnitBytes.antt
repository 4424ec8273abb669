-- The bytes of the cards of a unit, by its names and the size of its body.
use Rattle.std.proofs.Common.{◌≡◌, ◌≤◌, ◌+◌, ◌*◌, ℕ, zero, suc, arith, Bool, true, false, ◌⊎◌, inl, inr, List, [], ◌∷◌, ◌++◌, length, length-append, map, take, drop, refl, ap, ◌∙◌, if◌then◌else◌}
use Rattle.std.specs.Prelude.{is_none}
use Rattle.std.specs.List.{range_with_len}
use Rattle.std.proofs.lemmas.List.{length-map}
use Rattle.std.proofs.lemmas.List.FromFn.{length-range_with_len}
use Rattle.ground.specs.declared.place.Place.{Place}
use Rattle.ground.specs.declared.value.Kind.{Kind}
use Rattle.ground.specs.declared.value.Kind.TheVariants.{Integer, Logical}
use Rattle.f66_tree.specs.declared.declaration.TypeWord.{TypeWord}
use Rattle.f66_tree.specs.Syntax.{Text, MainUnit, Line}
use Rattle.efl_tree.specs.Syntax.{EflProcedure, EflProgram}
use Rattle.efl_scope.specs.Marks.{program_variables, meant_by, number_of}
use Rattle.efl_scope.specs.Scopes.{meaning, outer}
use Rattle.efl_types.specs.Signatures.{Result, Nothing, Gives, Unknown, result_of}
use Rattle.efl_typed.specs.Linking.{formals_in}
use Rattle.efl_typed.specs.Typing.{bodies_of}
use Rattle.plain_decks.specs.Bytes.{lines_bytes, unit_bytes}
use Rattle.plain_decks.specs.Few.{dummies_of}
use Rattle.routes.specs.Code.{all_code}
use Rattle.routes.specs.Units.{ending}
use Rattle.efl_lowered.specs.Lowering.{word_of, dummies, or_spare, named_header, header_of, variables_in, functions_in, temps_of, typed_names, on_a_card, declared_scalar, typed_lines, typed_of, routes_of, unit_of}
use Rattle.efl_lowered.specs.Naming.{Naming}
use Rattle.efl_lowered.specs.Needs.{all_need}
use Rattle.efl_limits.specs.Sizes.{stmts_size}
use Rattle.efl_limits.proofs.NameCounts.{names_at}
use Rattle.efl_limits.proofs.Needs.{stmts_few}
use Rattle.efl_limits.proofs.RouteBytes.{code_bytes}
use Rattle.efl_limits.proofs.StatementBytes as body

-- ---- type statements ----

cut : {X : Type 0} (k : ℕ) (xs : List X) → (length (take k xs) + length (drop k xs) ≡ length xs) × ((length (take k xs) ≡ k) ⊎ (drop k xs ≡ []))
cut zero xs = (omega arith, inl refl)
cut (suc k) [] = (omega arith, inr refl)
cut (suc k) (x ∷ xs) = let c = cut k xs in (omega (arith, c.0), elim c.1 [ inl full ↦ inl (omega (arith, full)) | inr none ↦ inr none ])

no_types : (most : ℕ) (p : Place) (t : TypeWord) → lines_bytes (typed_lines most p t []) ≡ 0
no_types zero p t = refl
no_types (suc most) p t = refl

-- one card for eight names
types_few : (most : ℕ) (p : Place) (t : TypeWord) (xs : List Text) → lines_bytes (typed_lines most p t xs) ≤ 60 + 16 * length xs
types_few zero p t xs = omega arith
types_few (suc most) p t [] = omega arith
types_few (suc most) p t (x ∷ xs) =
    let c = cut on_a_card (x ∷ xs) in
    let same = length-map (take on_a_card (x ∷ xs)) declared_scalar in
    let all = c.0 in
    elim c.1 [
      | inl full ↦ omega (arith, all, same, full, types_few most p t (drop on_a_card (x ∷ xs)))
      | inr none ↦ let last = ap (λ ys. lines_bytes (typed_lines most p t ys)) none ∙ no_types most p t in omega (arith, all, same, last)
    ]

lines_joined : (xs ys : List Line) → lines_bytes (xs ++ ys) ≡ lines_bytes xs + lines_bytes ys
lines_joined [] ys = omega arith
lines_joined (x ∷ xs) ys = omega (arith, lines_joined xs ys)

ending_few : (b : Bool) (p : Place) → lines_bytes (ending b p) ≡ 60
ending_few true p = refl
ending_few false p = refl

-- ---- units ----

module _ (names : Naming) (p : EflProgram) (n : ℕ) (u : EflProcedure) where
  names_of : (k : Kind) → length (typed_names names p n k) ≡ length (variables_in (program_variables p) n k) + (names.room n + 1) + length (functions_in p n k)
  names_of k =
      let homes = map names.home (variables_in (program_variables p) n k) in
      let callees = map names.callee (functions_in p n k) in
      omega (
        arith,
        length-append (homes ++ temps_of names n k) callees,
        length-append homes (temps_of names n k),
        length-map (variables_in (program_variables p) n k) names.home,
        length-map (range_with_len 0 (names.room n + 1)) (names.temp k),
        length-range_with_len 0 (names.room n + 1),
        length-map (functions_in p n k) names.callee,
      )

  typed_few : (k : Kind) → lines_bytes (typed_of names p n k u.place) ≤ 60 + 16 * (length (variables_in (program_variables p) n k) + (names.room n + 1) + length (functions_in p n k))
  typed_few k = omega (arith, types_few (length (typed_names names p n k)) u.place (word_of k) (typed_names names p n k), names_of k)

  spare_many : (x : Text) (ds : List Text) → length (or_spare x ds) ≤ 1 + length ds
  spare_many x [] = omega arith
  spare_many x (d ∷ ds) = omega arith

  dummies_few : dummies_of (header_of names (program_variables p) n u) ≤ 1 + length u.formals
  dummies_few = by_main (is_none u.name)
    where
      ds : List Text
      ds = dummies names (program_variables p) n u

      many : length ds ≡ length u.formals
      many = omega (arith, length-map (formals_in (program_variables p) n u) names.home, length-map u.formals (λ x. number_of (program_variables p) n (meant_by [] x (meaning (outer u) x))))

      by_result : (r : Result) → dummies_of (named_header names n r ds) ≤ 1 + length u.formals
      by_result (Gives k) = omega (arith, many, spare_many (names.temp Integer (names.room n)) ds)
      by_result Nothing = omega (arith, many)
      by_result Unknown = omega (arith, many)

      by_main : (b : Bool) → dummies_of (if b then MainUnit else named_header names n (result_of u.result) ds) ≤ 1 + length u.formals
      by_main true = omega arith
      by_main false = by_result (result_of u.result)

  pub unit_few : names.room n ≤ all_need (bodies_of p n) 0 → unit_bytes (unit_of names p n u) ≤ 297 + (15 * length u.formals + (16 * names_at p n + 539 * stmts_size (bodies_of p n)))
  unit_few room =
      let last : List Line = ending (is_none u.name) u.finish in
      let code : List Line = all_code (names.made n) (routes_of names p n) 0 [] last in
      omega (
        arith,
        room,
        dummies_few,
        lines_joined (typed_of names p n Integer u.place ++ typed_of names p n Logical u.place) code,
        lines_joined (typed_of names p n Integer u.place) (typed_of names p n Logical u.place),
        typed_few Integer,
        typed_few Logical,
        code_bytes (names.made n) (routes_of names p n) 0 [] last,
        ending_few (is_none u.name) u.finish,
        stmts_few (bodies_of p n) 0,
        body.stmts_few names.home names.temp names.callee (names.label n) (names.callee n) (bodies_of p n) [] 0,
      )
