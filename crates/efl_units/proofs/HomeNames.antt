-- The names of variables in memory are those that are chosen for a program.
use Rattle.std.proofs.Common.{◌≡◌, ℕ, zero, suc, ◌+◌, List, [], ◌∷◌, map, Option, None, Some, option_map, refl, sym, ap, ◌∙◌, arith}
use Rattle.std.specs.Prelude.{unwrap_or, is_none, ◌&&◌, if◌then◌else◌}
use Rattle.std.specs.List.{AllZip, slice_get, enumerate_from}
use Rattle.std.specs.Str.{bytes_eq}
use Rattle.std.proofs.lemmas.Option.{slice_get-map}
use Rattle.efl_tree.specs.declared.procedure.EflProcedure as memory
use Rattle.efl_tree.specs.Views.{procedure_of}
use Rattle.efl_tree.specs.Syntax.{Text, EflProgram}
use Rattle.efl_scope.specs.Marks.{Located, program_variables}
use Rattle.efl_scoped.specs.Numbers.{Table, AreAbove}
use Rattle.efl_types.specs.Whole.{number_of}
use Rattle.efl_variables.specs.declared.variables.Variable.{Variable}
use Rattle.efl_variables.specs.Numbered.{IsListed}
use Rattle.efl_naming.specs.Choice.{is_kept, made, variable_name, procedure_name, home_name}
use Rattle.efl_units.specs.Homes.{home_in}
use Rattle.efl_units.proofs.Tops.{is_outer}

-- what is at a place of a numbered list
pub numbered_at : {A B : Type 0} (f : ℕ × A → B) (xs : List A) (i n : ℕ) → slice_get (map f (enumerate_from i xs)) n ≡ option_map (λ x. f (i + n, x)) (slice_get xs n)
numbered_at f [] i n = refl
numbered_at f (x ∷ xs) i zero = let e : i ≡ i + 0 = omega arith in ap (λ k. Some (f (k, x))) e
numbered_at f (x ∷ xs) i (suc n) = let e : i + 1 + n ≡ i + suc n = omega arith in numbered_at f xs (i + 1) n ∙ ap (λ k. option_map (λ y. f (k, y)) (slice_get xs n)) e

module _ (p : EflProgram) (numbers : Text → Option ℕ) (are : (x : Text) → numbers x ≡ number_of p.procedures x) (f : Table) (above : AreAbove f) where
  same_home : (v : ℕ) (x : Located) (y : Variable) → IsListed f x y → home_in numbers v y ≡ variable_name p v x
  same_home v x y h =
      ap (λ b. if b && (is_kept y.name && is_none (numbers y.name)) then y.name else made 89 v) (is_outer f above x.variable.home y.home h.home)
      ∙ ap (λ o. if bytes_eq x.variable.home [] && (is_kept y.name && is_none o) then y.name else made 89 v) (are y.name)
      ∙ ap (λ n. if bytes_eq x.variable.home [] && (is_kept n && is_none (number_of p.procedures n)) then n else made 89 v) h.name

  homes_by : (xs : List Located) (ys : List Variable) (i v : ℕ) → AllZip (IsListed f) xs ys →
      unwrap_or (option_map (λ y. home_in numbers (i + v) y) (slice_get ys v)) [] ≡ unwrap_or (option_map (variable_name p (i + v)) (slice_get xs v)) []
  homes_by [] [] i v h = refl
  homes_by [] (y ∷ ys) i v h = absurd h
  homes_by (x ∷ xs) [] i v h = absurd h
  homes_by (x ∷ xs) (y ∷ ys) i zero h = same_home (i + 0) x y h.0
  homes_by (x ∷ xs) (y ∷ ys) i (suc v) h = let e : i + 1 + v ≡ i + suc v = omega arith in
      ap (λ k. unwrap_or (option_map (λ y. home_in numbers k y) (slice_get ys v)) []) (sym e) ∙ homes_by xs ys (i + 1) v h.1 ∙ ap (λ k. unwrap_or (option_map (variable_name p k) (slice_get xs v)) []) e

  pub homes_are : (names : List Text) (ys : List Variable) → AllZip (IsListed f) (program_variables p) ys → names ≡ map (λ x. home_in numbers x.0 x.1) (enumerate_from 0 ys) → (v : ℕ) → unwrap_or (slice_get names v) [] ≡ home_name p v
  homes_are names ys h is v =
      let e : 0 + v ≡ v = omega arith in
      ap (λ all. unwrap_or (slice_get all v) []) is ∙ ap (λ o. unwrap_or o []) (numbered_at (λ x. home_in numbers x.0 x.1) ys 0 v) ∙ homes_by (program_variables p) ys 0 v h
      ∙ ap (λ k. unwrap_or (option_map (variable_name p k) (slice_get (program_variables p) v)) []) e

pub callees_are : (names : List Text) (us : List memory.EflProcedure) → names ≡ map (λ x. procedure_name x.0 (procedure_of x.1)) (enumerate_from 0 us) →
    (n : ℕ) → unwrap_or (slice_get names n) [] ≡ unwrap_or (option_map (procedure_name n) (slice_get (map procedure_of us) n)) []
callees_are names us is n =
    ap (λ all. unwrap_or (slice_get all n) []) is ∙ ap (λ o. unwrap_or o []) (numbered_at (λ x. procedure_name x.0 (procedure_of x.1)) us 0 n) ∙ each (slice_get us n)
    ∙ ap (λ o. unwrap_or (option_map (procedure_name n) o) []) (sym (slice_get-map procedure_of us n))
  where
    each : (o : Option memory.EflProcedure) → unwrap_or (option_map (λ u. procedure_name (0 + n) (procedure_of u)) o) [] ≡ unwrap_or (option_map (procedure_name n) (option_map procedure_of o)) []
    each None = refl
    each (Some u) = let e : 0 + n ≡ n = omega arith in ap (λ k. procedure_name k (procedure_of u)) e
