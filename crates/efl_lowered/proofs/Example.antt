-- A small program for which all that is asked can be had: the main writes what a function makes of a number.
use Rattle.std.proofs.Common.{◌≡◌, ℕ, zero, suc, Bool, true, false, true≢false, List, [], ◌∷◌, None, Some, refl, sym, ap, ◌∙◌, arith, if◌then◌else◌, ◌||◌}
use Rattle.std.specs.Prelude.{pos, codes, nat_eq}
use Rattle.std.specs.List.{list_all, slice_get}
use Rattle.std.proofs.lemmas.Bool.{and_parts}
use Rattle.std.proofs.lemmas.Option.{none-some, same_Some}
use Rattle.ground.specs.declared.value.Kind.{Kind}
use Rattle.ground.specs.declared.value.Kind.TheVariants.{Integer, Logical}
use Rattle.f66_tree.specs.Syntax as f66
use Rattle.f66_tree.specs.Syntax.{Line}
use Rattle.f66_tree.specs.World.{Record}
use Rattle.f66_tree.specs.Units.{Linkage}
use Rattle.f66_tree.specs.Evaluation.{Iabs, Mod, Isign, Idim, Max0, Min0, Sort, AnArray, AnIntrinsic, AFunction, known, intrinsics}
use Rattle.f66_tree.specs.Execution.{f66 as runs}
use Rattle.f66_tree.specs.Agreement.{Agrees}
use Rattle.f66_tree.specs.OneUnit.{list_number}
use Rattle.f66_tree.proofs.ListNumbers.{numbers_differ}
use Rattle.f66_program.specs.Linking.{IsLinkage}
use Rattle.efl_tree.specs.declared.expression.EflOperator.TheVariants.{Add}
use Rattle.efl_tree.specs.declared.statement.EflEdit.TheVariants as edits
use Rattle.efl_tree.specs.Syntax as efl
use Rattle.efl_tree.specs.Syntax.{Text, EflPreset, EflProcedure, EflProgram}
use Rattle.call_cycles.specs.Cycles.{Fall}
use Rattle.efl_scope.specs.Parts.{Part, program_parts}
use Rattle.efl_scope.specs.ScopeRules.{area_declared}
use Rattle.efl_scope.specs.Uses.{Use, Laid, uses_in}
use Rattle.efl_scope.specs.Marks.{program_variables}
use Rattle.efl_scope.proofs.ExampleTexts.{num, exprs, at, declare, stmt, set, procedure, main, program}
use Rattle.efl_types.specs.TypeRules.{presets_of}
use Rattle.efl_types.specs.Whole.{edges_of}
use Rattle.efl_typed.specs.Typing.{bodies_of}
use Rattle.efl_typed.specs.Linking.{efl_meaning}
use Rattle.efl_typed.specs.Laws.{IsAccepted}
use Rattle.efl_typed.proofs.Each.{Each}
use Rattle.routes.specs.Numbered.{IsNumbered}
use Rattle.efl_routes.specs.Statements.{AllReady}
use Rattle.efl_lowered.specs.Naming.{Naming}
use Rattle.efl_lowered.specs.Lowering.{is_scalar, routes_of, units_of}
use Rattle.efl_lowered.specs.Facts.{is_unit, is_function, formals, uses_function, uses_procedure, has_scalar, has_variable, IsOverScalars, AreReady}
use Rattle.efl_lowered.specs.Names.{Name, OfVariable, OfTemporary, OfProcedure, OfIntrinsic, text_of, AreNames}
use Rattle.efl_lowered.specs.Laws.{AreCodes}
use Rattle.efl_lowered.proofs.TypedChecks.{at_each}
use Rattle.efl_lowered.proofs.Labels.{scalar_units_agree}

-- integer k / k = f(2) / write( , k:i(3)), where f has an integer n and gives n + 1
abbrev k : Text
k = codes "K"

abbrev n : Text
n = codes "N"

abbrev pub f : EflProcedure
f = procedure 7 (Some efl.Integer) (Some (codes "F")) (n ∷ []) (declare 8 efl.Integer (n ∷ []) ∷ []) (stmt 9 (efl.Return (Some (efl.Pair Add (efl.At (at n)) (num 1)))) ∷ [])

abbrev first : EflProcedure
first = main (declare 2 efl.Integer (k ∷ []) ∷ []) (set 3 (at k) (efl.Call (codes "F") (exprs (num 2 ∷ []))) ∷ stmt 4 (efl.Write None (efl.Value (efl.At (at k)) (edits.Whole (pos 3)) ∷ [])) ∷ [])

abbrev pub text : EflProgram
text = program (first ∷ f ∷ [])

-- a list of two numbers is a name, and its first number tells what of
abbrev pub names : Naming
names = record { home = λ v. 1 ∷ v ∷ []; callee = λ m. 4 ∷ m ∷ []; label = λ m. list_number; made = λ m i. suc i; temp = temporary; room = λ m. 2 }
  where
    temporary : Kind → ℕ → f66.Text
    temporary Integer i = 2 ∷ i ∷ []
    temporary Logical i = 3 ∷ i ∷ []

abbrev by_sort : Sort → Name
by_sort (AnIntrinsic g) = OfIntrinsic g
by_sort AFunction = OfVariable 0
by_sort (AnArray ns) = OfVariable 0

abbrev meant : f66.Text → Name
meant (c ∷ d ∷ []) = if (nat_eq c 1) then (OfVariable d) else (if (nat_eq c 2) then (OfTemporary Integer d) else (if (nat_eq c 3) then (OfTemporary Logical d) else (OfProcedure d)))
meant x = by_sort (known intrinsics x)

meant_by : (a : Name) → meant (text_of names a) ≡ a
meant_by (OfVariable v) = refl
meant_by (OfTemporary Integer i) = refl
meant_by (OfTemporary Logical i) = refl
meant_by (OfProcedure m) = refl
meant_by (OfIntrinsic Iabs) = refl
meant_by (OfIntrinsic Mod) = refl
meant_by (OfIntrinsic Isign) = refl
meant_by (OfIntrinsic Idim) = refl
meant_by (OfIntrinsic Max0) = refl
meant_by (OfIntrinsic Min0) = refl

abbrev second_of : f66.Text → ℕ
second_of (c ∷ d ∷ []) = d
second_of x = 0

-- ---- lists ----

abbrev is_empty : List EflPreset → Bool
is_empty [] = true
is_empty (x ∷ xs) = false

empty_is : (xs : List EflPreset) → is_empty xs ≡ true → xs ≡ []
empty_is [] h = refl
empty_is (x ∷ xs) h = absurd (true≢false (sym h))

no_presets : (vs : List Part) → list_all (λ v. is_empty (presets_of v.form)) vs ≡ true → Each (λ v. presets_of v.form ≡ []) vs
no_presets [] h = tt
no_presets (v ∷ vs) h = let g = and_parts (is_empty (presets_of v.form)) (list_all (λ w. is_empty (presets_of w.form)) vs) h in (empty_is (presets_of v.form) g.0, no_presets vs g.1)

abbrev is_bare : Use → Bool
is_bare (Laid x) = false
is_bare _ = true

bare : (ws : List Use) → list_all is_bare ws ≡ true → Each (λ w. (x : Text) → w ≡ Laid x → ⊥) ws
bare [] h = tt
bare (w ∷ ws) h = let g = and_parts (is_bare w) (list_all is_bare ws) h in ((λ x e. true≢false (sym g.0 ∙ ap is_bare e)), bare ws g.1)

-- ---- what is asked ----

accepted : IsAccepted text (1 ∷ 0 ∷ [])
accepted = record { scopes = refl; falls = falling; low = omega arith }
  where
    falling : Fall (1 ∷ 0 ∷ []) (edges_of text)
    falling zero l = omega arith
    falling (suc j) l = absurd (omega (l, arith))

over : IsOverScalars text
over = record {
  scalar = at_each (λ x. (is_scalar Integer x.variable.kind || is_scalar Logical x.variable.kind) ≡ true) (program_variables text) (refl, (refl, tt));
  no_area = at_each (λ x. x.variable.area ≡ None) (program_variables text) (refl, (refl, tt));
  no_initial = at_each (λ v. presets_of v.form ≡ []) (program_parts text) (no_presets (program_parts text) refl);
  no_common = at_each (λ v. area_declared v.form ≡ None) (program_parts text) (refl, (refl, (refl, (refl, (refl, (refl, (refl, tt)))))));
  no_overlay = λ i j v x e g. at_each (λ w. (x : Text) → w ≡ Laid x → ⊥) (uses_in v.form) (bare (uses_in v.form) (at_each (λ v. list_all is_bare (uses_in v.form) ≡ true) (program_parts text) (refl, (refl, (refl, (refl, (refl, (refl, (refl, tt))))))) i v e)) j (Laid x) g x refl;
}

numbered : (m : ℕ) → is_unit text m ≡ true → IsNumbered (names.made m) (routes_of names text m)
numbered zero is = record { rises = λ i j lt. omega (lt, arith); once = λ l. omega arith; unused = λ i. refl }
numbered (suc zero) is = record { rises = λ i j lt. omega (lt, arith); once = λ l. omega arith; unused = λ i. refl }
numbered (suc (suc m)) is = absurd (true≢false (sym is))

are : AreNames text names
are = record {
  apart = λ m a b is h g e. sym (meant_by a) ∙ ap meant e ∙ meant_by b;
  procedures = λ m i is is1 e. ap second_of e;
  labels = λ m l q is has has1 e. numbers_differ l q e;
  numbered = numbered;
}

one_main : (m : ℕ) (u : EflProcedure) → slice_get text.procedures m ≡ Some u → u.name ≡ None → m ≡ 0
one_main zero u e none = refl
one_main (suc zero) u e none = absurd (none-some (codes "F") (sym none ∙ sym (ap (λ w. w.name) (same_Some f u e))))
one_main (suc (suc m)) u e none = absurd (none-some u e)

formal : (m i v : ℕ) → slice_get (formals text m) i ≡ Some v → has_variable text m v ≡ true
formal zero i v e = absurd (none-some v e)
formal (suc zero) i v e = at_each (λ w. has_variable text 1 w ≡ true) (formals text 1) (refl, tt) i v e
formal (suc (suc m)) i v e = absurd (none-some v e)

ready : AreReady text names
ready = record { one_main = one_main; no_formals = refl; formal = formal; bodies = bodies }
  where
    bodies : (m : ℕ) → is_unit text m ≡ true →
        AllReady (λ v j. has_scalar text m v j ≡ true) (λ i j c. uses_function text m i j c ≡ true) (λ i c. uses_procedure text m i c ≡ true) (names.room m) (is_function text m ≡ true) (bodies_of text m) 0
    bodies zero is = (((refl, (refl, (tt, tt))), omega arith), ((tt, (refl, refl, omega arith, tt)), tt))
    bodies (suc zero) is = ((refl, ((tt, refl, tt), omega arith)), tt)
    bodies (suc (suc m)) is = absurd (true≢false (sym is))

-- so it agrees with its units
example_agrees : (l : Linkage) → IsLinkage (units_of names text) l → (lines : ℕ → List Line) → AreCodes (units_of names text) lines → (input : List Record) → Agrees (λ b. efl_meaning text b input) (λ m. runs l lines input m)
example_agrees l linked lines coded input = scalar_units_agree text (1 ∷ 0 ∷ []) accepted over names are ready l linked lines coded input
