-- The example is of the shape that the grammar gives and has room. What the checks accept of another shape, or with a structure laid over a
-- place or an area, is not ready.
use Rattle.std.proofs.Common.{◌≡◌, ℕ, zero, suc, true, true≢false, [], ◌∷◌, None, Some, refl, sym, ap, ◌∙◌, arith, ◌||◌}
use Rattle.std.specs.Prelude.{pos, codes}
use Rattle.std.specs.List.{slice_get}
use Rattle.std.proofs.lemmas.Option.{none-some, same_Some}
use Rattle.ground.specs.declared.value.Kind.TheVariants.{Integer, Logical}
use Rattle.efl_tree.specs.declared.expression.EflOperator.TheVariants.{Le}
use Rattle.efl_tree.specs.declared.statement.EflEdit.TheVariants as edits
use Rattle.efl_tree.specs.Syntax as efl
use Rattle.efl_tree.specs.Syntax.{Text, EflProcedure, EflProgram}
use Rattle.efl_scope.specs.DataTypes as types
use Rattle.efl_scope.specs.FirstFault as scope_faults
use Rattle.efl_scope.specs.Parts.{program_parts}
use Rattle.efl_scope.specs.Marks.{program_variables}
use Rattle.efl_scope.proofs.ExampleTexts.{num, at, from, member, declare, decl, one_member, stmt, set, block, main, procedure, program}
use Rattle.efl_types.specs.TypeRules as type_faults
use Rattle.efl_types.specs.Whole.{count_fault}
use Rattle.efl_typed.proofs.Each.{Each}
use Rattle.efl_lowered.specs.Naming.{Naming}
use Rattle.efl_lowered.specs.Lowering.{is_scalar}
use Rattle.efl_lowered.specs.Facts.{AreReady}
use Rattle.efl_lowered.specs.Grammatical.{IsGrammatical, operators_in, default_constants}
use Rattle.efl_lowered.specs.Needs.{HasRoom}
use Rattle.efl_lowered.proofs.Example.{text, names, f}
use Rattle.efl_lowered.proofs.TypedExpressions.{Keeps}
use Rattle.efl_lowered.proofs.TypedRules.{not_none}
use Rattle.efl_lowered.proofs.TypedChecks.{at_each}

-- ---- what is of the shape ----

shaped : IsGrammatical text
shaped = record {
  main = bare_main;
  operators = λ i j v o e. at_each Keeps (operators_in v.form) (at_each (λ v. Each Keeps (operators_in v.form)) (program_parts text) (tt, (tt, (tt, (tt, (tt, (tt, (tt, tt))))))) i v e) j o;
  defaults = at_each (λ v. default_constants v.form ≡ []) (program_parts text) (refl, (refl, (refl, (refl, (refl, (refl, (refl, tt)))))));
}
  where
    bare_main : (m : ℕ) (u : EflProcedure) → slice_get text.procedures m ≡ Some u → u.name ≡ None → (u.formals ≡ []) × (u.result ≡ None)
    bare_main zero u e none = (sym (ap (λ w. w.formals) (same_Some _ u e)), sym (ap (λ w. w.result) (same_Some _ u e)))
    bare_main (suc zero) u e none = absurd (none-some (codes "F") (sym none ∙ sym (ap (λ w. w.name) (same_Some f u e))))
    bare_main (suc (suc m)) u e none = absurd (none-some u e)

room : HasRoom text names
room zero is = omega arith
room (suc zero) is = omega arith
room (suc (suc m)) is = absurd (true≢false (sym is))

-- ---- what is not ----

-- struct s {integer a} / integer n / n -> s.a = 1
abbrev laid : EflProgram
laid = program (main (decl 2 (efl.Structure (codes "S") (one_member 2 (codes "A"))) ∷ declare 3 efl.Integer (codes "N" ∷ []) ∷ []) (set 4 (from (codes "N") (efl.Overlay (codes "S") (member (codes "A") efl.NoStep))) (num 1) ∷ []) ∷ [])

laid_scopes : scope_faults.first_fault laid ≡ None
laid_scopes = refl

laid_types : type_faults.first_fault laid ≡ None
laid_types = refl

laid_count : count_fault laid ≡ None
laid_count = refl

laid_scalars : Each (λ x. (is_scalar Integer x.variable.kind || is_scalar Logical x.variable.kind) ≡ true) (program_variables laid)
laid_scalars = (refl, tt)

laid_not_ready : (n1 : Naming) → AreReady laid n1 → ⊥
laid_not_ready n1 h = (h.bodies 0 refl).0.0.0

-- integer n / write( , (n <== 1):i(3)), with a relation in an assignment, which the grammar has not
abbrev related : EflProgram
related = program (main (declare 2 efl.Integer (codes "N" ∷ []) ∷ []) (stmt 3 (efl.Write None (efl.Value (efl.Assign (Some Le) (at (codes "N")) (num 1)) (edits.Whole (pos 3)) ∷ [])) ∷ []) ∷ [])

related_types : type_faults.first_fault related ≡ None
related_types = refl

other_kind : Logical ≡ Integer → ⊥
other_kind h = true≢false (ap (λ k. is_scalar Logical (types.Scalar k)) h)

related_not_ready : (n1 : Naming) → AreReady related n1 → ⊥
related_not_ready n1 h = other_kind (h.bodies 0 refl).0.1.0

-- common(q) {} / logical x / { common(q) {integer x} / x = 1 }, with an area in an inner block, where the grammar has none: the x within has
-- the number of the one around
abbrev within : EflProgram
within = program (main (decl 2 (efl.Area (codes "Q") efl.NoGroup) ∷ declare 3 efl.Logical (codes "X" ∷ []) ∷ []) (block 4 (decl 5 (efl.Area (codes "Q") (one_member 5 (codes "X"))) ∷ []) (set 6 (at (codes "X")) (num 1) ∷ []) ∷ []) ∷ [])

within_scopes : scope_faults.first_fault within ≡ None
within_scopes = refl

within_types : type_faults.first_fault within ≡ None
within_types = refl

within_variables : Each (λ x. ((is_scalar Integer x.variable.kind || is_scalar Logical x.variable.kind) ≡ true) × (x.variable.area ≡ None)) (program_variables within)
within_variables = ((refl, refl), tt)

within_not_ready : (n1 : Naming) → AreReady within n1 → ⊥
within_not_ready n1 h = true≢false (sym (h.bodies 0 refl).0.0.0.0)

-- a main with a formal, which the grammar has not
abbrev asked : EflProgram
asked = program (procedure 1 None None (codes "N" ∷ []) [] [] ∷ [])

asked_scopes : scope_faults.first_fault asked ≡ None
asked_scopes = refl

asked_types : type_faults.first_fault asked ≡ None
asked_types = refl

asked_not_ready : (n1 : Naming) → AreReady asked n1 → ⊥
asked_not_ready n1 h = not_none _ [] h.no_formals
