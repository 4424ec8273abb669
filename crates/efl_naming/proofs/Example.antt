-- The names that are chosen for a small program, and a tree of another shape than the grammar gives, for which no names do.
use Rattle.std.proofs.Common.{◌≡◌, ℕ, zero, suc, true, [], ◌∷◌, map, None, Some, refl, sym, ap, ◌∙◌, arith}
use Rattle.std.specs.Prelude.{pos, codes, nat_eq}
use Rattle.std.specs.List.{slice_get}
use Rattle.std.proofs.lemmas.Bool.{eq-eqb}
use Rattle.std.proofs.lemmas.Option.{none-some, same_Some}
use Rattle.efl_tree.specs.Syntax as efl
use Rattle.efl_tree.specs.Syntax.{Text, EflProcedure, EflProgram}
use Rattle.efl_scope.specs.FirstFault as scope_faults
use Rattle.efl_scope.specs.Parts.{program_parts}
use Rattle.efl_scope.proofs.ExampleTexts.{num, at, declare, here, all, stmt, labelled, set, block, procedure, main, program}
use Rattle.efl_types.specs.TypeRules as type_faults
use Rattle.efl_types.specs.Whole.{TellsWhole}
use Rattle.efl_typed.proofs.Each.{Each}
use Rattle.routes.specs.Numbered.{bit}
use Rattle.efl_lowered.specs.Naming.{Naming}
use Rattle.efl_lowered.specs.Grammatical.{IsGrammatical, operators_in, default_constants}
use Rattle.efl_lowered.specs.Names.{AreNames}
use Rattle.efl_lowered.proofs.TypedExpressions.{Keeps}
use Rattle.efl_lowered.proofs.TypedChecks.{at_each}
use Rattle.efl_naming.specs.Choice.{home_name, callee_name, label_number, made_label, naming_of}
use Rattle.efl_naming.proofs.Apart.{all_apart}

-- ---- a program ----

-- integer k, counter, f, iabs, y00001 / { integer k / k = 1 } / l: goto l, beside the procedures f and average
abbrev first : EflProcedure
first =
    main (declare 2 efl.Integer (codes "K" ∷ codes "COUNTER" ∷ codes "F" ∷ codes "IABS" ∷ codes "Y00001" ∷ []) ∷ [])
    (block 3 (declare 4 efl.Integer (codes "K" ∷ []) ∷ []) (set 5 (at (codes "K")) (num 1) ∷ []) ∷ labelled 6 (codes "L") (efl.Goto (codes "L")) ∷ [])

abbrev second : EflProcedure
second = procedure 8 None (Some (codes "F")) [] [] []

abbrev third : EflProcedure
third = procedure 9 None (Some (codes "AVERAGE")) [] [] []

abbrev text : EflProgram
text = program (first ∷ second ∷ third ∷ [])

variables : map (home_name text) (0 ∷ 1 ∷ 2 ∷ 3 ∷ 4 ∷ 5 ∷ []) ≡ codes "K" ∷ codes "Y00001" ∷ codes "Y00002" ∷ codes "Y00003" ∷ codes "Y00004" ∷ codes "Y00005" ∷ []
variables = refl

procedures : map (callee_name text) (0 ∷ 1 ∷ 2 ∷ []) ≡ codes "X00000" ∷ codes "F" ∷ codes "X00002" ∷ []
procedures = refl

label : label_number text 0 (codes "L") ≡ 1
label = refl

made_behind : made_label text 0 0 ≡ 3
made_behind = refl

whole : TellsWhole text None
whole = λ j lt. absurd (omega (lt, arith))

shaped : IsGrammatical text
shaped = record {
  main = bare;
  operators = λ i j v o e. at_each Keeps (operators_in v.form) (at_each (λ v. Each Keeps (operators_in v.form)) (program_parts text) (tt, (tt, (tt, (tt, (tt, (tt, (tt, (tt, tt)))))))) i v e) j o;
  defaults = at_each (λ v. default_constants v.form ≡ []) (program_parts text) (refl, (refl, (refl, (refl, (refl, (refl, (refl, (refl, tt))))))));
}
  where
    bare : (m : ℕ) (u : EflProcedure) → slice_get text.procedures m ≡ Some u → u.name ≡ None → (u.formals ≡ []) × (u.result ≡ None)
    bare zero u e none = (sym (ap (λ w. w.formals) (same_Some first u e)), sym (ap (λ w. w.result) (same_Some first u e)))
    bare (suc zero) u e none = absurd (none-some (codes "F") (sym none ∙ sym (ap (λ w. w.name) (same_Some second u e))))
    bare (suc (suc zero)) u e none = absurd (none-some (codes "AVERAGE") (sym none ∙ sym (ap (λ w. w.name) (same_Some third u e))))
    bare (suc (suc (suc m))) u e none = absurd (none-some u e)

text_apart : AreNames text (naming_of text)
text_apart = all_apart text refl whole shaped refl

-- ---- another shape ----

-- switch(1) { case 1, default: l: } with a default that has a constant, where the grammar has none
abbrev twice : EflProgram
twice = program (main [] (stmt 2 (efl.Switch (num 1) (efl.AndCase (pos 1 ∷ []) true (all (labelled 3 (codes "L") efl.Empty ∷ [])) (here 3) efl.NoCase)) ∷ []) ∷ [])

twice_scopes : scope_faults.first_fault twice ≡ None
twice_scopes = refl

twice_types : type_faults.first_fault twice ≡ None
twice_types = refl

-- its label stands twice in the unit, whatever its number
twice_not_apart : (names : Naming) → AreNames twice names → ⊥
twice_not_apart names are =
    let l = names.label 0 (codes "L") in
    let is : bit (nat_eq l l) ≡ 1 = ap bit (eq-eqb l l refl) in
    let once = (are.numbered 0 refl).once l in
    omega (once, is, arith)
