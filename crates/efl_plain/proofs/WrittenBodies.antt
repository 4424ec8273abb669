-- The typed bodies of a program over scalars that the checks accept are written, where its tree is as tokens give it.
use Rattle.std.proofs.Common.{◌≡◌, ℕ, true, [], ◌++◌, None, Some, refl, sym, ap, ◌∙◌, subst}
use Rattle.std.specs.Prelude.{⊤}
use Rattle.std.specs.List.{slice_get}
use Rattle.ground.specs.declared.value.Kind.{Kind}
use Rattle.efl_tree.specs.Syntax.{EflProcedure, EflProgram}
use Rattle.efl_scope.specs.Parts.{Part, around_unit, header_type_groups, declarations_in, parts_in, parts_by, program_parts}
use Rattle.efl_scope.specs.Marks.{program_variables}
use Rattle.efl_scope.specs.FirstFault as scopes
use Rattle.efl_types.specs.Signatures.{Gives, result_of}
use Rattle.efl_types.specs.TypeRules as types
use Rattle.efl_types.specs.Whole.{TellsWhole}
use Rattle.efl_typed.specs.Typing.{body_if, body_around, bodies_of}
use Rattle.efl_typed.proofs.Each.{Each, each_right}
use Rattle.efl_lowered.specs.Lowering.{is_result, gives}
use Rattle.efl_lowered.specs.Facts.{is_unit, gives_kind, IsOverScalars}
use Rattle.efl_lowered.specs.Grammatical.{IsGrammatical}
use Rattle.efl_lowered.proofs.Lists.{some_of, and_some}
use Rattle.efl_lowered.proofs.TypedChecks.{each_at, each_both}
use Rattle.efl_lowered.proofs.TypedCalls.{own_result}
use Rattle.efl_lowered.proofs.TypedVariables.{own_parts}
use Rattle.efl_lowered.proofs.TypedParts.{M, F, C, results, parts_typed}
use Rattle.efl_lowered.proofs.TypedStatements.{IsTypedPart}
use Rattle.efl_plain.specs.Written.{AllWritten}
use Rattle.efl_plain.specs.Tree.{numbers_in, constants_in, texts_in, IsWrittenTree}
use Rattle.efl_plain.proofs.WrittenExpressions.{Constant}
use Rattle.efl_plain.proofs.WrittenActs.{Printed}
use Rattle.efl_plain.proofs.WrittenStatements.{Case, IsWrittenPart, IsGoodPart, stmts_written}

module _ (p : EflProgram) (no_scope : scopes.first_fault p ≡ None) (no_type : types.first_fault p ≡ None) (over : IsOverScalars p) (shaped : IsGrammatical p) (tree : IsWrittenTree p) where
  -- what tokens give of each part
  parts_written : Each IsWrittenPart (program_parts p)
  parts_written =
      each_at IsWrittenPart (program_parts p)
      (λ i v e. record {
        numbers = each_at Constant (numbers_in v.form) (λ j z f. tree.numbers i j v z e f);
        constants = each_at Case (constants_in v.form) (λ j z f. tree.constants i j v z e f);
        texts = each_at Printed (texts_in v.form) (λ j t f. tree.texts i j v t e f);
      })

  module _ (n : ℕ) (u : EflProcedure) (here : slice_get p.procedures n ≡ Some u) where
    abbrev Good : Part → Type 0
    Good v = IsGoodPart p.procedures (program_variables p) n u here (M p over shaped n) (F p over shaped n) (C p over shaped n) v

    abbrev Typed : Part → Type 0
    Typed v = IsTypedPart p.procedures (program_variables p) n u here (M p over shaped n) (F p over shaped n) (C p over shaped n) 0 ⊤ (λ h. tt) v

    good : Each Good (parts_by n u)
    good = each_both Typed IsWrittenPart (parts_by n u) (parts_typed p over shaped no_scope no_type n u here 0 ⊤ (λ h. tt)) (own_parts IsWrittenPart p.procedures n u here parts_written)

    given : (K : Kind) → ((k : Kind) → gives_kind p n k ≡ true → k ≡ K) → (k : Kind) → result_of u.result ≡ Gives k → k ≡ K
    given K h k e = h k (and_some (gives k) (slice_get p.procedures n) u here (ap (is_result k) e ∙ own_result k))

    body_written : (K : Kind) → ((k : Kind) → gives_kind p n k ≡ true → k ≡ K) → AllWritten K (body_if p n (Some u))
    body_written K h =
        let a = around_unit n u in
        let before = header_type_groups a u.result ++ declarations_in a [] u.declarations in
        stmts_written p.procedures (program_variables p) n u here (M p over shaped n) (F p over shaped n) (C p over shaped n) K (given K h) (results p over shaped no_scope no_type n u here) 0 (body_around n u) refl u.body
        (each_right Good before (parts_in 0 (body_around n u) u.body) good.1)

-- A program that the checks accept, over scalars, of the shape that the grammar gives and with a tree as tokens give it: the body of each
-- procedure is written, where K is the type of its value if it has one.
pub bodies_written : (p : EflProgram) → scopes.first_fault p ≡ None → types.first_fault p ≡ None → TellsWhole p None → IsOverScalars p → IsGrammatical p → IsWrittenTree p → (n : ℕ) → is_unit p n ≡ true → (K : Kind) →
    ((k : Kind) → gives_kind p n k ≡ true → k ≡ K) → AllWritten K (bodies_of p n)
bodies_written p no_scope no_type whole over shaped tree n h K f =
    let w = some_of (slice_get p.procedures n) h in subst (λ o. AllWritten K (body_if p n o)) (sym w.1) (body_written p no_scope no_type over shaped tree n w.0 w.1 K f)
