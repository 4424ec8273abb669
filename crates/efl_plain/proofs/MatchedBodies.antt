-- In the typed bodies of a program over scalars that the checks accept each actual of a call has the type of its formal.
use Rattle.std.proofs.Common.{◌≡◌, ℕ, [], ◌++◌, None, Some, refl, sym, subst}
use Rattle.std.specs.Prelude.{⊤}
use Rattle.std.specs.List.{slice_get}
use Rattle.efl_tree.specs.Syntax.{EflProcedure, EflProgram}
use Rattle.efl_scope.specs.Parts.{Around, around_unit, header_type_groups, declarations_in, parts_in}
use Rattle.efl_scope.specs.Marks.{program_variables}
use Rattle.efl_scope.specs.FirstFault as scopes
use Rattle.efl_types.specs.TypeRules as types
use Rattle.efl_types.specs.Whole.{TellsWhole}
use Rattle.efl_typed.specs.Typing.{body_if, body_around}
use Rattle.efl_typed.proofs.Each.{each_right}
use Rattle.efl_lowered.specs.Facts.{IsOverScalars}
use Rattle.efl_lowered.specs.Grammatical.{IsGrammatical}
use Rattle.efl_lowered.proofs.Lists.{some_of}
use Rattle.efl_lowered.proofs.TypedParts.{M, F, C, parts_typed}
use Rattle.efl_lowered.proofs.TypedStatements.{at}
use Rattle.efl_plain.specs.Matched.{StmtsCall, AreMatched}
use Rattle.efl_plain.proofs.FormalTypes.{KnowsFormals, knows_formals}
use Rattle.efl_plain.proofs.MatchedExpressions.{Fit}
use Rattle.efl_plain.proofs.MatchedStatements.{IsGoodPart, stmts_matched}

module _ (p : EflProgram) (no_scope : scopes.first_fault p ≡ None) (no_type : types.first_fault p ≡ None) (over : IsOverScalars p) (shaped : IsGrammatical p) where
  body_matched : (n : ℕ) (u : EflProcedure) → slice_get p.procedures n ≡ Some u → StmtsCall (Fit p) (body_if p n (Some u))
  body_matched n u here =
      let us = p.procedures in
      let xs = program_variables p in
      let M1 = M p over shaped n in
      let F1 = F p over shaped n in
      let C1 = C p over shaped n in
      let known : (b : Around) → KnowsFormals p (at us xs n u here b) = λ b. knows_formals p over (at us xs n u here b) refl refl in
      let a = around_unit n u in
      let before = header_type_groups a u.result ++ declarations_in a [] u.declarations in
      stmts_matched p us xs n u here M1 F1 C1 known 0 (body_around n u) refl u.body
      (each_right (IsGoodPart p us xs n u here M1 F1 C1 known) before (parts_in 0 (body_around n u) u.body) (parts_typed p over shaped no_scope no_type n u here 0 ⊤ (λ h. tt)).1)

-- In a program that the checks accept, over scalars and of the shape that the grammar gives, each actual has the type of its formal.
pub bodies_matched : (p : EflProgram) → scopes.first_fault p ≡ None → types.first_fault p ≡ None → TellsWhole p None → IsOverScalars p → IsGrammatical p → AreMatched p
bodies_matched p no_scope no_type whole over shaped n h =
    let w = some_of (slice_get p.procedures n) h in subst (λ o. StmtsCall (Fit p) (body_if p n o)) (sym w.1) (body_matched p no_scope no_type over shaped n w.0 w.1)
