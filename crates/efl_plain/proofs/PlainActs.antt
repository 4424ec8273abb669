-- The statements that a procedure with a written body becomes are plain ones over the names of its unit.
use Rattle.std.proofs.Common.{◌≡◌, ℕ, true, [], Some, refl, sym, ap, ◌∙◌, subst, inl, inr, arith}
use Rattle.std.specs.List.{slice_get}
use Rattle.std.proofs.lemmas.Bool.{and_parts, or_cases}
use Rattle.rule_table.specs.Words.{is_some_and}
use Rattle.ground.specs.declared.value.Kind.{Kind}
use Rattle.ground.specs.declared.value.Kind.TheVariants.{Integer, Logical}
use Rattle.efl_tree.specs.Syntax.{EflProcedure, EflProgram}
use Rattle.efl_types.specs.Signatures.{Result, Gives, result_of}
use Rattle.efl_typed.specs.Typing.{bodies_of}
use Rattle.plain_units.specs.Plain.{IsPlain}
use Rattle.routed_units.specs.Routed.{AllActs}
use Rattle.efl_lowered.specs.Naming.{Naming}
use Rattle.efl_lowered.specs.Lowering.{gives, routes_of}
use Rattle.efl_lowered.specs.Facts.{is_unit, is_named, gives_kind, has_value, is_function, uses_function, uses_procedure, has_scalar, AreReady}
use Rattle.efl_lowered.proofs.Lists.{some_of}
use Rattle.efl_plain.specs.Names.{IsVariableName, Home, Temporary, Own, IsFunctionName, IsProcedureName}
use Rattle.efl_plain.specs.Written.{AllWritten}
use Rattle.efl_plain.proofs.Held.{result_is}
use Rattle.efl_plain.proofs.Alike.{function_use, procedure_use}
use Rattle.efl_plain.proofs.ActsOfStatements.{all_plain}

abbrev pub ArePlainActs : EflProgram → Naming → ℕ → Type 0
ArePlainActs p names n = AllActs (IsPlain (IsVariableName p names n) (IsFunctionName p names n) (IsProcedureName p names n)) (routes_of names p n)

-- the type of a value, where there is one
abbrev pub type_given : Result → Kind
type_given (Gives k) = k
type_given r = Integer

module _ (p : EflProgram) (names : Naming) (ready : AreReady p names) (n : ℕ) where
  module _ (u : EflProcedure) (here : slice_get p.procedures n ≡ Some u) where
    abbrev pub K : Kind
    K = type_given (result_of u.result)

    pub given_alone : (k : Kind) → gives_kind p n k ≡ true → k ≡ K
    given_alone k h = sym (ap type_given (result_is k (result_of u.result) (sym (ap (is_some_and (gives k)) here) ∙ h)))

    gives_it : (k : Kind) → gives_kind p n k ≡ true → gives_kind p n K ≡ true
    gives_it k h = subst (λ j. gives_kind p n j ≡ true) (given_alone k h) h

    own_value : is_function p n ≡ true → IsVariableName p names n (names.callee n) K
    own_value h = Own h (elim (or_cases (gives_kind p n Integer) (gives_kind p n Logical) (and_parts (is_named p n) (has_value p n) h).1) [ inl i ↦ gives_it Integer i | inr l ↦ gives_it Logical l ]) refl

  pub plain_acts : is_unit p n ≡ true → ((K : Kind) → ((k : Kind) → gives_kind p n k ≡ true → k ≡ K) → AllWritten K (bodies_of p n)) → ArePlainActs p names n
  plain_acts is written =
      let w = some_of (slice_get p.procedures n) is in
      all_plain names.home names.temp names.callee (names.label n) (names.callee n) (IsVariableName p names n) (IsFunctionName p names n) (IsProcedureName p names n) (λ v k. has_scalar p n v k ≡ true) (λ m k c. uses_function p n m k c ≡ true) (λ m c. uses_procedure p n m c ≡ true) (names.room n) (is_function p n ≡ true) (K w.0 w.1)
      (λ v k h. Home v h refl) (λ k i lt. Temporary i (omega (lt, arith)) refl)
      (λ m k c h. let f = function_use p n m k c h in record { number = m; called = f.0.called; named = f.0.named; gives = f.1; is = refl })
      (λ m c h. let f = procedure_use p n m c h in record { number = m; called = f.0.called; named = f.0.named; gives = f.1; is = refl })
      (own_value w.0 w.1) (bodies_of p n) [] 0 (ready.bodies n is) (written (K w.0 w.1) (given_alone w.0 w.1))
