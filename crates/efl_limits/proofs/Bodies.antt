-- The bodies of an accepted program are small, so they have few labels.
use Rattle.std.proofs.Common.{◌≤◌, ℕ, zero, suc, arith, List, [], ◌∷◌, Option, Some, None}
use Rattle.std.specs.Prelude.{⊤}
use Rattle.std.specs.List.{slice_get}
use Rattle.ground.specs.declared.token.Token.{Token}
use Rattle.efl_tree.specs.Syntax.{EflProcedure, EflProgram}
use Rattle.efl_typed.specs.Typing.{context_of, body_if, bodies_of}
use Rattle.efl_lowered.specs.Lowering.{routes_of}
use Rattle.efl_lowered.specs.Naming.{Naming}
use Rattle.efl_naming.specs.Choice.{naming_of}
use Rattle.efl_parse_table.specs.Limits.{meter}
use Rattle.efl_parse_values.specs.Values.{program}
use Rattle.efl_parse.specs.Efl.{grammar}
use Rattle.grammar.specs.Limits.{IsAccepted}
use Rattle.rat_room.proofs.TreeWeights.{Each}
use Rattle.efl_limits.specs.Sizes.{stmts_size}
use Rattle.efl_limits.specs.Laws.{ParsedHasFewLabels}
use Rattle.efl_limits.proofs.SourceLabels.{stmts_labels}
use Rattle.efl_limits.proofs.RouteBytes.{label_bytes}
use Rattle.efl_limits.proofs.StatementBytes as body
use Rattle.efl_limits.proofs.ProcedureSizes.{IsFew, procedures_few}

abbrev pub IfSome : {A : Type 0} → (A → Type 0) → Option A → Type 0
IfSome Q None = ⊤
IfSome Q (Some x) = Q x

pub each_at : {A : Type 0} (Q : A → Type 0) (xs : List A) (n : ℕ) → Each Q xs → IfSome Q (slice_get xs n)
each_at Q [] n h = tt
each_at Q (x ∷ xs) zero h = h.0
each_at Q (x ∷ xs) (suc n) h = each_at Q xs n h.1

small_if : (p : EflProgram) (n : ℕ) (o : Option EflProcedure) → IfSome IsFew o → stmts_size (body_if p n o) ≤ 20000
small_if p n None h = omega arith
small_if p n (Some u) h = h 0 (context_of p n u)

module _ (ts : List Token) (tree : EflProgram) (accepted : IsAccepted grammar meter ts (program tree)) where
  pub body_small : (n : ℕ) → stmts_size (bodies_of tree n) ≤ 20000
  body_small n = small_if tree n (slice_get tree.procedures n) (each_at IsFew tree.procedures n (procedures_few ts tree accepted))

pub parsed_has_few_labels : ParsedHasFewLabels
parsed_has_few_labels ts tree accepted n unit =
    let names : Naming = naming_of tree in
    omega (
      arith,
      body_small ts tree accepted n,
      stmts_labels (bodies_of tree n),
      label_bytes (routes_of names tree n),
      body.stmts_few names.home names.temp names.callee (names.label n) (names.callee n) (bodies_of tree n) [] 0,
    )
