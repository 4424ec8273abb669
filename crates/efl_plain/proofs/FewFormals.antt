-- A procedure of a program that the checks accept has at most 32 formals.
use Rattle.std.proofs.Common.{◌≡◌, ◌≤◌, ℕ, [], length, None, Some, refl}
use Rattle.std.specs.Prelude.{flat_map, nat_lt}
use Rattle.std.specs.List.{slice_get}
use Rattle.std.proofs.lemmas.Bool.{ltb-false}
use Rattle.efl_tree.specs.Syntax.{EflProcedure, EflProgram}
use Rattle.efl_scope.specs.Scopes.{implied_of, own_variables, undeclared}
use Rattle.efl_scope.specs.Parts.{Part, Header, part, around_unit}
use Rattle.efl_scope.specs.Marks.{program_variables}
use Rattle.efl_types.specs.declared.rule.TypeRule.TheVariants.{TypeClash, WrongCount}
use Rattle.efl_types.specs.Expressions.{when}
use Rattle.efl_types.specs.Declarations.{formal_faults, is_shape}
use Rattle.efl_types.specs.TypeRules.{first_fault, part_faults}
use Rattle.efl_lowered.proofs.TypedRules.{none_of_three, fails}
use Rattle.efl_lowered.proofs.TypedChecks.{no_faults}
use Rattle.efl_lowered.proofs.TypedStatements.{part_typed}
use Rattle.efl_lowered.proofs.TypedVariables.{own_parts}

module _ (p : EflProgram) (no_type : first_fault p ≡ None) where
  abbrev Checked : Part → Type 0
  Checked v = part_faults p.procedures v ≡ []

  pub few_formals : (n : ℕ) (u : EflProcedure) → slice_get p.procedures n ≡ Some u → length u.formals ≤ 32
  few_formals n u e =
      let head = (own_parts Checked p.procedures n u e (no_faults p no_type)).0 in
      let hs = none_of_three (flat_map formal_faults (undeclared (implied_of u) (own_variables u) u.formals)) (when (is_shape u.result) TypeClash) (when (nat_lt 32 (length u.formals)) WrongCount) (part_typed p.procedures (program_variables p) n u e (part (around_unit n u) u.place (Header u.result u.formals)) refl head) in
      ltb-false 32 (length u.formals) (fails (nat_lt 32 (length u.formals)) WrongCount hs.2)
