-- What the check of types answers: that no part breaks a rule and all variables are in their limit, or the first fault.
use Rattle.std.specs.Prelude.{◌≡◌, Option, Some, ⊤}
use Rattle.std.specs.Option.{option_or}
use Rattle.ground.specs.declared.fault.Fault.{Fault}
use Rattle.ground.specs.declared.fault.Refusal.{Refusal}
use Rattle.ground.specs.declared.fault.Refusal.TheVariants.{Fault as AFault, Memory}
use Rattle.efl_tree.specs.Syntax.{EflProgram}
use Rattle.efl_types.specs.TypeRules.{first_fault}
use Rattle.efl_types.specs.Storage.{storage_fault}
use Rattle.efl_checks.specs.Walks.{ProceduresFit}

-- the first fault of types, and else of the limit on all variables
abbrev pub typed_fault : EflProgram → Option Fault
typed_fault p = option_or (first_fault p) (storage_fault p)

-- of a program whose inner blocks have no lists of common
abbrev pub IsRightRefusal : EflProgram → Refusal → Type 0
IsRightRefusal p (AFault f) = ProceduresFit p.procedures → typed_fault p ≡ Some f
IsRightRefusal p Memory = ⊤
