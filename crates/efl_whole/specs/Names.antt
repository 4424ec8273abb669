-- The names of procedures and their mains, one procedure behind the other.
use Rattle.std.specs.Prelude.{ℕ, ◌+◌, Bool, true, false, ◌||◌, List, [], ◌∷◌, Option, Some, None, is_some, if◌then◌else◌, ⊤}
use Rattle.rule_table.specs.Words.{is_below, is_some_and}
use Rattle.ground.specs.declared.place.Place.{Place}
use Rattle.ground.specs.declared.fault.Refusal.{Refusal}
use Rattle.ground.specs.declared.fault.Refusal.TheVariants.{Fault as AFault, Memory}
use Rattle.efl_tree.specs.Syntax.{Text, EflProcedure, EflProgram}
use Rattle.efl_types.specs.Signatures.{known}
use Rattle.efl_types.specs.Whole.{begins_at, main_fault, TellsWhole}

-- an earlier procedure, or an intrinsic function, has the name of the procedure with this number
abbrev pub takes_name : (Text → Option ℕ) → ℕ → Option Text → Bool
takes_name numbers n o = is_some_and (λ x. is_below n (numbers x) || is_some (known x)) o

-- from the procedure with this number on
abbrev pub taken_from : (Text → Option ℕ) → ℕ → List EflProcedure → Option Place
taken_from numbers n [] = None
taken_from numbers n (u ∷ us) = if takes_name numbers n u.name then Some u.place else taken_from numbers (n + 1) us

-- of further mains, where it is known whether one stands before
abbrev pub main_behind : Bool → Place → List EflProcedure → Option Place
main_behind false end us = main_fault end us
main_behind true end [] = None
main_behind true end (u ∷ us) = Some (begins_at u.body u.finish)

abbrev pub IsRightRefusal : EflProgram → Refusal → Type 0
IsRightRefusal p (AFault f) = TellsWhole p (Some f)
IsRightRefusal p Memory = ⊤
