-- The limit on the places of all variables: a program has at most 1,000,000, where formals have none, and those of an area count in the
-- first procedure that has it.
use Rattle.std.specs.Prelude.{ℕ, ◌+◌, nat_eq, nat_lt, min, Bool, true, not, ◌&&◌, List, [], ◌∷◌, filter, sum_by, Option, Some, None, if◌then◌else◌}
use Rattle.std.specs.Str.{bytes_eq}
use Rattle.rule_table.specs.Words.{first_place, is_number}
use Rattle.ground.specs.declared.place.Place.{Place}
use Rattle.ground.specs.declared.fault.Fault.{Fault}
use Rattle.ground.specs.declared.fault.FaultKind.TheVariants.{Limit}
use Rattle.efl_tree.specs.Syntax.{Text, EflProcedure, EflProgram}
use Rattle.efl_scope.specs.DataTypes.{DataType, places}
use Rattle.efl_scope.specs.Scopes.{Variable}
use Rattle.efl_scope.specs.ScopeRules.{holds, has_area}
use Rattle.efl_scope.specs.Marks.{Located, program_variables}
use Rattle.efl_types.specs.Presets.{area_if_outer}
use Rattle.efl_types.specs.Whole.{begins_at}

-- What has more places than a variable may have counts as one more: it is refused where it is declared, so no accepted program has any.
abbrev pub counted : DataType → ℕ
counted t = min (places t) 32768

abbrev pub is_formal : EflProcedure → Variable → Bool
is_formal u v = bytes_eq v.home [] && holds u.formals v.name

-- the procedure with this number is the first that has the area
abbrev pub is_first_of : List EflProcedure → ℕ → Option Text → Bool
is_first_of us n None = true
is_first_of us n (Some q) = is_number n (first_place (has_area q) us)

abbrev pub counts_in : List EflProcedure → ℕ → EflProcedure → Located → Bool
counts_in us n u x = nat_eq x.unit n && (not (is_formal u x.variable) && is_first_of us n (area_if_outer x.variable))

-- the places that count in a procedure
abbrev pub unit_places : List EflProcedure → List Located → ℕ → EflProcedure → ℕ
unit_places us xs n u = sum_by (λ x. counted x.variable.kind) (filter (counts_in us n u) xs)

abbrev pub limit_at : Place → Fault
limit_at p = record { kind = Limit; place = p; number = 8 }

-- from the n-th procedure on, with so many places before: at the first statement of the procedure that passes the limit, or its `end`
abbrev pub passed_from : List EflProcedure → List Located → ℕ → ℕ → List EflProcedure → Option Fault
passed_from all xs n before [] = None
passed_from all xs n before (u ∷ us) = let sum = before + unit_places all xs n u in
    if nat_lt 1000000 sum then Some (limit_at (begins_at u.body u.finish)) else passed_from all xs (n + 1) sum us

-- of a program whose scopes and types have no fault
abbrev pub storage_fault : EflProgram → Option Fault
storage_fault p = passed_from p.procedures (program_variables p) 0 0 p.procedures
