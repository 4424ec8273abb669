-- Whole programs (Feldman: program form; procedures): procedures have names of their own, there is one main, and no call leads back
-- to its procedure. The three are told in this order.
use Rattle.std.specs.Prelude.{◌≡◌, ℕ, Bool, ◌||◌, List, [], ◌∷◌, map, filter, filter_map, flat_map, is_none, is_some, Option, Some, None, option_map, if◌then◌else◌}
use Rattle.std.specs.List.{slice_get}
use Rattle.std.specs.Option.{option_or}
use Rattle.std.specs.Str.{bytes_eq}
use Rattle.rule_table.specs.Words.{is_some_and, first_place}
use Rattle.ground.specs.declared.place.Place.{Place}
use Rattle.ground.specs.declared.fault.Fault.{Fault}
use Rattle.ground.specs.declared.fault.FaultKind.TheVariants.{DuplicateUnit, MainCount, Recursion}
use Rattle.ground.specs.Faults.{fault_at}
use Rattle.call_cycles.specs.declared.edge.Edge.{Edge}
use Rattle.call_cycles.specs.Cycles.{IsFirstOnCycle, HasNoCycle}
use Rattle.efl_tree.specs.Syntax.{Text, Statement, EflStmts, NoStmt, AndStmt, EflProcedure, EflProgram}
use Rattle.efl_scope.specs.Parts.{Part, program_parts}
use Rattle.efl_scope.specs.Uses.{Use, Applied, uses_in}
use Rattle.efl_scope.specs.ScopeRules.{holds}
use Rattle.efl_types.specs.Signatures.{Names, known, applied}
use Rattle.efl_types.specs.Types.{calls}
use Rattle.efl_types.specs.TypeRules.{names_of, of_unit}

-- ---- names ----

-- an earlier procedure, or an intrinsic function, has the name
abbrev pub is_taken : List Text → Text → Bool
is_taken before x = holds before x || is_some (known x)

abbrev pub names_before : List EflProcedure → List Text
names_before us = filter_map (λ u. u.name) us

-- each procedure behind those before it
abbrev pub first_taken : List EflProcedure → List EflProcedure → Option Place
first_taken before [] = None
first_taken before (u ∷ us) = if is_some_and (is_taken (names_before before)) u.name then Some u.place else first_taken (u ∷ before) us

-- ---- mains ----

-- the place of the first statement, or of `end`
abbrev pub begins_at : EflStmts → Place → Place
begins_at NoStmt p = p
begins_at (AndStmt (Statement ls q k) ss) p = q

abbrev pub mains : List EflProcedure → List EflProcedure
mains us = filter (λ u. is_none u.name) us

abbrev pub main_fault : Place → List EflProcedure → Option Place
main_fault end [] = Some end
main_fault end (u ∷ []) = None
main_fault end (u ∷ v ∷ us) = Some (begins_at v.body v.finish)

-- ---- calls ----

-- the number of the first procedure of a name
abbrev pub number_of : List EflProcedure → Text → Option ℕ
number_of us x = first_place (λ u. is_some_and (bytes_eq x) u.name) us

-- the procedures that a use calls: a name before parentheses, where no array and no structure has it
abbrev pub called_by : List EflProcedure → Names → Use → Option ℕ
called_by us n (Applied x) = if calls (applied n x) then number_of us x else None
called_by us n _ = None

abbrev pub called_in : List EflProcedure → Part → List ℕ
called_in us v = of_unit [] (λ u. filter_map (called_by us (names_of us u v)) (uses_in v.form)) us v

-- a call from a procedure to another, and where it stands
pub record CallAt : Type 0 where
  pub edge : Edge
  pub place : Place

abbrev pub calls_in : List EflProcedure → Part → List CallAt
calls_in us v = map (λ to. record { edge = record { from = v.around.unit; to = to }; place = v.place }) (called_in us v)

-- all calls of a program in reading order
abbrev pub program_calls : EflProgram → List CallAt
program_calls p = flat_map (calls_in p.procedures) (program_parts p)

abbrev pub edges_of : EflProgram → List Edge
edges_of p = map (λ c. c.edge) (program_calls p)

-- ---- the first fault ----

-- what is told before the calls are asked
abbrev pub count_fault : EflProgram → Option Fault
count_fault p =
    option_or (option_map (λ q. fault_at q DuplicateUnit) (first_taken [] p.procedures)) (option_map (λ q. fault_at q MainCount) (main_fault p.finish (mains p.procedures)))

-- the first call that leads back to its own procedure
pub record IsRecursion (p : EflProgram) (f : Fault) : Type 0 where
  pub number : ℕ
  pub first : IsFirstOnCycle (edges_of p) number
  pub tells : option_map (λ c. fault_at c.place Recursion) (slice_get (program_calls p) number) ≡ Some f

abbrev pub TellsCalls : EflProgram → Option Fault → Type 0
TellsCalls p None = HasNoCycle (edges_of p)
TellsCalls p (Some f) = IsRecursion p f

-- o is the first fault of the whole program
abbrev pub TellsWhole : EflProgram → Option Fault → Type 0
TellsWhole p o = behind (count_fault p)
  where
    behind : Option Fault → Type 0
    behind None = TellsCalls p o
    behind (Some f) = o ≡ Some f
