-- The calls of a program as a walk over it finds them, one behind the other.
use Rattle.std.specs.Prelude.{ℕ, ◌+◌, List, [], ◌∷◌, ◌++◌, Option, Some, None}
use Rattle.ground.specs.declared.place.Place.{Place}
use Rattle.call_cycles.specs.declared.edge.Edge.{Edge}
use Rattle.efl_tree.specs.Syntax.{Text, EflDecl, EflStmt, Statement, EflKind, Block, If, IfElse, While, For, Repeat, RepeatUntil, Do, Switch, EflStmts, NoStmt, AndStmt, EflCases, NoCase, AndCase, EflProcedure}
use Rattle.efl_scope.specs.Uses.{Use, Applied, uses_of, uses_by, uses_declared}
use Rattle.efl_whole.specs.declared.roles.Role.{Role}
use Rattle.efl_whole.specs.declared.roles.Role.TheVariants.{Indexed}
use Rattle.efl_whole.specs.Roles.{Roles, no_role, inside, behind_kind, behind_all, with_formals, Listed, listed}

-- calls from procedures to others, and where they stand
pub record Calls : Type 0 where
  pub edges : List Edge
  pub places : List Place

abbrev pub no_calls : Calls
no_calls = record { edges = []; places = [] }

-- where a part is: the procedures by their names, the number of its own, and its names
pub record Site : Type 0 where
  pub numbers : Text → Option ℕ
  pub unit : ℕ
  pub roles : Roles

-- a call of the procedure with this number, if there is one
abbrev pub calling : Site → Place → Option ℕ → Calls → Calls
calling s p None cs = cs
calling s p (Some to) cs = record { edges = cs.edges ++ record { from = s.unit; to = to } ∷ []; places = cs.places ++ p ∷ [] }

-- what is called by a name before parentheses
abbrev pub called_as : Option ℕ → Option Role → Option ℕ
called_as o (Some Indexed) = None
called_as o _ = o

abbrev pub using : Site → Place → Use → Calls → Calls
using s p (Applied x) cs = calling s p (called_as (s.numbers x) (s.roles x)) cs
using s p _ cs = cs

abbrev pub using_all : Site → Place → List Use → Calls → Calls
using_all s p [] cs = cs
using_all s p (u ∷ us) cs = using_all s p us (using s p u cs)

-- ---- declarations and statements ----

-- in a block with these names
abbrev pub entering : Roles → Site → Site
entering own s = record { numbers = s.numbers; unit = s.unit; roles = inside own s.roles }

abbrev pub declaration_calls : Site → EflDecl → Calls → Calls
declaration_calls s d cs = using_all s d.place (uses_declared d.kind) cs

-- with the names before the first of them
abbrev pub declarations_calls : Site → List EflDecl → Roles → Calls → Calls
declarations_calls s [] own cs = cs
declarations_calls s (d ∷ ds) own cs = declarations_calls s ds (behind_kind d.kind own) (declaration_calls (entering own s) d cs)

abbrev mutual
  pub statement_calls : Site → EflStmt → Calls → Calls
  statement_calls s (Statement ls p k) cs = within_calls s k (using_all s p (uses_by k) cs)

  pub within_calls : Site → EflKind → Calls → Calls
  within_calls s (Block ds ss) cs =
      let own = (listed s.roles ds).variables in
      statements_calls (entering (behind_all ds own) s) ss (declarations_calls s ds own cs)
  within_calls s (If e t) cs = statement_calls s t cs
  within_calls s (IfElse e t u) cs = statement_calls s u (statement_calls s t cs)
  within_calls s (While e t) cs = statement_calls s t cs
  within_calls s (For b e c t) cs = statement_calls s t cs
  within_calls s (Repeat t) cs = statement_calls s t cs
  within_calls s (RepeatUntil t e p) cs = using_all s p (uses_of e) (statement_calls s t cs)
  within_calls s (Do x b c d t) cs = statement_calls s t cs
  within_calls s (Switch e clauses) cs = clauses_calls s clauses cs
  within_calls s _ cs = cs

  pub statements_calls : Site → EflStmts → Calls → Calls
  statements_calls s NoStmt cs = cs
  statements_calls s (AndStmt t ts) cs = statements_calls s ts (statement_calls s t cs)

  pub clauses_calls : Site → EflCases → Calls → Calls
  clauses_calls s NoCase cs = cs
  clauses_calls s (AndCase es fallback ts p clauses) cs = clauses_calls s clauses (statements_calls s ts cs)

-- ---- procedures ----

abbrev pub outside : (Text → Option ℕ) → ℕ → Site
outside numbers n = record { numbers = numbers; unit = n; roles = no_role }

-- of a procedure, by what its declarations list
abbrev pub body_calls : Site → EflProcedure → Listed → Calls → Calls
body_calls s u l cs =
    let own = with_formals l.letters u.formals l.variables in
    statements_calls (entering (behind_all u.declarations own) s) u.body (declarations_calls s u.declarations own cs)

abbrev pub procedure_calls : (Text → Option ℕ) → ℕ → EflProcedure → Calls → Calls
procedure_calls numbers n u cs = body_calls (outside numbers n) u (listed no_role u.declarations) cs

-- from the procedure with this number on
abbrev pub procedures_calls : (Text → Option ℕ) → ℕ → List EflProcedure → Calls → Calls
procedures_calls numbers n [] cs = cs
procedures_calls numbers n (u ∷ us) cs = procedures_calls numbers (n + 1) us (procedure_calls numbers n u cs)
