-- The typed bodies of a program.
use Rattle.std.specs.Prelude.{◌≡◌, ℕ, true, List, length, Some}
use Rattle.std.specs.List.{slice_get}
use Rattle.std.specs.declared.alloc.Global.{Global}
use Rattle.std.specs.Prelude.{Vec}
use Rattle.efl_tree.specs.Syntax.{EflProcedure, EflProgram}
use Rattle.efl_scope.specs.Parts.{parts_by}
use Rattle.efl_scope.specs.Marks.{program_variables}
use Rattle.efl_typed.specs.Typing.{context_of}
use Rattle.efl_typed.specs.Typing as typing
use Rattle.efl_typed_tree.specs.declared.statement.TypedStmt.{TypedStmt}
use Rattle.efl_typed_tree.specs.Views as views
use Rattle.efl_built.specs.Unbuilt.{are_built}
use Rattle.efl_variables.specs.declared.variables.Variables.{Variables}
use Rattle.efl_variables.specs.Numbered.{AreVariables}
use Rattle.efl_bindings.specs.declared.scopes.Table.{Table}
use Rattle.efl_bindings.specs.declared.scopes.Scopes.{Scopes}
use Rattle.efl_bindings.specs.declared.letters.Letters.{Letters}
use Rattle.efl_bindings.specs.declared.procedures.Procedures.{Procedures}
use Rattle.efl_bindings.specs.declared.sites.Site.{Site}
use Rattle.efl_bindings.specs.Bindings.{AreProcedures}
use Rattle.efl_bindings.specs.Declarations.{ImpliesAll, IsOuter}

-- of each procedure its statements, by its number
pub record AreBodies (p : EflProgram) (bodies : List (Vec TypedStmt Global)) : Type 0 where
  pub many : length bodies ≡ length p.procedures
  pub each : (n : ℕ) (b : Vec TypedStmt Global) → slice_get bodies n ≡ Some b → views.stmts_of b.items ≡ typing.bodies_of p n

-- the statements of the procedure with this number, in a program of these procedures and variables
pub record IsBody (n : ℕ) (u : EflProcedure) (procedures : Procedures) (variables : Variables) (ts : List TypedStmt) : Type 0 where
  pub is : (p : EflProgram) → are_built (parts_by n u) ≡ true → AreProcedures p.procedures procedures → AreVariables (program_variables p) variables →
      views.stmts_of ts ≡ typing.stmts_from 0 (context_of p n u) u.body

-- the same where its letters give these types, and its outer block has these variables
pub record IsMade (n : ℕ) (u : EflProcedure) (procedures : Procedures) (letters : Letters) (variables : Variables) (table : Table) (ts : List TypedStmt) : Type 0 where
  pub is : ImpliesAll u.declarations letters → IsOuter n u letters variables table → IsBody n u procedures variables ts

-- the bodies of these procedures
pub record AreEach (us : List EflProcedure) (procedures : Procedures) (variables : Variables) (bodies : List (Vec TypedStmt Global)) : Type 0 where
  pub many : length bodies ≡ length us
  pub each : (n : ℕ) (b : Vec TypedStmt Global) → slice_get bodies n ≡ Some b → (u : EflProcedure) × (slice_get us n ≡ Some u) × IsBody n u procedures variables b.items

-- where the body of the procedure with this number begins
pub record IsAlone (n : ℕ) (procedures : Procedures) (letters : Letters) (variables : Variables) (scopes : Scopes) (s : Site) : Type 0 where
  pub unit : s.unit ≡ n
  pub place : s.place ≡ Some 0
  pub procedures_are : s.procedures.now ≡ procedures
  pub letters_are : s.letters.now ≡ letters
  pub variables_are : s.variables.now ≡ variables
  pub scopes_are : s.scopes.now ≡ scopes
