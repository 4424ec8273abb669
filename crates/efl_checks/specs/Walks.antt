-- What a walk over parts does, wherever these stand.
use Rattle.std.specs.Prelude.{◌≡◌, ℕ, List, [], ◌∷◌, ◌++◌, Option, Some, None, Box}
use Rattle.std.specs.List.{slice_get}
use Rattle.std.specs.declared.alloc.Global.{Global}
use Rattle.ground.specs.declared.place.Place.{Place}
use Rattle.efl_tree.specs.declared.expression.EflExpr.{EflExpr}
use Rattle.efl_tree.specs.declared.statement.EflStmt as stmts
use Rattle.efl_tree.specs.Syntax.{Text, EflStmt, Statement, EflKind, Block, If, IfElse, While, For, Repeat, RepeatUntil, Do, Switch, EflStmts, NoStmt, AndStmt, EflCases, NoCase, AndCase, EflProcedure}
use Rattle.efl_tree.specs.Views.{expr_of, stmt_of}
use Rattle.efl_scope.specs.Scopes as scopes
use Rattle.efl_scope.specs.Scopes.{implied_of, behind_all, outer}
use Rattle.efl_scope.specs.Parts.{Around, Part, part, Header, Until, among, into, declarations_in, parts_of, parts_in, around_unit, parts_by, parts_from}
use Rattle.efl_types.specs.Signatures.{Names, signatures, result_of}
use Rattle.efl_expressions.specs.declared.names.Block as memory
use Rattle.efl_expressions.specs.declared.names.Blocks.{Blocks}
use Rattle.efl_expressions.specs.declared.names.Blocks.TheBlock.{Outside}
use Rattle.efl_names.specs.declared.letters.Letters.{Letters}
use Rattle.efl_names.specs.declared.units.Outcome.{Outcome}
use Rattle.efl_names.specs.declared.units.Units.{Units}
use Rattle.efl_blocks.specs.declared.types.Types.{Types}
use Rattle.efl_blocks.specs.declared.homes.Position.{Position}
use Rattle.efl_blocks.specs.declared.homes.Homes.{Homes}
use Rattle.efl_blocks.specs.declared.outer.Outer.{Outer}
use Rattle.efl_blocks.specs.Within.{Later, Within}
use Rattle.efl_blocks.specs.HomeViews.{position_of, AreOutside}
use Rattle.efl_blocks.specs.OuterViews.{AreRules, IsOuter}
use Rattle.efl_blocks.specs.ProcedureViews.{AreAllUnits, AreOuters}
use Rattle.efl_initial_values.specs.declared.areas.Areas.{Areas}
use Rattle.efl_reading.specs.declared.sites.Procedure.{Procedure}
use Rattle.efl_reading.specs.declared.sites.Site.{Site}
use Rattle.efl_reading.specs.declared.walk.Walk.{Walk}
use Rattle.efl_reading.specs.Reading.{IsProcedure, IsSite}
use Rattle.efl_reading.specs.Walked.{Read}
use Rattle.efl_declarations.specs.Checks.{IsInner}

-- the names of the parts there
abbrev pub names_around : List EflProcedure → EflProcedure → Around → Names
names_around us u a = record { blocks = a.blocks; implied = implied_of u; units = signatures us; result = result_of u.result }

-- ---- trees ----

-- lists of common stand in the outer block alone
abbrev mutual
  pub IsFit : EflStmt → Type 0
  IsFit (Statement ls p k) = KindFits k

  pub KindFits : EflKind → Type 0
  KindFits (Block ds ss) = ((n : ℕ) (h : List ℕ) → AreOutside (n ∷ h) ds) × AllFit ss
  KindFits (If e s) = IsFit s
  KindFits (IfElse e s t) = IsFit s × IsFit t
  KindFits (While e s) = IsFit s
  KindFits (For b e c s) = IsFit s
  KindFits (Repeat s) = IsFit s
  KindFits (RepeatUntil s e p) = IsFit s
  KindFits (Do x b c d s) = IsFit s
  KindFits (Switch e cs) = CasesFit cs
  KindFits _ = Unit {0}

  pub AllFit : EflStmts → Type 0
  AllFit NoStmt = Unit {0}
  AllFit (AndStmt s ss) = IsFit s × AllFit ss

  pub CasesFit : EflCases → Type 0
  CasesFit NoCase = Unit {0}
  CasesFit (AndCase zs fallback ss p cs) = AllFit ss × CasesFit cs

abbrev pub OtherFits : Option (Box stmts.EflStmt Global) → Type 0
OtherFits None = Unit {0}
OtherFits (Some t) = IsFit (stmt_of t.value)

abbrev pub ProceduresFit : List EflProcedure → Type 0
ProceduresFit [] = Unit {0}
ProceduresFit (u ∷ us) = AllFit u.body × ProceduresFit us

-- a part that stands in a list
abbrev pub IsListed : Position → Type 0
IsListed p = (n : ℕ) × (h : List ℕ) × (position_of p ≡ n ∷ h)

-- ---- sites ----

-- a procedure is known by these
pub record IsKnown (n : ℕ) (xs : List Text) (ls : Letters) (us : Units) (o : Outcome) (all : Areas) (p : Procedure) : Type 0 where
  pub unit : p.unit ≡ n
  pub formals : p.formals.now ≡ xs
  pub letters : p.letters.now ≡ ls
  pub units : p.units.now ≡ us
  pub outcome : p.outcome ≡ o
  pub areas : p.areas.now ≡ all

-- a site is made of these
pub record IsMade (own : Procedure) (at : Position) (xs : List Text) (bs : Blocks) (hs : Homes) (s : Site) : Type 0 where
  pub procedure : s.procedure.now ≡ own
  pub position : s.position.now ≡ at
  pub formals : s.formals.now ≡ xs
  pub blocks : s.blocks.now ≡ bs
  pub homes : s.homes.now ≡ hs

-- the parts that stand there come behind those that were read
abbrev pub Adds : Types → Site → Walk → (Around → List Part) → Walk → Type 0
Adds y s p parts q = (us : List EflProcedure) (u : EflProcedure) (a : Around) (vs : List Part) → IsSite y us u a s → Read us vs p → Read us (vs ++ parts a) q

-- the same while types are made, of what is fit
pub record Reads (y : Types) (s : Site) (p : Walk) (Fit : Type 0) (parts : Around → List Part) (z : Types) (q : Walk) : Type 0 where
  pub later : Later y z
  pub adds : Fit → Adds y s p parts q

-- the statements of a block, which is known
pub record ReadsInside (y : Types) (known : memory.Block) (s : Site) (p : Walk) (ss : EflStmts) (z : Types) (q : Walk) : Type 0 where
  pub later : Later y z
  pub adds : AllFit ss → (us : List EflProcedure) (u : EflProcedure) (a : Around) (b : scopes.Block) (bs : scopes.Blocks) (vs : List Part) → IsInner y us u a b bs s known →
      Read us vs p → Read us (vs ++ parts_in 0 a ss) q

-- ---- statements ----

-- the statement of an `if`, and the one behind `else`
abbrev pub first_parts : EflStmt → Option (Box stmts.EflStmt Global) → Around → List Part
first_parts s None a = parts_of a s
first_parts s (Some t) a = parts_of (into 0 a) s

abbrev pub other_parts : Option (Box stmts.EflStmt Global) → Around → List Part
other_parts None a = []
other_parts (Some t) a = parts_of (into 1 a) (stmt_of t.value)

abbrev pub until_parts : Option (EflExpr × Place) → Around → List Part
until_parts None a = []
until_parts (Some u) a = part a u.1 (Until (expr_of u.0)) ∷ []

-- ---- procedures ----

-- the header of the procedure with this number and this outer block
abbrev pub AddsHeader : ℕ → EflProcedure → Letters → memory.Block → Walk → Walk → Type 0
AddsHeader n u letters block p q = (y : Types) (us : List EflProcedure) (a : Around) (vs : List Part) → slice_get us n ≡ Some u → a.unit ≡ n → a.blocks ≡ outer u → AreRules y (implied_of u) letters →
    Within y (outer u) block Outside → Read us vs p → Read us (vs ++ part a u.place (Header u.result u.formals) ∷ []) q

-- the declarations and statements
abbrev pub outer_parts : ℕ → EflProcedure → List Part
outer_parts n u = let a = around_unit n u in declarations_in a [] u.declarations ++ parts_in 0 (among (behind_all (outer u) u.declarations) a) u.body

pub record ReadsOuter (y : Types) (u : EflProcedure) (block : memory.Block) (own : Procedure) (p : Walk) (z : Types) (q : Walk) : Type 0 where
  pub later : Later y z
  pub adds : AllFit u.body → (us : List EflProcedure) (vs : List Part) → IsProcedure y us u own → Within y (outer u) block Outside → Read us vs p → Read us (vs ++ outer_parts own.unit u) q

-- a procedure of this number
pub record ReadsProcedure (y : Types) (n : ℕ) (u : EflProcedure) (o : Outer) (units : Units) (p : Walk) (z : Types) (q : Walk) : Type 0 where
  pub later : Later y z
  pub adds : AllFit u.body → (us : List EflProcedure) (vs : List Part) → slice_get us n ≡ Some u → IsOuter y u o → AreAllUnits y (signatures us) units → Read us vs p → Read us (vs ++ parts_by n u) q

-- all procedures of a program
pub record ReadsAll (y : Types) (us : List EflProcedure) (os : List Outer) (units : Units) (p : Walk) (z : Types) (q : Walk) : Type 0 where
  pub later : Later y z
  pub adds : ProceduresFit us → AreOuters y us os → AreAllUnits y (signatures us) units → Read us [] p → Read us (parts_from 0 us) q
